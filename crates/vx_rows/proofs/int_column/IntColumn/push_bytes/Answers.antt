use Rattle.std.proofs.Common.{◌≡◌, ◌++◌, ◌∙◌, ap, rules}
use Rattle.std.specs.List.{flat_map}
use Rattle.vx_rows.specs.Span.{span}
use Rattle.vx_rows.specs.Columns.{int_row}
use Rattle.vx_rows.specs.Written.{cell}
use Rattle.vx_rows.proofs.WrittenLemmas.{ints_written}
use Rattle.vx_rows.proofs.int_column.IntColumn.push_bytes.Goals as goal

pub returns : goal.returns
returns c =
    let held : c.as_slice.result.now ≡ c.self.inside.held.bytes = search rules in
    ints_written c.self.inside.kind c.self.inside.may_be_null c.self.inside.present c.self.inside.held.bytes c.self.inside.at c.self.inside.count c.args.self.now c.args.bytes.now.items
    c.push_presence.new.bytes.items c.push_values.new.bytes.items c.self.view_is c.in_ok-push_presence.ensures
    (c.in_ok-push_values.ensures.ok
    ∙ ap (λ b. c.push_presence.new.bytes.items ++ flat_map (cell c.self.inside.kind) (span (int_row c.self.inside.kind c.self.inside.present b c.self.inside.at) 0 c.self.inside.count)) held)
