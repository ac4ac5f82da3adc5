use Rattle.std.proofs.Common.{◌≡◌, ◌++◌, ◌∙◌, length, ap, rules}
use Rattle.vx_rows.specs.Span.{span}
use Rattle.vx_rows.specs.Bits.{present_at}
use Rattle.vx_rows.specs.Written.{presence_bytes}
use Rattle.vx_rows.proofs.WrittenLemmas.{bools_written}
use Rattle.vx_rows.proofs.bool_column.BoolColumn.push_bytes.Goals as goal

pub returns : goal.returns
returns c =
    let count : c.len.result ≡ length c.self.inside.values = search rules in
    bools_written c.self.inside.may_be_null c.self.inside.present c.self.inside.values c.args.self.now c.args.bytes.now.items c.push_presence.new.bytes.items c.push_bytes.new.bytes.items c.self.view_is
    c.self.invariant.1 (c.in_ok-push_presence.ensures ∙ ap (λ n. c.args.bytes.now.items ++ presence_bytes c.self.inside.may_be_null (span (present_at c.self.inside.present) 0 n)) count)
    c.in_ok-push_bytes.ensures
