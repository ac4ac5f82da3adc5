use Rattle.std.proofs.Common.{◌≡◌, ◌∙◌, ap, sym, rules, to_z, of_z}
use Rattle.std.specs.Int.{w128}
use Rattle.vx_data.specs.declared.ptype.PType.{PType}
use Rattle.vx_rows.specs.Span.{span}
use Rattle.vx_rows.specs.Columns.{Ints, value_place, value_of, raw_at, int_row}
use Rattle.vx_rows.proofs.IntLemmas.{int_found}
use Rattle.vx_rows.proofs.int_column.IntColumn.int_of.Goals as goal

pub returns : goal.returns
returns c =
    let kind : c.self.inside.kind ≡ c.args.ptype = ap (λ (v : Ints). v.ptype) c.self.view_is ∙ c.requires.typed in
    let rows = ap (λ (p : PType). span (int_row p c.self.inside.present c.self.inside.held.bytes c.self.inside.at) 0 c.self.inside.count) (sym kind) ∙ ap (λ (v : Ints). v.rows) c.self.view_is in
    let fits : to_z w128 (of_z w128 c.value_of_row.result) ≡ c.value_of_row.result = search rules in
    let value : c.value_of_row.result ≡ value_of c.args.ptype (raw_at c.args.ptype c.self.inside.held.bytes (value_place c.args.ptype c.self.inside.at c.args.row)) = search rules in
    int_found c.args.ptype c.self.inside.present c.self.inside.held.bytes c.self.inside.at c.self.inside.count c.args.row c.args.self.now.rows (to_z w128 (of_z w128 c.value_of_row.result))
    rows c.requires.inside c.requires.here (fits ∙ value)
