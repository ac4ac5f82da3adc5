use Rattle.std.proofs.Common.{◌≡◌, ◌∙◌, ap, sym, rules, to_z, of_z}
use Rattle.std.specs.Int.{w64}
use Rattle.vx_data.specs.declared.ptype.PType.{PType}
use Rattle.vx_rows.specs.Span.{span}
use Rattle.vx_rows.specs.Columns.{Ints, value_place, value_of, raw_at, int_row}
use Rattle.vx_rows.specs.Keys.{of_key}
use Rattle.vx_rows.proofs.IntLemmas.{int_found}
use Rattle.vx_rows.proofs.int_column.IntColumn.key_here.Goals as goal

pub returns : goal.returns
returns c =
    let kind : c.self.inside.kind ≡ c.args.ptype = ap (λ (v : Ints). v.ptype) c.self.view_is ∙ c.requires.typed in
    let rows = ap (λ (p : PType). span (int_row p c.self.inside.present c.self.inside.held.bytes c.self.inside.at) 0 c.self.inside.count) (sym kind)
    ∙ ap (λ (v : Ints). v.rows) c.self.view_is in
    let bytes = c.self.inside.held.bytes in
    let fits : to_z w64 (of_z w64 c.key_at.result) ≡ c.key_at.result = search rules in
    let value : of_key c.args.ptype c.key_at.result ≡ value_of c.args.ptype (raw_at c.args.ptype bytes (value_place c.args.ptype c.self.inside.at c.args.row)) = search rules in
    int_found c.args.ptype c.self.inside.present bytes c.self.inside.at c.self.inside.count c.args.row c.args.self.now.rows
    (of_key c.args.ptype (to_z w64 (of_z w64 c.key_at.result)))
    rows c.requires.inside c.requires.here (ap (of_key c.args.ptype) fits ∙ value)
