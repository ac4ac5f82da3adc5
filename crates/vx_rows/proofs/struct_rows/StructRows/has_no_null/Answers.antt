use Rattle.std.proofs.Common.{◌≡◌, ap, sym, ◌∙◌, rules}
use Rattle.std.specs.Prelude.{slice_index_or, true, None}
use Rattle.vx_rows.specs.Columns.{Structs}
use Rattle.vx_rows.proofs.FieldRowLemmas.{none_null}
use Rattle.vx_rows.proofs.struct_rows.StructRows.has_no_null.Goals as goal

pub returns : goal.returns
returns c h row =
    let none : c.self.inside.bits ≡ None = search rules in
    ap (λ (s : Structs). slice_index_or s.present row true) (sym c.self.view_is) ∙ none_null c.self.inside.bits c.self.inside.count row none
