use Rattle.std.proofs.Common.{◌∙◌, ap, sym, [], unwrap_or}
use Rattle.std.specs.Prelude.{◌||◌}
use Rattle.std.specs.List.{list_all}
use Rattle.vx_rows.specs.Columns.{Texts, may_hold}
use Rattle.vx_rows.proofs.FillLemmas.{texts_filled}
use Rattle.vx_rows.proofs.text_column.TextColumn.is_filled.Goals as goal

pub returns-else-self-clause-value : goal.returns-else-self-clause-value
returns-else-self-clause-value c =
    let s = c.self.inside in
    c.are_all_present.ensures ∙ ap (λ b. b || list_all (λ x. x) (unwrap_or s.present [])) (sym c.if-self.false) ∙ texts_filled s.may_be_null s.present s.held.bytes s.places s.count c.self.invariant.1
    ∙ ap (λ (x : Texts). may_hold x.nullable x.rows) c.self.view_is
