use Rattle.std.proofs.Common.{◌≤◌, ◌∙◌, List, ℕ, Option, length, sym, ap, rules}
use Rattle.vx_base.specs.Checks.{◌lacking◌}
use Rattle.vx_data.specs.declared.text_error.TextError.TheVariants.{BadText}
use Rattle.vx_rows.specs.Rows.{FieldRows}
use Rattle.vx_rows.proofs.ReadingLemmas.{values_more, values_end}
use Rattle.vx_rows.proofs.row_reading.+reading_rows.Goals as goal

pub read_fields-loop-at-preserved : goal.read_fields-loop-at-preserved
read_fields-loop-at-preserved t c = (
  search rules,
  values_more c.loop-at.is_first c.loop-at.builders.items c.loop-at.at c.index_mut-builder.result.now c.read_field.new.builder c.loop-at.rest.now c.in_ok-rest.rest.now (search rules) (search rules)
      c.in_ok-rest.ensures
      ∙ c.loop-at.invariant.1,
)

pub read_fields-returns : goal.read_fields-returns
read_fields-returns t c =
    let past : length c.loop-at.builders.items ≤ c.loop-at.at = search rules in
    ap (λ (r : Option (FieldRows × List ℕ)). BadText lacking r) (sym c.loop-at.invariant.1 ∙ values_end c.loop-at.is_first c.loop-at.builders.items c.loop-at.at c.loop-at.rest.now past)
