use Rattle.std.proofs.Common.{◌≡◌, ◌∙◌, ap, refl}
use Rattle.vx_data.specs.Dtype.{dtype_view}
use Rattle.vx_rows.specs.ReadRows.{no_rows}
use Rattle.vx_write.specs.Gathered.{gathered}
use Rattle.vx_write.specs.Plans.{planned}
use Rattle.vx_write.proofs.StandingLemmas.{begun_sound, begun_stands}
use Rattle.vx_write.proofs.file_writer.FileWriter.begin.Goals as goal

pub returns-clause-sound : goal.returns-clause-sound
returns-clause-sound c =
    let stats = c.in_ok-stats.ensures ∙ ap (λ w. gathered w (no_rows (dtype_view c.args.dtype))) c.statistics.ensures in
    begun_sound _ c.in_ok-plan.ensures.fit c.in_ok-held.ensures c.new-2.ensures stats refl

pub returns-clause-stands : goal.returns-clause-stands
returns-clause-stands c gained =
    let stats = c.in_ok-stats.ensures ∙ ap (λ w. gathered w (no_rows (dtype_view c.args.dtype))) c.statistics.ensures in
    let plan = c.in_ok-plan.ensures.value ∙ ap (λ s. planned s (dtype_view c.args.dtype)) c.strategy.ensures in
    begun_stands c.args.options (dtype_view c.args.dtype) _ gained refl refl plan c.in_ok-coding.ensures c.in_ok-held.ensures c.new-2.ensures stats refl refl
