use Rattle.std.proofs.Common.{◌≡◌, ap₂, ◌∙◌, rules}
use Rattle.vx_rows.specs.Bounds.{bound_view}
use Rattle.vx_rows.specs.Predicates.{Pred}
use Rattle.vx_prune.specs.KeptAnswers.{About, about_code, about}
use Rattle.vx_prune.specs.Never.{never}
use Rattle.vx_prune.specs.Readers.{layout_of, stats_of}
use Rattle.vx_prune.specs.Tags.{tag_tells}
use Rattle.vx_prune.proofs.file_stats_layout_reader.FileStatsLayoutReader.answer_in.Goals as goal

pub returns-then-is_same : goal.returns-then-is_same
returns-then-is_same c =
    let self = c.args.self.now in
    let kept = c.in-Some.ensures in
    let asked : About = about (layout_of self) (stats_of self) in
    let rows : kept.rows ≡ asked = tag_tells about_code kept.rows asked (kept.named ∙ c.requires) in
    let predicate : (bound_view c.in-Some.kept.now.bound).0 ≡ (bound_view c.args.bound.now).0 = search rules in
    kept.told ∙ ap₂ (λ (p : Pred) (r : About). never p r.0 r.1.0 r.1.1) predicate rows
