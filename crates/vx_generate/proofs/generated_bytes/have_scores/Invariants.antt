use Rattle.std.proofs.Common.{◌≡◌, ◌-◌}
use Rattle.vx_rows.specs.Span.{every}
use Rattle.vx_generate.specs.Generated.{has_score}
use Rattle.vx_generate.proofs.generated_bytes.have_scores.Given as goal

abbrev pub invariant-loop-row : goal.invariant-loop-row
invariant-loop-row l = every (has_score l.seed) l.row (l.rows - l.row) ≡ every (has_score l.seed) 0 l.rows
