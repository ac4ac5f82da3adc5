use Rattle.std.proofs.Common.{◌≡◌, max, drop}
use Rattle.vx_source.specs.Stands.{greatest_alignment}
use Rattle.vx_source.proofs.session.greatest_alignment.Given as goal

abbrev pub invariant-loop-spec : goal.invariant-loop-spec
invariant-loop-spec l = max l.greatest (greatest_alignment (drop l.spec-index l.segments)) ≡ greatest_alignment l.fn.segments
