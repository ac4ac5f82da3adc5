use Rattle.vx_source_tests.proofs.ScriptLemmas.{three-fit}
use Rattle.vx_source_tests.proofs.sessions.three_segments.Goals as goal

pub new-requires-clause-fit : goal.new-requires-clause-fit
new-requires-clause-fit c = rw (c.in_ok-segments.ensures.items, c.segment.ensures, c.segment-2.ensures, c.segment-3.ensures) three-fit
