use Rattle.vx_source_tests.proofs.ScriptLemmas.{two-fit}
use Rattle.vx_source_tests.proofs.sessions.two_segments.Goals as goal

pub new-requires-clause-fit : goal.new-requires-clause-fit
new-requires-clause-fit c = rw (c.in_ok-segments.ensures.items, c.segment.ensures, c.segment-2.ensures) (two-fit c.args.tail c.requires)
