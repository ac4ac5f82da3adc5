use Rattle.std.proofs.Common.{length}
use Rattle.vx_text.proofs.HexLemmas.{Spelled}
use Rattle.vx_text.proofs.hexadecimal.put_many.Given as goal

abbrev pub invariant-loop-left : goal.invariant-loop-left
invariant-loop-left g l = Spelled l.fn.bytes l.left l.fn.text (g.S.Sink.state l.fn.out) l.text (g.S.Sink.state l.out)

abbrev pub decreases-loop-left : goal.decreases-loop-left
decreases-loop-left g l = length l.left
