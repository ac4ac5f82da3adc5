use Rattle.std.proofs.Common.{◌*◌}
use Rattle.vx_text.proofs.VectorLemmas.{AreSpelled}
use Rattle.vx_text.proofs.hexadecimal.spell.Given as goal

abbrev pub invariant-loop-block : goal.invariant-loop-block
invariant-loop-block l = AreSpelled l.bytes l.digits (16 * l.block)

abbrev pub invariant-loop-at : goal.invariant-loop-at
invariant-loop-at l = AreSpelled l.bytes l.digits l.at
