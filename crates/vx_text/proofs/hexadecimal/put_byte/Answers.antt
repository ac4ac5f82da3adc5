use Rattle.vx_text.proofs.HexLemmas.{pair-of}
use Rattle.vx_text.proofs.TextLemmas.{holds_then}
use Rattle.vx_text.proofs.hexadecimal.put_byte.Goals as goal

pub returns-clause-holds : goal.returns-clause-holds
returns-clause-holds c = rw (pair-of c.args.byte, ← c.lower_digit.ensures, ← c.lower_digit-2.ensures) (holds_then c.push.ensures.holds c.push-2.ensures.holds)
