use Rattle.std.proofs.Common.{arith}
use Rattle.itoa.proofs.Decimal.{decimal_pair}
use Rattle.vx_text.proofs.RoomLemmas.{puts_then}
use Rattle.vx_text.proofs.digits.put_short.Goals as goal

pub returns-clause-puts : goal.returns-clause-puts
returns-clause-puts c = rw (decimal_pair c.args.number c.if-number-lt100.false (omega arith)) (puts_then c.put_tiny-behind.ensures.puts c.put_pair.ensures.puts)
