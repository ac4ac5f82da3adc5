use Rattle.std.proofs.Common.{arith}
use Rattle.itoa.proofs.Decimal.{decimal_four}
use Rattle.vx_text.proofs.RoomLemmas.{puts_then}
use Rattle.vx_text.proofs.digits.put_middle.Goals as goal

pub returns-clause-puts : goal.returns-clause-puts
returns-clause-puts c = rw (decimal_four c.args.number c.if-number-lt10000.false (omega arith)) (puts_then c.put_short-behind.ensures.puts c.put_four.ensures.puts)
