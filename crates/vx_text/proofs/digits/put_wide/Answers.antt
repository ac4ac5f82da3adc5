use Rattle.vx_text.proofs.DigitLemmas.{decimal_eight}
use Rattle.vx_text.proofs.RoomLemmas.{puts_then}
use Rattle.vx_text.proofs.digits.put_wide.Goals as goal

pub returns-clause-puts : goal.returns-clause-puts
returns-clause-puts c = rw (decimal_eight c.args.number c.requires.wide c.ranges.number.fits) (puts_then (puts_then c.put_long-behind.ensures.puts c.put_four-behind.ensures.puts) c.put_four.ensures.puts)
