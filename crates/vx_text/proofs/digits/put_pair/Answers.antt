use Rattle.vx_text.proofs.DigitLemmas.{pairs_at}
use Rattle.vx_text.proofs.RoomLemmas.{puts_then}
use Rattle.vx_text.proofs.digits.put_pair.Goals as goal

pub returns-clause-puts : goal.returns-clause-puts
returns-clause-puts c = let p = pairs_at c.args.pair c.requires.small in
    rw (← p.0, ← p.1) (puts_then c.put_one-behind.ensures.puts c.put_one.ensures.puts)
