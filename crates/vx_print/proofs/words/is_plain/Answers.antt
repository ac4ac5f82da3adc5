use Rattle.vx_print.proofs.QuotedLemmas.{plain_at}
use Rattle.vx_print.proofs.words.is_plain.Goals as goal

pub returns : goal.returns
returns c = plain_at c.args.byte c.ranges.byte.fits
