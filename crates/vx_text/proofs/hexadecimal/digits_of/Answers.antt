use Rattle.vx_text.proofs.VectorLemmas.{paired}
use Rattle.vx_text.proofs.hexadecimal.digits_of.Goals as goal

pub returns : goal.returns
returns c = paired c.args.bytes _ _ c.fits-bytes.0 c.high_digits.ensures c.low_digits.ensures
