use Rattle.vx_text.proofs.VectorLemmas.{low_ok, low_read}
use Rattle.vx_text.proofs.hexadecimal.low_digits.Goals as goal

pub swizzle : goal.swizzle
swizzle c = low_ok c.args.bytes c.fits-bytes

pub returns : goal.returns
returns c = low_read c.args.bytes c.fits-bytes
