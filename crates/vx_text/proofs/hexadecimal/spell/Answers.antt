use Rattle.std.proofs.Common.{◌*◌, arith}
use Rattle.hex.specs.Hex.{lower_digits}
use Rattle.hex.proofs.Pairs.{encode_step, encode_done}
use Rattle.vx_text.proofs.VectorLemmas.{sixteen-more}
use Rattle.vx_text.proofs.hexadecimal.spell.Goals as goal

pub loop-block-preserved : goal.loop-block-preserved
loop-block-preserved c =
    sixteen-more c.args.bytes.now c.loop-block.digits c.digits_of.result (16 * c.loop-block.block) _ _ (omega arith) (omega arith) (omega arith) (omega arith) c.digits_of.ensures c.loop-block.invariant

pub loop-at-preserved : goal.loop-at-preserved
loop-at-preserved c =
    encode_step lower_digits c.args.bytes.now c.loop-at.digits c.loop-at.at _ _ (omega arith) (omega arith) c.lower_digit.ensures c.lower_digit-in-loop-at.ensures c.loop-at.invariant

pub returns : goal.returns
returns c = encode_done _ _ _ c.loop-at.at (omega arith) (omega arith) c.loop-at.invariant
