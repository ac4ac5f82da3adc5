use Rattle.std.proofs.Common.{arith, sym, rules}
use Rattle.vx_text.proofs.NumberLemmas.{number_past_here, number_whole}
use Rattle.vx_text.proofs.numbers.long_number.Goals as goal

pub returns-in_err-checked_mul : goal.returns-in_err-checked_mul
returns-in_err-checked_mul c = rw (number_past_here c.args.text.now c.loop-digit.digit-index c.loop-digit.value (omega arith) c.loop-digit.invariant.told (omega arith)) (search rules)

pub returns-in_err-value : goal.returns-in_err-value
returns-in_err-value c = rw (number_past_here c.args.text.now c.loop-digit.digit-index c.loop-digit.value (omega arith) c.loop-digit.invariant.told (omega arith)) (search rules)

pub returns : goal.returns
returns c = sym (number_whole c.args.text.now c.loop-digit.digit-index c.loop-digit.value (search rules) (omega arith) c.loop-digit.invariant.told (omega arith))
