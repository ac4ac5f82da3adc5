use Rattle.std.proofs.Common.{◌≡◌, true, rules, arith}
use Rattle.std.specs.Prelude.{slice_index}
use Rattle.std.specs.Char.{is_ascii_digit}
use Rattle.vx_text.proofs.NumberLemmas.{few_value, digit_less}
use Rattle.vx_text.proofs.numbers.few_digits.Goals as goal

pub overflow_mul-value : goal.overflow_mul-value
overflow_mul-value c =
    let small = few_value c.loop-at.at c.loop-at.value (omega (arith, c.loop-at-test.true, c.requires)) c.loop-at.invariant.small in
    omega (arith, small)

pub overflow_add-value : goal.overflow_add-value
overflow_add-value c =
    let small = few_value c.loop-at.at c.loop-at.value (omega (arith, c.loop-at-test.true, c.requires)) c.loop-at.invariant.small in
    let digit : is_ascii_digit (slice_index c.args.text.now c.loop-at.at) ≡ true = search rules in
    let one = digit_less (slice_index c.args.text.now c.loop-at.at) digit in
    omega (arith, small, one, c.from.ensures)
