use Rattle.std.proofs.Common.{◌≡◌, ◌+◌, ◌*◌, ◌-◌, ◌<◌, true, ap, sym, ◌∙◌, drop, rules, arith}
use Rattle.std.specs.Prelude.{slice_index}
use Rattle.vx_rows.specs.ReadValues.{is_digit, digits_in}
use Rattle.vx_rows.proofs.DigitLemmas.{digit_at, few_digits, digit_more, digit_less}
use Rattle.vx_rows.proofs.value_reading.read_digits.Goals as goal

pub overflow_mul-number : goal.overflow_mul-number
overflow_mul-number c =
    let less : c.loop-at.at < 18 = omega (arith, c.loop-at-test.true, c.min-short.ensures) in
    let small = few_digits c.loop-at.at c.loop-at.number less c.loop-at.invariant.1 in
    omega (arith, small)

pub overflow_add-number : goal.overflow_add-number
overflow_add-number c =
    let less : c.loop-at.at < 18 = omega (arith, c.loop-at-test.true, c.min-short.ensures) in
    let small = few_digits c.loop-at.at c.loop-at.number less c.loop-at.invariant.1 in
    let digit : is_digit (slice_index c.args.text.now c.loop-at.at) ≡ true = search rules in
    let one = digit_less (slice_index c.args.text.now c.loop-at.at) digit in
    omega (arith, small, one, c.from.ensures)

pub loop-at-preserved : goal.loop-at-preserved
loop-at-preserved c =
    let digit : is_digit (slice_index c.args.text.now c.loop-at.at) ≡ true = search rules in
    let one = digit_less (slice_index c.args.text.now c.loop-at.at) digit in
    let value : c.from.result ≡ slice_index c.args.text.now c.loop-at.at - 48 = search rules in (
      ap (λ d. digits_in (10 * c.loop-at.number + d) (drop (c.loop-at.at + 1) c.args.text.now)) value
          ∙ sym (digit_at c.args.text.now c.loop-at.at c.loop-at.number (omega (arith, c.loop-at-test.true, c.min-short.ensures)) digit) ∙ c.loop-at.invariant.0,
      digit_more c.loop-at.at c.loop-at.number c.from.result c.loop-at.invariant.1 (omega (arith, one, value)),
    )
