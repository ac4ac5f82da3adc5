use Rattle.std.proofs.Common.{◌≡◌, ◌<◌, ◌^◌, drop}
use Rattle.vx_text.specs.Numbers.{value_after}
use Rattle.vx_text.proofs.numbers.long_number.Given as goal

abbrev pub invariant-loop-digit : goal.invariant-loop-digit
invariant-loop-digit l = record {
  told : value_after l.value (drop l.digit-index l.text) ≡ value_after 0 l.text;
  fits : l.value < 2 ^ 64;
}
