use Rattle.std.proofs.Common.{◌≡◌, ◌<◌, ◌^◌, drop}
use Rattle.std.specs.List.{list_all}
use Rattle.std.specs.Char.{is_ascii_digit}
use Rattle.vx_text.specs.Numbers.{value_after}
use Rattle.vx_text.proofs.numbers.few_digits.Given as goal

-- the bytes so far are digits, and spell the value
abbrev pub invariant-loop-at : goal.invariant-loop-at
invariant-loop-at l = record {
  told : value_after l.value (drop l.at l.text) ≡ value_after 0 l.text;
  digits : list_all is_ascii_digit (drop l.at l.text) ≡ list_all is_ascii_digit l.text;
  small : l.value < 10 ^ l.at;
}
