use Rattle.std.proofs.Common.{◌≡◌, true, take}
use Rattle.std.specs.List.{list_all}
use Rattle.vx_data.specs.Texts.{is_quote_plain}
use Rattle.vx_rows.proofs.value_reading.plain_length.Given as goal

-- the bytes so far stand for themselves
abbrev pub invariant-loop-at : goal.invariant-loop-at
invariant-loop-at l = list_all is_quote_plain (take l.at l.text) ≡ true
