use Rattle.std.proofs.Common.{◌≡◌, true, take}
use Rattle.std.specs.List.{list_all}
use Rattle.vx_rows.proofs.ReadingLemmas.{is_other}
use Rattle.vx_commands.proofs.table.split_line.Given as goal

-- no line feed so far
abbrev pub invariant-loop-at : goal.invariant-loop-at
invariant-loop-at l = list_all is_other (take l.at l.text) ≡ true
