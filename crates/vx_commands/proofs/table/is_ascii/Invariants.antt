use Rattle.std.proofs.Common.{◌≡◌, take}
use Rattle.std.specs.List.{list_all}
use Rattle.vx_commands.proofs.TableLemmas.{is_low}
use Rattle.vx_commands.proofs.table.is_ascii.Given as goal

-- the greatest byte so far tells of those in front
abbrev pub invariant-loop-byte : goal.invariant-loop-byte
invariant-loop-byte l = is_low l.greatest ≡ list_all is_low (take l.byte-index l.text)
