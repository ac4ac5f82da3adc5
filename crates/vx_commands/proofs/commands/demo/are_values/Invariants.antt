use Rattle.std.proofs.Common.{◌≡◌, map, drop}
use Rattle.std.specs.Prelude.{string_bytes, is_some}
use Rattle.vx_commands.specs.Command.{all_values}
use Rattle.vx_commands.proofs.commands.demo.are_values.Given as goal

abbrev pub invariant-loop-word : goal.invariant-loop-word
invariant-loop-word l = is_some (all_values (map string_bytes (drop l.word-index l.words))) ≡ is_some (all_values (map string_bytes l.words))
