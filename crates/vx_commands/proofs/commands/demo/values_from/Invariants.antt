use Rattle.std.proofs.Common.{◌≡◌, map, drop}
use Rattle.std.specs.Prelude.{string_bytes}
use Rattle.vx_commands.specs.Command.{all_values, after_values}
use Rattle.vx_commands.proofs.commands.demo.values_from.Given as goal

abbrev pub invariant-loop-word : goal.invariant-loop-word
invariant-loop-word l = after_values l.values.items (all_values (map string_bytes (drop l.word-index l.words))) ≡ all_values (map string_bytes l.words)
