use Rattle.std.proofs.Common.{◌≡◌, ◌+◌, drop}
use Rattle.vx_commands.specs.Script.{line_length}
use Rattle.vx_commands.proofs.script.line_end.Given as goal

abbrev pub invariant-loop-byte : goal.invariant-loop-byte
invariant-loop-byte l = record {
  place : l.end ≡ l.byte-index;
  rest : l.byte-index + line_length (drop l.byte-index l.text) ≡ line_length l.text;
}
