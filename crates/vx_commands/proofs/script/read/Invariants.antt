use Rattle.std.proofs.Common.{◌≡◌, ◌+◌, ◌≤◌, length}
use Rattle.vx_commands.specs.Script.{with_front, steps_from, lines_of, script_of}
use Rattle.vx_commands.proofs.script.read.Given as goal

abbrev pub invariant-loop-rest : goal.invariant-loop-rest
invariant-loop-rest l = record {
  room : l.line + length l.rest ≤ length l.fn.text;
  told : with_front l.script (steps_from (l.line + 1) (lines_of l.rest)) ≡ script_of l.fn.text;
}

abbrev pub decreases-loop-rest : goal.decreases-loop-rest
decreases-loop-rest l = length l.rest
