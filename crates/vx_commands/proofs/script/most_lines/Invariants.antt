use Rattle.std.proofs.Common.{◌+◌, ◌≤◌, length}
use Rattle.vx_commands.proofs.script.most_lines.Given as goal

-- each line feed so far was counted once
abbrev pub invariant-loop-at : goal.invariant-loop-at
invariant-loop-at l = (l.count ≤ l.at + 1) × (l.count ≤ length l.text + 1)
