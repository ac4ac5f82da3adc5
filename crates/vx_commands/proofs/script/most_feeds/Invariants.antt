use Rattle.std.proofs.Common.{◌≤◌}
use Rattle.vx_commands.proofs.script.most_feeds.Given as goal

abbrev pub invariant-loop-byte : goal.invariant-loop-byte
invariant-loop-byte l = l.count ≤ l.byte-index
