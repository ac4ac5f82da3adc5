use Rattle.std.proofs.Common.{◌≡◌, ◌+◌, drop}
use Rattle.vx_footer.specs.Footers.{entries_size}
use Rattle.vx_footer.proofs.deserializer.entry_sizes.Given as goal

-- the sizes so far and those still to come
abbrev pub invariant-loop-entry : goal.invariant-loop-entry
invariant-loop-entry l = l.size + entries_size (drop l.entry-index l.entries) ≡ entries_size l.entries
