use Rattle.std.proofs.Common.{◌≡◌, ◌++◌, drop}
use Rattle.vx_footer.proofs.metadata_values.copied.Given as goal

-- the copies so far and the entries still to come
abbrev pub invariant-loop-entry : goal.invariant-loop-entry
invariant-loop-entry l = l.copies ++ drop l.entry-index l.entries ≡ l.entries
