use Rattle.std.proofs.Common.{◌≡◌, ◌+◌, ◌*◌, ◌≤◌, [], length}
use Rattle.vx_footer.specs.Footers.{entries_size}
use Rattle.vx_footer.specs.Opening.{entries_checks}
use Rattle.vx_footer.proofs.postscript.entries_of.Given as goal

-- the entries so far and those still to come, which are few
abbrev pub invariant-loop-row : goal.invariant-loop-row
invariant-loop-row l =
    (entries_checks l.version l.entries l.row-iterator.rest.items ≡ entries_checks l.version [] l.fn.rows) × (entries_size l.entries + 272 * length l.row-iterator.rest.items ≤ 17408)
