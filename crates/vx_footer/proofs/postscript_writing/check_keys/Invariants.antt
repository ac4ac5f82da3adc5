use Rattle.std.proofs.Common.{◌≡◌, ◌*◌, ◌≤◌, [], take, drop}
use Rattle.vx_footer.specs.Footers.{entries_size}
use Rattle.vx_footer.specs.PostscriptWritten.{keys_checks}
use Rattle.vx_footer.proofs.postscript_writing.check_keys.Given as goal

-- the keys that are still to come, and those so far, which are short
abbrev pub invariant-loop-at : goal.invariant-loop-at
invariant-loop-at l =
    (keys_checks l.version (take l.at l.entries) (drop l.at l.entries) ≡ keys_checks l.version [] l.entries)
    × (entries_size (take l.at l.entries) ≤ 272 * l.at)
