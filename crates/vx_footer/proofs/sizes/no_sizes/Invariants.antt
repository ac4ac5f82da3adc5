use Rattle.std.proofs.Common.{◌≡◌, take, Some, None}
use Rattle.std.specs.Prelude.{if◌then◌else◌}
use Rattle.vx_data.specs.Paths.{Path}
use Rattle.vx_footer.specs.FieldSizes.{size_at}
use Rattle.vx_footer.specs.Gathering.{has_path}
use Rattle.vx_footer.proofs.sizes.no_sizes.Given as goal

-- the paths so far
abbrev pub invariant-loop-number : goal.invariant-loop-number
invariant-loop-number l = (q : Path) → size_at l.sizes.entries q ≡ (if has_path (take l.number l.table) q then Some 0 else None)
