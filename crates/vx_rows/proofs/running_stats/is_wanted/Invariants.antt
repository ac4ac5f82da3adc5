use Rattle.std.proofs.Common.{◌≡◌, drop}
use Rattle.vx_rows.specs.RowStats.{wants}
use Rattle.vx_rows.proofs.running_stats.is_wanted.Given as goal

-- it is wanted where it is among those still to come
abbrev pub invariant-loop-other : goal.invariant-loop-other
invariant-loop-other l = wants (drop l.other-index l.wanted) l.stat ≡ wants l.wanted l.stat
