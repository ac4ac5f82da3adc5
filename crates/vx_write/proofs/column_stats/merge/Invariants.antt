use Rattle.std.proofs.Common.{◌≡◌, List, map, take, length}
use Rattle.vx_data.specs.declared.stats_set.Stat.{Stat}
use Rattle.vx_write.specs.Gathered.{Counted, running, half_both, ArePairs}
use Rattle.vx_write.proofs.column_stats.merge.Given as goal

-- those still to come are the first ones, and the columns behind them are merged
abbrev pub invariant-loop-last : goal.invariant-loop-last
invariant-loop-last l =
    (w : List Stat) (a b : List Counted) → ArePairs a b → l.fn.stats.items ≡ map (running w) a → l.fn.more.items ≡ map (running w) b
    → (l.stats.items ≡ half_both w (length l.more.items) a b) × (l.more.items ≡ map (running w) (take (length l.more.items) b))

abbrev pub decreases-loop-last : goal.decreases-loop-last
decreases-loop-last l = length l.more.items
