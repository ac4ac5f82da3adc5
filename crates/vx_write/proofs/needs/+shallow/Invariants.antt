use Rattle.std.proofs.Common.{◌≡◌, drop}
use Rattle.std.specs.Prelude.{nat_le}
use Rattle.vx_write.specs.Plans.{plans_view}
use Rattle.vx_write.specs.Laying.{most_least_levels}
use Rattle.vx_write.proofs.needs.+shallow.Given as goal

abbrev pub invariant-are_shallow-loop-at : goal.invariant-are_shallow-loop-at
invariant-are_shallow-loop-at l = nat_le (most_least_levels (plans_view (drop l.at l.plans))) l.most ≡ nat_le (most_least_levels (plans_view l.plans)) l.most
