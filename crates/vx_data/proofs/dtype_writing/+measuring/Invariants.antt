use Rattle.std.proofs.Common.{◌≡◌, drop}
use Rattle.std.specs.Prelude.{nat_le}
use Rattle.vx_data.specs.Dtype.{pairs_view}
use Rattle.vx_data.specs.DtypeWritten.{most_levels}
use Rattle.vx_data.proofs.dtype_writing.+measuring.Given as goal

-- all are shallow where those still to come are
abbrev pub invariant-are_shallow-loop-at : goal.invariant-are_shallow-loop-at
invariant-are_shallow-loop-at l = nat_le (most_levels (pairs_view (drop l.at l.fields))) l.levels ≡ nat_le (most_levels (pairs_view l.fields)) l.levels
