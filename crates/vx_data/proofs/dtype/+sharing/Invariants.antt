use Rattle.std.proofs.Common.{◌≡◌, ◌++◌, drop}
use Rattle.vx_data.specs.Dtype.{pairs_view}
use Rattle.vx_data.proofs.dtype.+sharing.Given as goal

-- the fields so far and those still to come
abbrev pub invariant-share_all-loop-at : goal.invariant-share_all-loop-at
invariant-share_all-loop-at l = pairs_view (l.shared.items ++ drop l.at l.fields) ≡ pairs_view l.fields
