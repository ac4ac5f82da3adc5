use Rattle.std.proofs.Common.{◌≡◌, drop}
use Rattle.vx_data.specs.Dtype.{pairs_view}
use Rattle.vx_data.specs.Written.{left_of}
use Rattle.vx_data.specs.DtypeWritten.{fields_visits}
use Rattle.vx_data.proofs.dtype_writing.+visiting.Given as goal

-- what is left behind those still to come is left behind all
abbrev pub invariant-all_left-loop-at : goal.invariant-all_left-loop-at
invariant-all_left-loop-at l = left_of (fields_visits (pairs_view (drop l.at l.fields))) l.left ≡ left_of (fields_visits (pairs_view l.fields)) l.visits
