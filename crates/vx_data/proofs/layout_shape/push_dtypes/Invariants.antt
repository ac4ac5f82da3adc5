use Rattle.std.proofs.Common.{◌≡◌, ◌++◌, map, drop}
use Rattle.vx_data.specs.Dtype.{dtype_view, pairs_view}
use Rattle.vx_data.specs.Layout.{dtypes_of}
use Rattle.vx_data.proofs.layout_shape.push_dtypes.Given as goal

-- the types so far and those still to come
abbrev pub invariant-loop-at : goal.invariant-loop-at
invariant-loop-at l = map dtype_view l.dtypes.items ++ dtypes_of (pairs_view (drop l.at l.fields)) ≡ map dtype_view l.fn.dtypes.items ++ dtypes_of (pairs_view l.fields)
