-- Predicates that are bound to types.
use Rattle.std.specs.Arc.{arc_value}
use Rattle.vx_data.specs.Dtype.{Dtype, dtype_view}
use Rattle.vx_rows.specs.declared.bound.Bound.{Bound}
use Rattle.vx_rows.specs.Predicates.{Pred, pred_view}

-- the predicate and the type
abbrev pub bound_view : Bound → Pred × Dtype
bound_view b = (pred_view (arc_value b.predicate), dtype_view b.dtype)
