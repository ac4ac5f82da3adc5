-- Predicates as plain data.
use Rattle.std.specs.Prelude.{ℕ, List, Option}
use Rattle.std.specs.Option.{option_map}
use Rattle.vx_data.specs.Dtype.{Dtype, dtype_view}
use Rattle.vx_data.specs.Scalar.{Value, scalar_view}
use Rattle.vx_rows.specs.declared.predicate.Comparison.{Comparison}
use Rattle.vx_rows.specs.declared.predicate.Predicate.{Predicate, fold-Predicate}
use Rattle.vx_rows.specs.declared.predicate.Predicate.TheOpen.{Predicate-F}

pub data Pred : Type 0 where
  lit : Dtype → Option Value → Pred
  root : Pred
  path : List (List ℕ) → Pred
  cast : Dtype → Pred → Pred
  add : Pred → Pred → Pred
  compare : Comparison → Pred → Pred → Pred
  both : Pred → Pred → Pred
  either : Pred → Pred → Pred
  negated : Pred → Pred
  null_test : Pred → Pred
  present_test : Pred → Pred

abbrev pub pred_step : Predicate-F Pred → Pred
pred_step (Predicate-F.Lit dtype value) = lit (dtype_view dtype) (option_map scalar_view value)
pred_step Predicate-F.Root = root
pred_step (Predicate-F.Field names) = path names
pred_step (Predicate-F.Cast dtype p) = cast (dtype_view dtype) p.value
pred_step (Predicate-F.Add p q) = add p.value q.value
pred_step (Predicate-F.Compare op p q) = compare op p.value q.value
pred_step (Predicate-F.And p q) = both p.value q.value
pred_step (Predicate-F.Or p q) = either p.value q.value
pred_step (Predicate-F.Not p) = negated p.value
pred_step (Predicate-F.IsNull p) = null_test p.value
pred_step (Predicate-F.NotNull p) = present_test p.value

abbrev pub pred_view : Predicate → Pred
pred_view = fold-Predicate Pred pred_step
