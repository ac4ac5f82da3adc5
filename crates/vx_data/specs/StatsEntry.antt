-- Statistics of a column as their table has them.
use Rattle.std.specs.Prelude.{ℕ, Bool, List, Option}

pub record Entry : Type 0 where
  pub min : Option (List ℕ)
  pub is_min_exact : Bool
  pub max : Option (List ℕ)
  pub is_max_exact : Bool
  pub null_count : Option ℕ
  pub is_null_count_exact : Bool
