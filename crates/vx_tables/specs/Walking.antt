-- What a walk over a table root answers.
use Rattle.std.specs.Prelude.{◌≡◌, ℕ, Option, Some, None, Result, Ok, Err}
use Rattle.vx_tables.specs.declared.walk_error.WalkError.{WalkError}
use Rattle.vx_tables.specs.declared.walk_error.WalkError.TheVariants.{BadTable, OutOfMemory}

-- what a part of a walk returned, seen by a view, and the visits that it left
abbrev pub Walks : {X A : Type 0} → (X → A) → Result X WalkError → ℕ → Option (A × ℕ) → Type 0
Walks view (Ok x) left walk = walk ≡ Some (view x, left)
Walks view (Err BadTable) left walk = walk ≡ None
Walks view (Err OutOfMemory) left walk = Unit {0}

-- what a whole walk returned, seen by a view
abbrev pub Reads : {X A : Type 0} → (X → A) → Result X WalkError → Option A → Type 0
Reads view (Ok x) read = read ≡ Some (view x)
Reads view (Err BadTable) read = read ≡ None
Reads view (Err OutOfMemory) read = Unit {0}
