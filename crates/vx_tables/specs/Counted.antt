-- What is read, with how much of a table root was visited for it. Limits are no part of it: they are one
-- test at the end.
use Rattle.std.specs.Prelude.{ℕ, zero, suc, ◌+◌, ◌-◌, ◌*◌, ◌/◌, nat_le, max, if◌then◌else◌, List, [], ◌∷◌, length, Option, Some, None, unwrap_or}
use Rattle.vx_tables.specs.declared.elements.Elements.{Elements}
use Rattle.vx_tables.specs.declared.elements.Elements.TheVariants.{Numbers, Offsets, Segments}
use Rattle.vx_tables.specs.Field.{Table, Vector, vector_field, text_of_vector, table_of_vector}

-- a value, the visits that it took, and how many tables lie one in the other
pub record Counted (A : Type 0) : Type 0 where
  pub value : A
  pub visits : ℕ
  pub levels : ℕ

-- one after the other
abbrev pub both : {A B : Type 0} → Counted A → Option (Counted B) → Option (Counted B)
both c None = None
both c (Some d) = Some (record { value = d.value; visits = c.visits + d.visits; levels = max c.levels d.levels })

infixl 10 ◌>>=◌
unfoldable pub ◌>>=◌ : {A B : Type 0} → Option (Counted A) → (A → Option (Counted B)) → Option (Counted B)
None >>= f = None
(Some c) >>= f = both c (f c.value)

-- what is there without reading
unfoldable pub pure : {A : Type 0} → A → Option (Counted A)
pure x = Some (record { value = x; visits = 0; levels = 0 })

-- what takes as many visits as its cost says
unfoldable pub counted : {A : Type 0} → (A → ℕ) → Option A → Option (Counted A)
counted cost None = None
counted cost (Some x) = Some (record { value = x; visits = cost x; levels = 0 })

-- what is read without a visit
unfoldable pub free : {A : Type 0} → Option A → Option (Counted A)
free read = counted (λ _. 0) read

-- inside a table: one visit and one level more
unfoldable pub deeper : {A : Type 0} → Option (Counted A) → Option (Counted A)
deeper None = None
deeper (Some c) = Some (record { value = c.value; visits = c.visits + 1; levels = c.levels + 1 })

-- ---- costs

abbrev pub one : {A : Type 0} → A → ℕ
one x = 1

-- one, and one more for each whole 64 bytes
abbrev pub text_cost : List ℕ → ℕ
text_cost text = 1 + length text / 64

abbrev pub vector_cost : Elements → Vector → ℕ
vector_cost (Numbers width) v = 1 + v.count * width / 64
vector_cost Offsets v = 1
vector_cost Segments v = 1

-- nothing is visited where nothing is there
abbrev pub optional_cost : {A : Type 0} → (A → ℕ) → Option A → ℕ
optional_cost cost None = 0
optional_cost cost (Some x) = cost x

-- ---- fields

-- a number that is 0 where it is absent
abbrev pub or_zero : Option ℕ → ℕ
or_zero n = unwrap_or n 0

-- the vector of a slot, with its visits
abbrev pub vector_of : List ℕ → Table → ℕ → Elements → Option (Counted (Option Vector))
vector_of b t k elements = counted (optional_cost (vector_cost elements)) (vector_field b t k elements)

-- how many elements there are
abbrev pub count_of : Option Vector → ℕ
count_of None = 0
count_of (Some v) = v.count

-- ---- tables that are entered

-- what is read inside a table
unfoldable pub enter : {A : Type 0} → Option Table → (Table → Option (Counted A)) → Option (Counted A)
enter None inner = None
enter (Some t) inner = deeper (inner t)

-- what is read inside a table, where there is one
unfoldable pub enter_optional : {A : Type 0} → Option (Option Table) → (Table → Option (Counted A)) → Option (Counted (Option A))
enter_optional None inner = None
enter_optional (Some None) inner = pure None
enter_optional (Some (Some t)) inner = deeper (inner t) >>= (λ x. pure (Some x))

-- what must be there
unfoldable pub present : {A : Type 0} → Option A → Option (Counted A)
present None = None
present (Some x) = pure x

-- ---- vectors of offsets

-- the next so many elements, from one on
unfoldable pub each_from : {A : Type 0} → (ℕ → Option (Counted A)) → ℕ → ℕ → Option (Counted (List A))
each_from read zero i = pure []
each_from read (suc left) i = do
  x ← read i
  xs ← each_from read left (i + 1)
  pure (x ∷ xs)

-- what is read inside each table of a vector
unfoldable pub each_table : {A : Type 0} → List ℕ → (Table → Option (Counted A)) → Vector → Option (Counted (List A))
each_table b inner v = each_from (λ i. enter (table_of_vector b v i) inner) v.count 0

-- the texts of a vector
unfoldable pub each_text : List ℕ → Vector → Option (Counted (List (List ℕ)))
each_text b v = each_from (λ i. counted text_cost (text_of_vector b v i)) v.count 0

-- a vector that is absent is empty
unfoldable pub or_empty : {A : Type 0} → (Vector → Option (Counted (List A))) → Option Vector → Option (Counted (List A))
or_empty read None = pure []
or_empty read (Some v) = read v

-- ---- limits

abbrev pub most_levels : ℕ
most_levels = 64

abbrev pub most_visits : ℕ
most_visits = 1000000

-- the value and the visits that are left, where both limits hold
unfoldable pub within : {A : Type 0} → ℕ → ℕ → Option (Counted A) → Option (A × ℕ)
within levels visits None = None
within levels visits (Some c) =
    if nat_le c.levels levels then (if nat_le c.visits visits then Some (c.value, visits - c.visits) else None) else None

-- the value that a whole root gives
abbrev pub allowed : {A : Type 0} → Option (Counted A) → Option A
allowed c = first (within most_levels most_visits c)
  where
    first : {A : Type 0} → Option (A × ℕ) → Option A
    first None = None
    first (Some p) = Some p.0
