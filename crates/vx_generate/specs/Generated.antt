-- The rows of a generated file, by their numbers.
use Rattle.std.specs.Prelude.{ℕ, ℤ, pos, ◌+◌, ◌*◌, ◌%◌, ◌==◌, Bool, true, false, not, if◌then◌else◌, List, [], ◌∷◌, ◌++◌, codes, decimal, Option, Some, None}
use Rattle.vx_data.specs.declared.ptype.PType.TheVariants.{U32, I64}
use Rattle.vx_data.specs.Dtype.{Dtype, int, text, struct, no_fields, field}
use Rattle.vx_rows.specs.Rows.{Rows, FieldRows, ints, texts, structs, no_columns, column}
use Rattle.vx_rows.specs.Span.{span}

-- ---- rows

-- each row is there
abbrev pub is_there : ℕ → Bool
is_there row = true

-- its number
abbrev pub id_of : ℕ → Option ℤ
id_of row = Some (pos row)

-- each fifth row has no score
abbrev pub has_score : ℕ → ℕ → Bool
has_score seed row = not ((row + seed) % 5 == 0)

abbrev pub score_of : ℕ → ℕ → Option ℤ
score_of seed row = if has_score seed row then Some (pos (3 * row + seed)) else None

-- `n` and a number below 1000
abbrev pub name_of : ℕ → ℕ → Option (List ℕ)
name_of seed row = Some (codes "n" ++ decimal ((row + seed) % 1000))

-- ---- columns

abbrev pub ids : ℕ → Rows
ids rows = ints (record { ptype = U32; nullable = false; rows = span id_of 0 rows })

abbrev pub scores : ℕ → ℕ → Rows
scores seed rows = ints (record { ptype = I64; nullable = true; rows = span (score_of seed) 0 rows })

abbrev pub names : ℕ → ℕ → Rows
names seed rows = texts (record { nullable = false; rows = span (name_of seed) 0 rows })

-- the columns under their names
abbrev pub generated_columns : ℕ → ℕ → FieldRows
generated_columns seed rows = column (codes "id") (ids rows) (column (codes "score") (scores seed rows) (column (codes "name") (names seed rows) no_columns))

-- so many rows from a seed
abbrev pub generated : ℕ → ℕ → Rows
generated seed rows = structs (record { nullable = false; present = span is_there 0 rows }) (generated_columns seed rows)

abbrev pub generated_dtype : Dtype
generated_dtype = struct (field (codes "id") (int U32 false) (field (codes "score") (int I64 true) (field (codes "name") (text false) no_fields))) false

-- the ids of the arrays of its columns
abbrev pub generated_arrays : List (List ℕ)
generated_arrays = codes "vortex.primitive" ∷ codes "vortex.struct" ∷ codes "vortex.varbin" ∷ []
