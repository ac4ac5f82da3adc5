-- How rows are read from text: one line for each, whose value is put behind the rows before it.
use Rattle.std.specs.Prelude.{◌≡◌, ℕ, ℤ, pos, ◌+◌, ◌==◌, Bool, true, false, not, if◌then◌else◌}
use Rattle.std.specs.Prelude.{List, [], ◌∷◌, ◌++◌, length, codes, Option, Some, None, Result, Ok, Err}
use Rattle.std.specs.Option.{option_map, option_and_then}
use Rattle.vx_base.specs.Checks.{◌>>=◌, ◌lacking◌}
use Rattle.vx_data.specs.Dtype.{Dtype, FieldList, bool, int, text, struct, no_fields, field}
use Rattle.vx_data.specs.Texts.{comma}
use Rattle.vx_data.specs.TextsRead.{quoted_in, after}
use Rattle.vx_rows.specs.Columns.{Bools, Ints, Texts, Structs}
use Rattle.vx_rows.specs.Rows.{Rows, FieldRows, bools, ints, texts, structs, no_columns, column}
use Rattle.vx_rows.specs.ReadValues.{null_in, optional_in, truth_in, number_in}
use Rattle.vx_rows.specs.declared.rows_error.RowsError.{RowsError}
use Rattle.vx_rows.specs.declared.rows_error.RowsError.TheVariants.{BadLine, OutOfMemory}

-- what a refusal tells: which line is the first that is in no grammar. Want of memory tells nothing.
abbrev pub FailsToRead : {A : Type 0} → RowsError → Result A RowsError → Type 0
FailsToRead (BadLine line) answer = answer ≡ Err (BadLine line)
FailsToRead OutOfMemory answer = Unit {0}

-- ---- one row more

abbrev pub more_bools : Bools → Option Bool → Bools
more_bools c row = record { nullable = c.nullable; rows = c.rows ++ row ∷ [] }

abbrev pub more_ints : Ints → Option ℤ → Ints
more_ints c row = record { ptype = c.ptype; nullable = c.nullable; rows = c.rows ++ row ∷ [] }

abbrev pub more_texts : Texts → Option (List ℕ) → Texts
more_texts c row = record { nullable = c.nullable; rows = c.rows ++ row ∷ [] }

abbrev pub more_structs : Structs → Bool → Structs
more_structs c present = record { nullable = c.nullable; present = c.present ++ present ∷ [] }

-- null where a row may be, else a value
abbrev pub null_or : {A : Type 0} → Bool → A → Option A
null_or nullable value = if nullable then None else Some value

abbrev mutual
  -- the row of a column in a struct that is null: null where it may be, else false, 0, the empty text or a struct of such fields
  pub absent : Rows → Rows
  absent (bools c) = bools (more_bools c (null_or c.nullable false))
  absent (ints c) = ints (more_ints c (null_or c.nullable (pos 0)))
  absent (texts c) = texts (more_texts c (null_or c.nullable []))
  absent (structs c cs) = structs (more_structs c (not c.nullable)) (all_absent cs)

  pub all_absent : FieldRows → FieldRows
  all_absent no_columns = no_columns
  all_absent (column name c cs) = column name (absent c) (all_absent cs)

-- ---- values

-- a struct that is null
abbrev pub null_struct : Structs → FieldRows → List ℕ → Rows × List ℕ
null_struct c cs rest = (structs (more_structs c false) (all_absent cs), rest)

-- a struct behind its fields
abbrev pub closed : Structs → FieldRows × List ℕ → Option (Rows × List ℕ)
closed c x = option_map (λ rest. (structs (more_structs c true) x.0, rest)) (after (codes ")") x.1)

abbrev pub struct_unless : Option (Rows × List ℕ) → Option (Rows × List ℕ) → Option (Rows × List ℕ)
struct_unless (Some null) value = Some null
struct_unless None value = value

-- a field before the others
abbrev pub before_fields : List ℕ → Rows → FieldRows × List ℕ → FieldRows × List ℕ
before_fields name c x = (column name c x.0, x.1)

abbrev mutual
  -- a column with the value in front as a row more, and what follows the value
  pub value_in : Rows → List ℕ → Option (Rows × List ℕ)
  value_in (bools c) t = option_map (λ x. (bools (more_bools c x.0), x.1)) (optional_in truth_in c.nullable t)
  value_in (ints c) t = option_map (λ x. (ints (more_ints c x.0), x.1)) (optional_in (number_in c.ptype) c.nullable t)
  value_in (texts c) t = option_map (λ x. (texts (more_texts c x.0), x.1)) (optional_in quoted_in c.nullable t)
  value_in (structs c cs) t = struct_unless (option_map (null_struct c cs) (null_in c.nullable t))
      (option_and_then (λ inside. option_and_then (closed c) (values_in true cs inside)) (after (codes "(") t))

  -- the values of fields, of which the first has no comma before it
  pub values_in : Bool → FieldRows → List ℕ → Option (FieldRows × List ℕ)
  values_in first no_columns t = Some (no_columns, t)
  values_in first (column name c cs) t =
      option_and_then (λ x. option_map (before_fields name x.0) (values_in false cs x.1)) (option_and_then (λ u. value_in c u) (after (comma first) t))

-- ---- lines

-- what nothing follows
abbrev pub alone : Rows × List ℕ → Option Rows
alone x = if length x.1 == 0 then Some x.0 else None

-- a column with the value of a line as a row more
abbrev pub line_in : Rows → List ℕ → Option Rows
line_in c line = option_and_then alone (value_in c line)

-- what follows the end of a line: its line feed, which may lack at the end
abbrev pub after_end : List ℕ → Option (List ℕ)
after_end [] = Some []
after_end (c ∷ t) = if c == 10 then Some t else None

-- what comes up to the end of a line
abbrev pub ended : Rows × List ℕ → Option (Rows × List ℕ)
ended x = option_map (λ rest. (x.0, rest)) (after_end x.1)

-- a column with the value of the first line of a text as a row more, and what follows that line
abbrev pub row_in : Rows → List ℕ → Option (Rows × List ℕ)
row_in c t = option_and_then ended (value_in c t)

abbrev pub with_first : ℕ → List (List ℕ) → List (List ℕ)
with_first c [] = (c ∷ []) ∷ []
with_first c (line ∷ lines) = (c ∷ line) ∷ lines

-- the lines of a text. A line feed ends each; it may lack behind the last
unfoldable pub lines_of : List ℕ → List (List ℕ)
lines_of [] = []
lines_of (c ∷ cs) = if c == 10 then [] ∷ lines_of cs else with_first c (lines_of cs)

-- a column with the rows of lines, of which the first has this number
unfoldable pub rows_behind : Rows → ℕ → List (List ℕ) → Result Rows RowsError
rows_behind c number [] = Ok c
rows_behind c number (line ∷ lines) = (BadLine number lacking line_in c line) >>= λ more. rows_behind more (number + 1) lines

abbrev mutual
  -- the column of a type that has no rows
  pub no_rows : Dtype → Rows
  no_rows (bool nullable) = bools (record { nullable = nullable; rows = [] })
  no_rows (int ptype nullable) = ints (record { ptype = ptype; nullable = nullable; rows = [] })
  no_rows (text nullable) = texts (record { nullable = nullable; rows = [] })
  no_rows (struct fs nullable) = structs (record { nullable = nullable; present = [] }) (no_rows_each fs)

  pub no_rows_each : FieldList → FieldRows
  no_rows_each no_fields = no_columns
  no_rows_each (field name d fs) = column name (no_rows d) (no_rows_each fs)

-- the column of a type whose rows a text spells, or the first line that is in no grammar
abbrev pub rows_of : Dtype → List ℕ → Result Rows RowsError
rows_of d t = rows_behind (no_rows d) 0 (lines_of t)
