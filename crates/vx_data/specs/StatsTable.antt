-- The table of statistics, and the checks on it: all of its grammar, then as many sets as columns, then the scalars.
use Rattle.std.specs.Prelude.{ℕ, ℤ, pos, Bool, true, false, ◌==◌, if◌then◌else◌, List, [], ◌∷◌, length, Option, Some, None, Result}
use Rattle.std.specs.Int.{Width, w8, w16, w32, w64, byte_len, from_le_bytes, cast_signed}
use Rattle.std.specs.Str.{is_utf8}
use Rattle.std.specs.Option.{option_map}
use Rattle.vx_tables.specs.declared.elements.Elements.TheVariants.{Numbers, Offsets}
use Rattle.vx_tables.specs.Field.{◌>>=◌ as ◌then◌, Table, Vector, root, field, element_bytes}
use Rattle.vx_tables.specs.Counted.{Counted, ◌>>=◌, pure, free, enter, each_table, or_empty, or_zero, vector_of, allowed}
use Rattle.vx_data.specs.declared.ptype.PType.{PType}
use Rattle.vx_data.specs.declared.ptype.PType.TheVariants.{U8, U16, U32, U64, I8, I16, I32, I64}
use Rattle.vx_data.specs.declared.stats_set.Precision.{Precision}
use Rattle.vx_data.specs.declared.stats_set.Precision.TheVariants.{Exact, Inexact}
use Rattle.vx_data.specs.declared.data_error.DataError.{DataError}
use Rattle.vx_data.specs.declared.data_error.DataError.TheVariants.{BadTable, StatsCount}
use Rattle.vx_base.specs.Checks.{◌>>=◌ as ◌passes◌, ◌unless◌, ◌lacking◌}
use Rattle.vx_data.specs.Dtype.{Dtype, bool, int, text, struct}
use Rattle.vx_data.specs.Layout.{dtypes_of}
use Rattle.vx_data.specs.Scalar.{Value, flag, number, words}
use Rattle.vx_data.specs.Stats.{Stats}
use Rattle.vx_data.specs.StatsEntry.{Entry}

-- ---- scalars

-- one byte, 0 or 1
abbrev pub flag_of : List ℕ → Option Value
flag_of [] = None
flag_of (b ∷ []) = if b == 0 then Some (flag false) else if b == 1 then Some (flag true) else None
flag_of (b ∷ c ∷ bs) = None

abbrev pub unsigned_of : Width → List ℕ → Option ℤ
unsigned_of w cells = if length cells == byte_len w then Some (pos (from_le_bytes w cells)) else None

abbrev pub signed_of : Width → List ℕ → Option ℤ
signed_of w cells = if length cells == byte_len w then Some (cast_signed w (from_le_bytes w cells)) else None

-- the width of the type
abbrev pub int_of : PType → List ℕ → Option ℤ
int_of U8 cells = unsigned_of w8 cells
int_of U16 cells = unsigned_of w16 cells
int_of U32 cells = unsigned_of w32 cells
int_of U64 cells = unsigned_of w64 cells
int_of I8 cells = signed_of w8 cells
int_of I16 cells = signed_of w16 cells
int_of I32 cells = signed_of w32 cells
int_of I64 cells = signed_of w64 cells

abbrev pub words_of : List ℕ → Option Value
words_of cells = if is_utf8 cells then Some (words cells) else None

abbrev pub scalar_of : Dtype → List ℕ → Option Value
scalar_of (bool nullable) cells = flag_of cells
scalar_of (int ptype nullable) cells = option_map number (int_of ptype cells)
scalar_of (text nullable) cells = words_of cells
scalar_of (struct fs nullable) cells = None

-- ---- the table: minimum, maximum and null count, each with its precision behind it

-- 1 is exact, any other number isn't
abbrev pub is_exact : Option ℕ → Bool
is_exact precision = or_zero precision == 1

abbrev pub bytes_or_none : List ℕ → Option Vector → Option (List ℕ)
bytes_or_none b None = None
bytes_or_none b (Some v) = Some (element_bytes b v (Numbers 1))

unfoldable pub bytes_in : List ℕ → Table → ℕ → Option (Counted (Option (List ℕ)))
bytes_in b t k = do
  v ← vector_of b t k (Numbers 1)
  pure (bytes_or_none b v)

unfoldable pub entry_in : List ℕ → Table → Option (Counted Entry)
entry_in b t = do
  min ← bytes_in b t 0
  min_precision ← free (field w8 b t 1)
  max ← bytes_in b t 2
  max_precision ← free (field w8 b t 3)
  null_count ← free (field w64 b t 4)
  null_precision ← free (field w8 b t 5)
  pure (record {
    min = min;
    is_min_exact = is_exact min_precision;
    max = max;
    is_max_exact = is_exact max_precision;
    null_count = null_count;
    is_null_count_exact = is_exact null_precision;
  })

unfoldable pub entries_in : List ℕ → Table → Option (Counted (List Entry))
entries_in b t = do
  v ← vector_of b t 0 Offsets
  or_empty (each_table b (entry_in b)) v

unfoldable pub stats_table : List ℕ → Option (Counted (List Entry))
stats_table b = enter (root b) (entries_in b)

-- ---- sets

-- the fields of a struct, and another type by itself
abbrev pub columns_of : Dtype → List Dtype
columns_of (struct fs nullable) = dtypes_of fs
columns_of (bool nullable) = bool nullable ∷ []
columns_of (int ptype nullable) = int ptype nullable ∷ []
columns_of (text nullable) = text nullable ∷ []

abbrev pub precision_of : Bool → Precision
precision_of true = Exact
precision_of false = Inexact

abbrev pub is_struct : Dtype → Bool
is_struct (struct fs nullable) = true
is_struct (bool nullable) = false
is_struct (int ptype nullable) = false
is_struct (text nullable) = false

-- a minimum or maximum, which is not kept of a struct
abbrev pub bound_of : Dtype → Option (List ℕ) → Bool → Option (Option (Value × Precision))
bound_of d None exact = Some None
bound_of d (Some cells) exact = if is_struct d then Some None else option_map (λ v. Some (v, precision_of exact)) (scalar_of d cells)

abbrev pub count_stat : Option ℕ → Bool → Option (Value × Precision)
count_stat count exact = option_map (λ n. (number (pos n), precision_of exact)) count

abbrev pub with_max : Option (Value × Precision) → Option (Value × Precision) → Option (Option (Value × Precision)) → Option Stats
with_max count min None = None
with_max count min (Some max) = Some (record { min = min; max = max; null_count = count })

abbrev pub with_bounds : Option (Value × Precision) → Option (Option (Value × Precision)) → Option (Option (Value × Precision)) → Option Stats
with_bounds count None max = None
with_bounds count (Some min) max = with_max count min max

abbrev pub stats_of : Dtype → Entry → Option Stats
stats_of d e = with_bounds (count_stat e.null_count e.is_null_count_exact) (bound_of d e.min e.is_min_exact) (bound_of d e.max e.is_max_exact)

-- a set before others, where all are there
abbrev pub set_before : Option Stats → Option (List Stats) → Option (List Stats)
set_before None ss = None
set_before (Some s) None = None
set_before (Some s) (Some ss) = Some (s ∷ ss)

-- the sets of the columns, in order
abbrev pub all_stats : List Entry → List Dtype → Option (List Stats)
all_stats [] ds = Some []
all_stats (e ∷ es) [] = Some []
all_stats (e ∷ es) (d ∷ ds) = set_before (stats_of d e) (all_stats es ds)

unfoldable pub stats_checks : Dtype → List ℕ → Result (List Stats) DataError
stats_checks d bytes =
    BadTable lacking allowed (stats_table bytes) passes λ entries.
    (StatsCount unless length entries == length (columns_of d)) passes λ _.
    BadTable lacking all_stats entries (columns_of d)
