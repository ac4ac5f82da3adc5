-- The table of statistics as it is written, with the visits that a reader makes of it.
use Rattle.std.specs.Prelude.{ℕ, ℤ, pos, negsuc, ◌+◌, Bool, true, false, ◌&&◌, int_le, nat_le, if◌then◌else◌, List, [], ◌∷◌, ◌++◌, map, sum_by, Option, Some, None, is_some, Result}
use Rattle.std.specs.Int.{Width, w8, w16, w32, w64, to_le_bytes, cast_unsigned}
use Rattle.vx_base.specs.Checks.{◌>>=◌, ◌unless◌}
use Rattle.vx_tables.specs.Block.{Piece, number as a_number, bytes, tables}
use Rattle.vx_tables.specs.Counted.{text_cost}
use Rattle.vx_data.specs.declared.ptype.PType.{PType}
use Rattle.vx_data.specs.declared.ptype.PType.TheVariants.{U8, U16, U32, U64, I8, I16, I32, I64}
use Rattle.vx_data.specs.declared.stats_set.Precision.{Precision}
use Rattle.vx_data.specs.declared.stats_set.Precision.TheVariants.{Exact, Inexact}
use Rattle.vx_data.specs.declared.table_write_error.TableWriteError.{TableWriteError}
use Rattle.vx_data.specs.declared.table_write_error.TableWriteError.TheVariants.{TooManyTables}
use Rattle.vx_data.specs.Dtype.{Dtype, bool, int, text, struct}
use Rattle.vx_data.specs.DtypeWritten.{flag_number}
use Rattle.vx_data.specs.Scalar.{Value, flag, number, words}
use Rattle.vx_data.specs.Stats.{Stats}
use Rattle.vx_data.specs.StatsEntry.{Entry}
use Rattle.vx_data.specs.Written.{root_written}

-- ---- scalars

abbrev pub width_of : PType → Width
width_of U8 = w8
width_of U16 = w16
width_of U32 = w32
width_of U64 = w64
width_of I8 = w8
width_of I16 = w16
width_of I32 = w32
width_of I64 = w64

abbrev pub least_of : PType → ℤ
least_of U8 = pos 0
least_of U16 = pos 0
least_of U32 = pos 0
least_of U64 = pos 0
least_of I8 = negsuc 127
least_of I16 = negsuc 32767
least_of I32 = negsuc 2147483647
least_of I64 = negsuc 9223372036854775807

abbrev pub most_of : PType → ℤ
most_of U8 = pos 255
most_of U16 = pos 65535
most_of U32 = pos 4294967295
most_of U64 = pos 18446744073709551615
most_of I8 = pos 127
most_of I16 = pos 32767
most_of I32 = pos 2147483647
most_of I64 = pos 9223372036854775807

-- whether a number is one of the type
abbrev pub is_number_of : PType → ℤ → Bool
is_number_of p n = int_le (least_of p) n && int_le n (most_of p)

-- the width of the type, lowest byte first, in two's complement
abbrev pub number_bytes : PType → ℤ → List ℕ
number_bytes p n = to_le_bytes (width_of p) (cast_unsigned (width_of p) n)

abbrev pub bytes_of_flag : Value → Option (List ℕ)
bytes_of_flag (flag b) = Some (flag_number b ∷ [])
bytes_of_flag (number n) = None
bytes_of_flag (words t) = None

abbrev pub bytes_of_number : PType → Value → Option (List ℕ)
bytes_of_number p (flag b) = None
bytes_of_number p (number n) = if is_number_of p n then Some (number_bytes p n) else None
bytes_of_number p (words t) = None

abbrev pub bytes_of_words : Value → Option (List ℕ)
bytes_of_words (flag b) = None
bytes_of_words (number n) = None
bytes_of_words (words t) = Some t

-- the bytes of a value of the type. A struct has none
abbrev pub scalar_bytes : Dtype → Value → Option (List ℕ)
scalar_bytes (bool nullable) value = bytes_of_flag value
scalar_bytes (int ptype nullable) value = bytes_of_number ptype value
scalar_bytes (text nullable) value = bytes_of_words value
scalar_bytes (struct fs nullable) value = None

-- a count that fits 64 bits
abbrev pub count_of_value : Value → Option ℕ
count_of_value (flag b) = None
count_of_value (number n) = if is_number_of U64 n then Some (cast_unsigned w64 n) else None
count_of_value (words t) = None

-- ---- what stands in the table: what is no value of its type is left out

abbrev pub bound_bytes : Dtype → Option (Value × Precision) → Option (List ℕ)
bound_bytes d None = None
bound_bytes d (Some s) = scalar_bytes d s.0

abbrev pub count_number : Option (Value × Precision) → Option ℕ
count_number None = None
count_number (Some s) = count_of_value s.0

abbrev pub is_precise : Precision → Bool
is_precise Exact = true
is_precise Inexact = false

abbrev pub is_sure : Option (Value × Precision) → Bool
is_sure None = false
is_sure (Some s) = is_precise s.1

abbrev pub entry_of : Dtype → Stats → Entry
entry_of d s = record {
  min = bound_bytes d s.min;
  is_min_exact = is_sure s.min;
  max = bound_bytes d s.max;
  is_max_exact = is_sure s.max;
  null_count = count_number s.null_count;
  is_null_count_exact = is_sure s.null_count;
}

-- one for each set and its type
abbrev pub entries_of : List Stats → List Dtype → List Entry
entries_of [] ds = []
entries_of (s ∷ ss) [] = []
entries_of (s ∷ ss) (d ∷ ds) = entry_of d s ∷ entries_of ss ds

-- ---- pieces: a precision stands behind its scalar, and only there

abbrev pub bound_pieces : ℕ → Option (List ℕ) → Bool → List Piece
bound_pieces slot None exact = []
bound_pieces slot (Some xs) exact = bytes slot xs ∷ a_number w8 (slot + 1) (flag_number exact) ∷ []

abbrev pub count_pieces : Option ℕ → Bool → List Piece
count_pieces None exact = []
count_pieces (Some n) exact = a_number w64 4 n ∷ a_number w8 5 (flag_number exact) ∷ []

abbrev pub entry_pieces : Entry → List Piece
entry_pieces e = (bound_pieces 0 e.min e.is_min_exact ++ bound_pieces 2 e.max e.is_max_exact) ++ count_pieces e.null_count e.is_null_count_exact

abbrev pub stats_pieces : List Entry → List Piece
stats_pieces es = tables 0 (map entry_pieces es) ∷ []

-- ---- visits: the root and its vector, each set's table, and each minimum and maximum

abbrev pub bound_visits : Option (List ℕ) → ℕ
bound_visits None = 0
bound_visits (Some xs) = text_cost xs

abbrev pub entry_visits : Entry → ℕ
entry_visits e = 1 + (bound_visits e.min + bound_visits e.max)

abbrev pub stats_visits : List Entry → ℕ
stats_visits es = 2 + sum_by entry_visits es

-- tables lie at most two deep
unfoldable pub stats_written : List Stats → List Dtype → Result (List ℕ) TableWriteError
stats_written ss ds =
    TooManyTables unless nat_le (stats_visits (entries_of ss ds)) 1000000 >>= λ _.
    root_written (stats_pieces (entries_of ss ds))
