-- The table of a type as it is written, with the levels and visits that a reader makes of it.
use Rattle.std.specs.Prelude.{◌≡◌, ℕ, ◌+◌, max, Bool, true, false, List, [], ◌∷◌, ◌++◌, Result}
use Rattle.std.specs.Int.{w8}
use Rattle.std.specs.Str.{is_utf8}
use Rattle.vx_tables.specs.Block.{Piece, number, texts, tables}
use Rattle.vx_tables.specs.Counted.{text_cost}
use Rattle.vx_data.specs.declared.ptype.PType.{PType}
use Rattle.vx_data.specs.declared.ptype.PType.TheVariants.{U8, U16, U32, U64, I8, I16, I32, I64}
use Rattle.vx_data.specs.declared.table_write_error.TableWriteError.{TableWriteError}
use Rattle.vx_data.specs.Dtype.{Dtype, bool, int, text, struct, FieldList, no_fields, field}
use Rattle.vx_data.specs.Written.{written}

abbrev pub ptype_number : PType → ℕ
ptype_number U8 = 0
ptype_number U16 = 1
ptype_number U32 = 2
ptype_number U64 = 3
ptype_number I8 = 4
ptype_number I16 = 5
ptype_number I32 = 6
ptype_number I64 = 7

abbrev pub flag_number : Bool → ℕ
flag_number true = 1
flag_number false = 0

-- the kind, whether rows may be null, and the type of integers
abbrev pub head_pieces : ℕ → Bool → ℕ → List Piece
head_pieces kind nullable ptype = number w8 0 kind ∷ number w8 1 (flag_number nullable) ∷ number w8 2 ptype ∷ []

-- a struct has the names and tables of its fields
abbrev pub struct_pieces : Bool → List (List ℕ) → List (List Piece) → List Piece
struct_pieces nullable names fields = head_pieces 4 nullable 0 ++ texts 3 names ∷ tables 4 fields ∷ []

abbrev pub names_of : FieldList → List (List ℕ)
names_of no_fields = []
names_of (field n d fs) = n ∷ names_of fs

abbrev mutual
  pub pieces_of : Dtype → List Piece
  pieces_of (bool nullable) = head_pieces 1 nullable 0
  pieces_of (int ptype nullable) = head_pieces 2 nullable (ptype_number ptype)
  pieces_of (text nullable) = head_pieces 3 nullable 0
  pieces_of (struct fs nullable) = struct_pieces nullable (names_of fs) (all_pieces fs)

  pub all_pieces : FieldList → List (List Piece)
  all_pieces no_fields = []
  all_pieces (field n d fs) = pieces_of d ∷ all_pieces fs

abbrev mutual
  pub levels_of : Dtype → ℕ
  levels_of (bool nullable) = 1
  levels_of (int ptype nullable) = 1
  levels_of (text nullable) = 1
  levels_of (struct fs nullable) = most_levels fs + 1

  pub most_levels : FieldList → ℕ
  most_levels no_fields = 0
  most_levels (field n d fs) = max (levels_of d) (most_levels fs)

-- one for each table, text and vector, and more for long texts
abbrev mutual
  pub visits_of : Dtype → ℕ
  visits_of (bool nullable) = 1
  visits_of (int ptype nullable) = 1
  visits_of (text nullable) = 1
  visits_of (struct fs nullable) = 3 + fields_visits fs

  pub fields_visits : FieldList → ℕ
  fields_visits no_fields = 0
  fields_visits (field n d fs) = text_cost n + (visits_of d + fields_visits fs)

-- names are texts
abbrev mutual
  pub HasTexts : Dtype → Type 0
  HasTexts (bool nullable) = Unit {0}
  HasTexts (int ptype nullable) = Unit {0}
  HasTexts (text nullable) = Unit {0}
  HasTexts (struct fs nullable) = HaveTexts fs

  pub HaveTexts : FieldList → Type 0
  HaveTexts no_fields = Unit {0}
  HaveTexts (field n d fs) = (is_utf8 n ≡ true) × HasTexts d × HaveTexts fs

unfoldable pub dtype_written : Dtype → Result (List ℕ) TableWriteError
dtype_written d = written (levels_of d) (visits_of d) (pieces_of d)
