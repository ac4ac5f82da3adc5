-- What contracts see of a column of any type: a tree of plain data.
use Rattle.std.specs.Prelude.{◌≡◌, ℕ, ℤ, Bool, true, List, [], ◌∷◌, map, length, slice_index_or, Option, None, is_some, IfSome, String, string_bytes}
use Rattle.std.specs.List.{All}
use Rattle.std.specs.Str.{IsUtf8}
use Rattle.std.specs.Global.{Global}
use Rattle.vx_data.specs.Dtype.{Dtype, FieldList, bool, int, text, struct, no_fields, field}
use Rattle.vx_rows.specs.Columns.{Bools, Ints, Texts, Structs, may_hold, are_there}
use Rattle.vx_rows.specs.Written.{is_within}
use Rattle.vx_data.specs.declared.ptype.PType.{PType}
use Rattle.vx_rows.specs.declared.column.Column.{Column, fold-Column}
use Rattle.vx_rows.specs.declared.column.Column.TheOpen.{Column-F, Columns-F}
use Rattle.vx_rows.specs.declared.column.Columns.{Columns, fold-Columns}

mutual
  pub data Rows : Type 0 where
    bools : Bools → Rows
    ints : Ints → Rows
    texts : Texts → Rows
    structs : Structs → FieldRows → Rows

  -- the names and columns of a struct's fields
  pub data FieldRows : Type 0 where
    no_columns : FieldRows
    column : List ℕ → Rows → FieldRows → FieldRows

-- ---- what a column stands for

abbrev pub columns_of : List (String Global × Rows) → FieldRows
columns_of [] = no_columns
columns_of (c ∷ cs) = column (string_bytes c.0) c.1 (columns_of cs)

abbrev pub column_step : Column-F Rows FieldRows → Rows
column_step (Column-F.Bool c) = bools c
column_step (Column-F.Int c) = ints c
column_step (Column-F.Text c) = texts c
column_step (Column-F.Struct c cs) = structs c cs

abbrev pub columns_step : Columns-F Rows FieldRows → FieldRows
columns_step f = columns_of f.columns.items

abbrev pub column_view : Column → Rows
column_view = fold-Column Rows FieldRows column_step columns_step

abbrev pub columns_view : Columns → FieldRows
columns_view = fold-Columns Rows FieldRows column_step columns_step

-- the same of columns in a list
abbrev pub viewed : List (String Global × Column) → List (String Global × Rows)
viewed cs = map (λ c. (c.0, column_view c.1)) cs

abbrev pub pairs_view : List (String Global × Column) → FieldRows
pairs_view cs = columns_of (viewed cs)

-- ---- what stands in a row

-- whether a row is not null
abbrev pub present_in : Rows → ℕ → Bool
present_in (bools c) row = is_some (slice_index_or c.rows row None)
present_in (ints c) row = is_some (slice_index_or c.rows row None)
present_in (texts c) row = is_some (slice_index_or c.rows row None)
present_in (structs c cs) row = slice_index_or c.present row true

-- the truth value of a row that has one
abbrev pub bool_in : Rows → ℕ → Option Bool
bool_in (bools c) row = slice_index_or c.rows row None
bool_in (ints c) row = None
bool_in (texts c) row = None
bool_in (structs c cs) row = None

-- the integer of a row that has one
abbrev pub int_in : Rows → ℕ → Option ℤ
int_in (bools c) row = None
int_in (ints c) row = slice_index_or c.rows row None
int_in (texts c) row = None
int_in (structs c cs) row = None

-- the text of a row that has one
abbrev pub text_in : Rows → ℕ → Option (List ℕ)
text_in (bools c) row = None
text_in (ints c) row = None
text_in (texts c) row = slice_index_or c.rows row None
text_in (structs c cs) row = None

-- the fields of a struct; no other column has any
abbrev pub fields_in : Rows → FieldRows
fields_in (bools c) = no_columns
fields_in (ints c) = no_columns
fields_in (texts c) = no_columns
fields_in (structs c cs) = cs

-- the number of rows
abbrev pub rows_len : Rows → ℕ
rows_len (bools c) = length c.rows
rows_len (ints c) = length c.rows
rows_len (texts c) = length c.rows
rows_len (structs c cs) = length c.present

-- ---- types and lengths

abbrev mutual
  -- the type of a column
  pub dtype_of : Rows → Dtype
  dtype_of (bools c) = bool c.nullable
  dtype_of (ints c) = int c.ptype c.nullable
  dtype_of (texts c) = text c.nullable
  dtype_of (structs c cs) = struct (types_of cs) c.nullable

  pub types_of : FieldRows → FieldList
  types_of no_columns = no_fields
  types_of (column name c cs) = field name (dtype_of c) (types_of cs)

abbrev mutual
  -- a column has so many rows, and so has each column in it
  pub HasRows : ℕ → Rows → Type 0
  HasRows n (bools c) = length c.rows ≡ n
  HasRows n (ints c) = length c.rows ≡ n
  HasRows n (texts c) = length c.rows ≡ n
  HasRows n (structs c cs) = (length c.present ≡ n) × AllHaveRows n cs

  pub AllHaveRows : ℕ → FieldRows → Type 0
  AllHaveRows n no_columns = Unit {0}
  AllHaveRows n (column name c cs) = HasRows n c × AllHaveRows n cs

-- each number is in the range of the type
abbrev pub AreWithin : PType → List (Option ℤ) → Type 0
AreWithin p rows = All (λ (row : Option ℤ). IfSome row (λ value. is_within p value ≡ true)) rows

-- each text is one
abbrev pub AreUtf8 : List (Option (List ℕ)) → Type 0
AreUtf8 rows = All (λ (row : Option (List ℕ)). IfSome row IsUtf8) rows

abbrev mutual
  -- a column of so many rows: values are of its type, and none is missing where it may not be null
  pub IsColumn : ℕ → Rows → Type 0
  IsColumn n (bools c) = (length c.rows ≡ n) × (may_hold c.nullable c.rows ≡ true)
  IsColumn n (ints c) = (length c.rows ≡ n) × (may_hold c.nullable c.rows ≡ true) × AreWithin c.ptype c.rows
  IsColumn n (texts c) = (length c.rows ≡ n) × (may_hold c.nullable c.rows ≡ true) × AreUtf8 c.rows
  IsColumn n (structs c cs) = (length c.present ≡ n) × (are_there c.nullable c.present ≡ true) × AreColumns n cs

  pub AreColumns : ℕ → FieldRows → Type 0
  AreColumns n no_columns = Unit {0}
  AreColumns n (column name c cs) = IsColumn n c × AreColumns n cs
