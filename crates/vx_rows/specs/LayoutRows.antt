-- The rows of a layout whose segments have known bytes.
use Rattle.std.specs.Prelude.{ℕ, Bool, true, false, List, [], ◌∷◌, map, replicate, unwrap_or, Option, Some, None}
use Rattle.std.specs.Option.{option_map, option_and_then}
use Rattle.std.specs.Result.{result_ok}
use Rattle.vx_data.specs.declared.layout_kind.LayoutKind.{LayoutKind}
use Rattle.vx_data.specs.declared.layout_kind.LayoutKind.TheVariants.{Flat, Chunked, Struct}
use Rattle.vx_data.specs.Dtype.{Dtype, FieldList, bool, int, text, struct, no_fields, field}
use Rattle.vx_data.specs.Layout.{LayoutTree, Layouts, node, no_layouts, a_layout}
use Rattle.vx_rows.specs.Columns.{Structs}
use Rattle.vx_rows.specs.Rows.{Rows, FieldRows, bools, ints, texts, structs, no_columns, column}
use Rattle.vx_rows.specs.Trees.{array}
use Rattle.vx_rows.specs.ReadRows.{no_rows}
use Rattle.vx_rows.specs.Parts.{appended}

-- ---- a node over the rows of its children

-- one segment, which an array of so many rows fills
abbrev pub flat_rows : (ℕ → Option (List ℕ)) → List (List ℕ) → Dtype → ℕ → List ℕ → Option Rows
flat_rows bytes ids d n (segment ∷ []) = option_and_then (λ b. result_ok (array ids d n b)) (bytes segment)
flat_rows bytes ids d n _ = None

-- chunks, one behind the other
abbrev pub joined : Dtype → List Rows → Rows
joined d [] = no_rows d
joined d (c ∷ cs) = appended c (joined d cs)

-- the columns of fields, in their order
abbrev pub zipped : FieldList → List Rows → Option FieldRows
zipped no_fields [] = Some no_columns
zipped no_fields (c ∷ cs) = None
zipped (field name d fs) [] = None
zipped (field name d fs) (c ∷ cs) = option_map (column name c) (zipped fs cs)

-- which structs are there, by a column of truth values
abbrev pub there_in : Rows → Option Structs
there_in (bools c) = Some (record { nullable = true; present = map (λ row. unwrap_or row false) c.rows })
there_in (ints c) = None
there_in (texts c) = None
there_in (structs c cs) = None

-- where structs may be null, the first column says which are there
abbrev pub struct_rows : FieldList → Bool → ℕ → List Rows → Option Rows
struct_rows fs true n [] = None
struct_rows fs true n (c ∷ cs) = option_and_then (λ s. option_map (structs s) (zipped fs cs)) (there_in c)
struct_rows fs false n cs = option_map (structs (record { nullable = false; present = replicate n true })) (zipped fs cs)

abbrev pub node_rows : (ℕ → Option (List ℕ)) → List (List ℕ) → LayoutKind → Dtype → ℕ → List ℕ → List Rows → Option Rows
node_rows bytes ids Flat d n segments cs = flat_rows bytes ids d n segments
node_rows bytes ids Chunked d n segments cs = Some (joined d cs)
node_rows bytes ids Struct (struct fs nullable) n segments cs = struct_rows fs nullable n cs
node_rows bytes ids Struct (bool nullable) n segments cs = None
node_rows bytes ids Struct (int ptype nullable) n segments cs = None
node_rows bytes ids Struct (text nullable) n segments cs = None

-- ---- a tree

abbrev mutual
  -- the rows of a layout by the bytes of its segments and the ids of arrays, where all of it can be decoded
  pub rows_of : (ℕ → Option (List ℕ)) → List (List ℕ) → LayoutTree → Option Rows
  rows_of bytes ids (node k d n segments children) = option_and_then (node_rows bytes ids k d n segments) (rows_of_all bytes ids children)

  pub rows_of_all : (ℕ → Option (List ℕ)) → List (List ℕ) → Layouts → Option (List Rows)
  rows_of_all bytes ids no_layouts = Some []
  rows_of_all bytes ids (a_layout t ts) = option_and_then (λ c. option_map (λ cs. c ∷ cs) (rows_of_all bytes ids ts)) (rows_of bytes ids t)
