-- What the children of a layout hold, as plain data.
use Rattle.std.specs.Prelude.{ℕ, ◌+◌, Bool, true, false, List, [], ◌∷◌, ◌++◌, string_bytes}
use Rattle.vx_data.specs.declared.layout_kind.LayoutKind.TheVariants.{Flat, Chunked, Struct}
use Rattle.vx_data.specs.declared.layout_child_type.LayoutChildType.{LayoutChildType}
use Rattle.vx_data.specs.declared.layout_child_type.LayoutChildType.TheVariants as variant
use Rattle.vx_data.specs.Dtype.{Dtype, bool, int, text, struct, FieldList, no_fields, field}
use Rattle.vx_data.specs.Layout.{LayoutTree, node, Layouts, no_layouts, a_layout, rows_of}

pub data ChildType : Type 0 where
  a_field : List ℕ → ChildType
  a_chunk : ℕ → ℕ → ChildType
  the_validity : ChildType

abbrev pub child_view : LayoutChildType → ChildType
child_view (variant.Field name) = a_field (string_bytes name)
child_view (variant.Chunk index first_row) = a_chunk index first_row
child_view variant.Validity = the_validity

-- chunks from a place and a row on
abbrev pub chunk_types : ℕ → ℕ → Layouts → List ChildType
chunk_types index row no_layouts = []
chunk_types index row (a_layout t ts) = a_chunk index row ∷ chunk_types (index + 1) (row + rows_of t) ts

abbrev pub field_types : FieldList → List ChildType
field_types no_fields = []
field_types (field n d fs) = a_field n ∷ field_types fs

abbrev pub validity_types : Bool → List ChildType
validity_types true = the_validity ∷ []
validity_types false = []

abbrev pub struct_types : Dtype → List ChildType
struct_types (struct fs nullable) = validity_types nullable ++ field_types fs
struct_types (bool nullable) = []
struct_types (int ptype nullable) = []
struct_types (text nullable) = []

abbrev pub child_types : LayoutTree → List ChildType
child_types (node Flat d n s ts) = []
child_types (node Chunked d n s ts) = chunk_types 0 0 ts
child_types (node Struct d n s ts) = struct_types d
