-- How many bytes each column of a file takes.
use Rattle.std.specs.Prelude.{◌≡◌, ℕ, List, [], ◌∷◌, Result, Ok, Err, unwrap_or}
use Rattle.vx_base.specs.declared.segment.SegmentSpec.{SegmentSpec}
use Rattle.vx_data.specs.Dtype.{Dtype, bool, int, text, struct, FieldList, no_fields, field}
use Rattle.vx_data.specs.Layout.{LayoutTree, dtype_of}
use Rattle.vx_footer.specs.FieldSizes.{SizeList, SizesGiven, size_at}
use Rattle.vx_footer.specs.declared.sizes_error.SizesError.{SizesError}

-- nothing, where no field has the name
abbrev pub column_size : SizeList → List ℕ → ℕ
column_size sizes name = unwrap_or (size_at sizes.entries (name ∷ [])) 0

abbrev pub field_sizes : SizeList → FieldList → List ℕ
field_sizes sizes no_fields = []
field_sizes sizes (field name dtype fields) = column_size sizes name ∷ field_sizes sizes fields

-- those of the fields in their order, or that of the whole
abbrev pub column_sizes : SizeList → Dtype → List ℕ
column_sizes sizes (struct fields nullable) = field_sizes sizes fields
column_sizes sizes (bool nullable) = sizes.total ∷ []
column_sizes sizes (int ptype nullable) = sizes.total ∷ []
column_sizes sizes (text nullable) = sizes.total ∷ []

-- the columns of a tree have these sizes, by those of its paths
abbrev pub HasColumnSizes : LayoutTree → List SegmentSpec → List ℕ → Type 0
HasColumnSizes t ss columns = (sizes : SizeList) × SizesGiven t ss (Ok sizes) × (columns ≡ column_sizes sizes (dtype_of t))

-- why there are none
abbrev pub RefusesSizes : LayoutTree → List SegmentSpec → SizesError → Type 0
RefusesSizes t ss e = (let answer : Result SizeList SizesError = Err e in SizesGiven t ss answer)
