-- What contracts see of columns that grow row by row.
use Rattle.std.specs.Prelude.{List, map, String}
use Rattle.std.specs.Global.{Global}
use Rattle.vx_rows.specs.Rows.{Rows, FieldRows, bools, ints, texts, structs, columns_of}
use Rattle.vx_rows.specs.declared.builder.Builder.{Builder, fold-Builder}
use Rattle.vx_rows.specs.declared.builder.Builder.TheOpen.{Builder-F, Builders-F}
use Rattle.vx_rows.specs.declared.builder.Builders.{Builders, fold-Builders}

abbrev pub builder_step : Builder-F Rows FieldRows → Rows
builder_step (Builder-F.Bool c) = bools c
builder_step (Builder-F.Int c) = ints c
builder_step (Builder-F.Text c) = texts c
builder_step (Builder-F.Struct c cs) = structs c cs

abbrev pub builders_step : Builders-F Rows FieldRows → FieldRows
builders_step f = columns_of f.builders.items

abbrev pub builder_view : Builder → Rows
builder_view = fold-Builder Rows FieldRows builder_step builders_step

abbrev pub builders_view : Builders → FieldRows
builders_view = fold-Builders Rows FieldRows builder_step builders_step

-- the same of builders in a list
abbrev pub built : List (String Global × Builder) → List (String Global × Rows)
built cs = map (λ c. (c.0, builder_view c.1)) cs

abbrev pub pairs_view : List (String Global × Builder) → FieldRows
pairs_view cs = columns_of (built cs)
