-- Which rows of a column that grows are not null.
use Rattle.std.specs.Prelude.{Bool, List, if◌then◌else◌, Option, Some, None}
use Rattle.vx_rows.specs.Columns.{Structs}

-- they are kept where some may be null
abbrev pub kept : Structs → Option (List Bool)
kept c = if c.nullable then Some c.present else None
