-- The text of the sizes of fields.
use Rattle.std.specs.Prelude.{ℕ, List, [], ◌∷◌, ◌++◌, codes, decimal}
use Rattle.std.specs.List.{flat_map}
use Rattle.vx_data.specs.Paths.{Path}
use Rattle.vx_data.specs.Texts.{quoted}

-- a part of a path
abbrev pub part_text : List ℕ → List ℕ
part_text name = codes "/" ++ quoted name

-- `/` is the path of the whole
abbrev pub path_text : Path → List ℕ
path_text [] = codes "/"
path_text (name ∷ names) = flat_map part_text (name ∷ names)

-- a path and how many bytes it takes
abbrev pub size_line : Path × ℕ → List ℕ
size_line entry = codes "size " ++ path_text entry.0 ++ codes " " ++ decimal entry.1 ++ codes "\n"

-- a line for each path
abbrev pub sizes_text : List (Path × ℕ) → List ℕ
sizes_text entries = flat_map size_line entries
