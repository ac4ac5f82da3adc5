-- The text of rows.
use Rattle.std.specs.Prelude.{ℕ, List, [], ◌∷◌, ◌++◌}
use Rattle.vx_data.specs.Texts.{dtype_text}
use Rattle.vx_rows.specs.Rows.{Rows, dtype_of}
use Rattle.vx_rows.specs.ValueTexts.{lines_text}

-- a line for the type, and one for each row, in order
abbrev pub rows_text : Rows → List ℕ
rows_text c = dtype_text (dtype_of c) ++ 10 ∷ [] ++ lines_text c
