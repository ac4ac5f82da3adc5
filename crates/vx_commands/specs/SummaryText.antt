-- The text of what is told of a file.
use Rattle.std.specs.Prelude.{ℕ, List, [], ◌∷◌, ◌++◌, codes}
use Rattle.std.specs.List.{flat_map}
use Rattle.vx_commands.specs.declared.summary.FileSummary.{FileSummary}
use Rattle.vx_print.specs.Lines.{line, numbered}
use Rattle.vx_commands.specs.Render.{read_line}

-- a column and how many bytes it takes
abbrev pub column_line : ℕ → ℕ → List ℕ
column_line i size = line (codes "column") (i ∷ size ∷ [])

-- rows, bytes and segments, then a line for each column, and one for each range that opening read
abbrev pub summary_text : FileSummary → List ℕ
summary_text s =
    line (codes "rows") (s.rows ∷ []) ++ line (codes "size") (s.size ∷ []) ++ line (codes "segments") (s.segments ∷ []) ++
    numbered column_line 0 s.columns ++ flat_map read_line s.opening
