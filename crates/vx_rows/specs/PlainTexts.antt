-- Texts of which none is null.
use Rattle.std.specs.Prelude.{◌≡◌, ℕ, ◌+◌, List, length, Option, None}
use Rattle.vx_rows.specs.Span.{span}
use Rattle.vx_rows.specs.Columns.{text_row, AreRanges, AreTexts}

-- rows are the texts between places in bytes
pub record ArePlainTexts (rows : List (Option (List ℕ))) (bytes places : List ℕ) : Type 0 where
  pub long : length places ≡ length rows + 1
  pub ranges : AreRanges bytes places (length rows)
  pub texts : AreTexts bytes places (length rows)
  pub values : rows ≡ span (text_row None bytes places) 0 (length rows)
