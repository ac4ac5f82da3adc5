use Rattle.std.proofs.Common.{option_map}
use Rattle.vx_rows.specs.RowStats.{masked, text_cmp}
use Rattle.vx_rows.specs.declared.text_ends.TextEnds.{TextEnds}
use Rattle.vx_rows.proofs.ExtentLemmas.{Gathered}
use Rattle.vx_rows.proofs.extents.extent_of_nullable_texts.Given as goal

-- what the rows so far tell, with those still to come
abbrev pub invariant-loop-row : goal.invariant-loop-row
invariant-loop-row l =
    Gathered text_cmp (masked l.present l.column.rows) l.row
    (option_map (λ (e : TextEnds). e.least.text.now) l.ends) (option_map (λ (e : TextEnds). e.greatest.text.now) l.ends) l.nulls
