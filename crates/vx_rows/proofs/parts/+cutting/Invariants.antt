use Rattle.std.proofs.Common.{◌≡◌, drop}
use Rattle.vx_rows.specs.Rows.{pairs_view, viewed}
use Rattle.vx_rows.specs.Trees.{before}
use Rattle.vx_rows.specs.Parts.{field_parts}
use Rattle.vx_rows.proofs.parts.+cutting.Given as goal

-- the parts so far and those still to come
abbrev pub invariant-cut_all-loop-at : goal.invariant-cut_all-loop-at
invariant-cut_all-loop-at l = before (viewed l.parts.items) (field_parts l.from l.to (pairs_view (drop l.at l.columns))) ≡ field_parts l.from l.to (pairs_view l.columns)
