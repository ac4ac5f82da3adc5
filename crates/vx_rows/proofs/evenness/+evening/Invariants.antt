use Rattle.std.proofs.Common.{drop}
use Rattle.vx_rows.specs.Rows.{pairs_view, AreColumns}
use Rattle.vx_rows.proofs.evenness.+evening.Given as goal

-- all are even where those still to come are, and the other way round
abbrev pub invariant-are_even-loop-at : goal.invariant-are_even-loop-at
invariant-are_even-loop-at l =
    (AreColumns l.rows (pairs_view (drop l.at l.columns)) → AreColumns l.rows (pairs_view l.columns)) × (AreColumns l.rows (pairs_view l.columns) → AreColumns l.rows (pairs_view (drop l.at l.columns)))
