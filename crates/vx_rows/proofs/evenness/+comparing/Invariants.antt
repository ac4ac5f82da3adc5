use Rattle.vx_rows.proofs.PartLemmas.{AreTyped}
use Rattle.std.proofs.Common.{◌≡◌, length}
use Rattle.vx_rows.proofs.evenness.+comparing.Given as goal

-- all are of these types where those still to come are, and the other way round
abbrev pub invariant-are_of-loop-at : goal.invariant-are_of-loop-at
invariant-are_of-loop-at l =
    (AreTyped l.columns l.types l.at → AreTyped l.columns l.types 0) × (AreTyped l.columns l.types 0 → AreTyped l.columns l.types l.at) × (length l.columns ≡ length l.types)
