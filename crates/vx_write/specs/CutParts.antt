-- Parts of a column, one behind the other.
use Rattle.std.specs.Prelude.{ℕ, ◌≤◌, List, [], ◌∷◌}
use Rattle.vx_rows.specs.Rows.{Rows}
use Rattle.vx_rows.specs.Parts.{part}

-- the parts that end before these rows, of which the first begins with a row
abbrev pub parts_from : Rows → ℕ → List ℕ → List Rows
parts_from c from [] = []
parts_from c from (end ∷ ends) = part from end c ∷ parts_from c end ends

-- no part ends before it begins
abbrev pub AreOrdered : ℕ → List ℕ → Type 0
AreOrdered from [] = Unit {0}
AreOrdered from (end ∷ ends) = (from ≤ end) × AreOrdered end ends
