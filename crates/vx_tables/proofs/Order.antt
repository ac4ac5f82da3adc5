-- Tables whose slots rise.
use Rattle.std.proofs.Common.{◌≡◌, ℕ, ◌+◌, ◌*◌, ◌≤◌, ◌<◌, true, List, [], ◌∷◌, ◌++◌, sum_by, arith}
use Rattle.std.proofs.lemmas.Bool.Decides.{nat_tests}
use Rattle.std.proofs.lemmas.List.Sums.{sum_by-cons}
use Rattle.vx_tables.specs.Block.{Piece, fixed_size, fixed_len, in_order, slots_from}

-- what a piece at the front of an ordered list tells
pub record IsFirst (next : ℕ) (p : Piece) (ps : List Piece) : Type 0 where
  pub above : next ≤ p.slot
  pub below : p.slot < 1024
  pub narrow : fixed_size p ≤ 8
  pub rest : in_order (p.slot + 1) ps ≡ true

pub first_of_order : (next : ℕ) (p : Piece) (ps : List Piece) → in_order next (p ∷ ps) ≡ true → IsFirst next p ps
first_of_order next p ps h = record {
  above = grind (arith, nat_tests);
  below = grind (arith, nat_tests);
  narrow = grind (arith, nat_tests);
  rest = grind (arith, nat_tests);
}

fits-from : (next : ℕ) (ps : List Piece) → in_order next ps ≡ true → next ≤ 1024 → sum_by fixed_size ps + 8 * next ≤ 8 * 1024
fits-from next [] h le = omega arith
fits-from next (p ∷ ps) h le =
    let f = first_of_order next p ps h in
    let one_more : sum_by fixed_size (p ∷ ps) ≡ fixed_size p + sum_by fixed_size ps = sum_by-cons fixed_size p ps in
    omega (arith, one_more, f.above, f.below, f.narrow, fits-from (p.slot + 1) ps f.rest (omega (arith, f.below)))

-- the fixed part of a table is short
pub fixed_len_fits : (ps : List Piece) → in_order 0 ps ≡ true → fixed_len ps ≤ 8196
fixed_len_fits ps h = omega (arith, fits-from 0 ps h (omega arith))

-- a piece at the end of an ordered list
pub order_push : (next : ℕ) (ps : List Piece) (p : Piece) → in_order next ps ≡ true → slots_from next ps ≤ p.slot → p.slot < 1024 → fixed_size p ≤ 8
    → in_order next (ps ++ p ∷ []) ≡ true
order_push next [] p h above below narrow = grind (arith, nat_tests)
order_push next (q ∷ ps) p h above below narrow =
    let f = first_of_order next q ps h in
    let rest : in_order (q.slot + 1) (ps ++ p ∷ []) ≡ true = order_push (q.slot + 1) ps p f.rest above below narrow in
    grind (arith, nat_tests)

pub order_cons : (next : ℕ) (p : Piece) (ps : List Piece) → next ≤ p.slot → p.slot < 1024 → fixed_size p ≤ 8 → in_order (p.slot + 1) ps ≡ true → in_order next (p ∷ ps) ≡ true
order_cons next p ps above below narrow rest = grind (arith, nat_tests)
