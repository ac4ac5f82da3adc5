-- The parts of a block, cut where a piece stands.
use Rattle.std.proofs.Common.{◌≡◌, ℕ, ◌+◌, ◌-◌, ◌*◌, ◌≤◌, true, List, [], ◌∷◌, ◌++◌, length, replicate, sum_by, Option, Some, None, refl, sym, ap, ◌∙◌, append_assoc, add-zero, arith, length-append}
use Rattle.std.specs.List.{flat_map}
use Rattle.std.proofs.lemmas.List.Sums.{sum_by-cons}
use Rattle.std.proofs.lemmas.List.{length-replicate}
use Rattle.vx_tables.specs.Block.{Piece, u16_bytes, size_of, fixed_size, tail, cell_of, cell, cells, slots_from, entries, in_order}
use Rattle.vx_tables.proofs.Order.{first_of_order, order_cons}

abbrev pub tail_size : Piece → ℕ
tail_size p = length (tail p)

length-cell : (at behind : ℕ) (lead : Option ℕ) (bytes : List ℕ) → length (cell_of at behind lead bytes) ≡ size_of lead bytes
length-cell at behind None bytes = refl
length-cell at behind (Some lead) bytes = refl

pub length-cells : (at behind : ℕ) (ps : List Piece) → length (cells at behind ps) ≡ sum_by fixed_size ps
length-cells at behind [] = refl
length-cells at behind (p ∷ ps) =
    length-append (cell at behind p) (cells (at + fixed_size p) (behind + tail_size p) ps)
    ∙ omega (arith, length-cell at behind p.lead p.bytes, length-cells (at + fixed_size p) (behind + tail_size p) ps, sum_by-cons fixed_size p ps)

pub length-tails : (ps : List Piece) → length (flat_map tail ps) ≡ sum_by tail_size ps
length-tails [] = refl
length-tails (p ∷ ps) = length-append (tail p) (flat_map tail ps) ∙ omega (arith, length-tails ps, sum_by-cons tail_size p ps)

pub cells-append : (at behind : ℕ) (xs ys : List Piece)
    → cells at behind (xs ++ ys) ≡ cells at behind xs ++ cells (at + sum_by fixed_size xs) (behind + sum_by tail_size xs) ys
cells-append at behind [] ys = rw (add-zero at, add-zero behind) refl
cells-append at behind (x ∷ xs) ys =
    let at' : at + fixed_size x + sum_by fixed_size xs ≡ at + sum_by fixed_size (x ∷ xs) = omega (arith, sum_by-cons fixed_size x xs) in
    let behind' : behind + tail_size x + sum_by tail_size xs ≡ behind + sum_by tail_size (x ∷ xs) = omega (arith, sum_by-cons tail_size x xs) in
    ap (λ (z : List ℕ). cell at behind x ++ z) (cells-append (at + fixed_size x) (behind + tail_size x) xs ys)
    ∙ ap (λ (a : ℕ). cell at behind x ++ (cells (at + fixed_size x) (behind + tail_size x) xs ++ cells a (behind + tail_size x + sum_by tail_size xs) ys)) at'
    ∙ ap (λ (a : ℕ). cell at behind x ++ (cells (at + fixed_size x) (behind + tail_size x) xs ++ cells (at + sum_by fixed_size (x ∷ xs)) a ys)) behind'
    ∙ sym (append_assoc (cell at behind x) _ _)

pub entries-append : (at next : ℕ) (xs ys : List Piece)
    → entries at next (xs ++ ys) ≡ entries at next xs ++ entries (at + sum_by fixed_size xs) (slots_from next xs) ys
entries-append at next [] ys = rw (add-zero at) refl
entries-append at next (x ∷ xs) ys =
    let at' : at + fixed_size x + sum_by fixed_size xs ≡ at + sum_by fixed_size (x ∷ xs) = omega (arith, sum_by-cons fixed_size x xs) in
    let front = replicate (2 * (x.slot - next)) 0 ++ u16_bytes at in
    ap (λ (z : List ℕ). front ++ z) (entries-append (at + fixed_size x) (x.slot + 1) xs ys)
    ∙ ap (λ (a : ℕ). front ++ (entries (at + fixed_size x) (x.slot + 1) xs ++ entries a (slots_from (x.slot + 1) xs) ys)) at'
    ∙ sym (append_assoc front _ _)

pub slots-append : (next : ℕ) (xs ys : List Piece) → slots_from next (xs ++ ys) ≡ slots_from (slots_from next xs) ys
slots-append next [] ys = refl
slots-append next (x ∷ xs) ys = slots-append (x.slot + 1) xs ys

pub slots-rise : (next : ℕ) (ps : List Piece) → in_order next ps ≡ true → next ≤ slots_from next ps
slots-rise next [] h = omega arith
slots-rise next (p ∷ ps) h = let f = first_of_order next p ps h in omega (arith, f.above, slots-rise (p.slot + 1) ps f.rest)

pub slots-below : (next : ℕ) (ps : List Piece) → in_order next ps ≡ true → next ≤ 1024 → slots_from next ps ≤ 1024
slots-below next [] h le = le
slots-below next (p ∷ ps) h le = let f = first_of_order next p ps h in slots-below (p.slot + 1) ps f.rest (omega (arith, f.below))

pub length-zeros : (n : ℕ) → let zeros : List ℕ = replicate n 0 in length zeros ≡ n
length-zeros n = length-replicate n 0

pub length-entries : (at next : ℕ) (ps : List Piece) → in_order next ps ≡ true → length (entries at next ps) + 2 * next ≡ 2 * slots_from next ps
length-entries at next [] h = omega arith
length-entries at next (p ∷ ps) h =
    let f = first_of_order next p ps h in
    let gap : List ℕ = replicate (2 * (p.slot - next)) 0 in
    let rest = entries (at + fixed_size p) (p.slot + 1) ps in
    omega (arith, f.above, length-append (gap ++ u16_bytes at) rest, length-append gap (u16_bytes at), length-zeros (2 * (p.slot - next)), length-entries (at + fixed_size p) (p.slot + 1) ps f.rest)

pub order-append : (next : ℕ) (xs ys : List Piece) → in_order next (xs ++ ys) ≡ true → in_order next xs ≡ true
order-append next [] ys h = refl
order-append next (x ∷ xs) ys h =
    let f = first_of_order next x (xs ++ ys) h in
    order_cons next x xs f.above f.below f.narrow (order-append (x.slot + 1) xs ys f.rest)

pub order-rest : (next : ℕ) (xs ys : List Piece) → in_order next (xs ++ ys) ≡ true → in_order (slots_from next xs) ys ≡ true
order-rest next [] ys h = h
order-rest next (x ∷ xs) ys h = order-rest (x.slot + 1) xs ys (first_of_order next x (xs ++ ys) h).rest
