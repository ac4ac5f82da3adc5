-- What was written is read back by the field functions.
use Rattle.std.proofs.Common.{◌≡◌, ℕ, zero, suc, ◌+◌, ◌-◌, ◌*◌, ◌/◌, ◌≤◌, ◌<◌, ◌^◌, Bool, true, false, cond, List, [], ◌∷◌, ◌++◌, length, replicate, sum_by, Option, Some, None, refl, sym, ap, subst, ◌∙◌, arith, length-append, zero-add, suc-add, ◌≢◌, ne_eqb, inl, inr}
use Rattle.std.specs.Prelude.{nat_le, nat_lt, nat_eq}
use Rattle.std.specs.Int.{Width, w16, w32}
use Rattle.std.specs.List.{flat_map}
use Rattle.std.proofs.lemmas.Bool.{le-leb, lt-ltb, cases_lt}
use Rattle.std.proofs.lemmas.Grind.{flat_map-append}
use Rattle.std.proofs.lemmas.List.Sums.{sum_by-cons, sum_by-append}
use Rattle.std.proofs.lemmas.Bool.Decides.{nat_tests}
use Rattle.vx_tables.specs.Block.{Piece, low, u16_bytes, u32_bytes, fixed_size, tail, cell, cells, fixed_len, body, slots_from, slot_count, vtable_size, entries, vtable, block, in_order, number}
use Rattle.vx_tables.specs.Field.{Table, forward, backward, num, target, table_at, entry_place, slot, field, target_field, ◌>>=◌ as ◌then◌}
use Rattle.vx_tables.specs.Standing.{IsAt, Stands, piece_at}
use Rattle.vx_tables.proofs.Order.{first_of_order, fixed_len_fits}
use Rattle.vx_tables.proofs.Parts.{tail_size, length-cells, length-tails, cells-append, entries-append, slots-append, slots-rise, slots-below, length-entries, length-zeros, order-append, order-rest}
use Rattle.vx_tables.proofs.Places.{at_left, at_right, at_move, at_same, at_inside, Holds, num_back, holds_16, holds_32}

-- ---- a table where its block stands

pub low_is : (n : ℕ) → n < 2 ^ 32 → low n ≡ n
low_is n lt = omega arith

pub length-vtable : (ps : List Piece) → in_order 0 ps ≡ true → length (vtable ps) ≡ vtable_size ps
length-vtable ps order =
    let sizes = u16_bytes (vtable_size ps) ++ u16_bytes (fixed_len ps) in
    omega (arith, length-append sizes (entries 4 0 ps), length-entries 4 0 ps order)

pub vtable_fits : (ps : List Piece) → in_order 0 ps ≡ true → vtable_size ps ≤ 2052
vtable_fits ps order = omega (arith, slots-below 0 ps order (omega arith))

-- a number of 32 bits that was cut to them
pub num_low : (b : List ℕ) (at n : ℕ) → n < 2 ^ 32 → IsAt b at (u32_bytes n) → num w32 b at ≡ Some n
num_low b at n lt h = subst (λ (m : ℕ). num w32 b at ≡ Some m) (low_is n lt) (num_back w32 b at (low n) h (holds_32 (low n) (omega arith)))

pub forward_is : (b : List ℕ) (at n : ℕ) → at + n ≤ length b → forward b at n ≡ Some (at + n)
unfolding forward
forward_is b at n le = let fits : nat_le n (length b - at) ≡ true = le-leb _ _ (omega arith) in rw fits refl

backward_is : (b : List ℕ) (at n : ℕ) → n < 2 ^ 31 → n ≤ at → backward b at n ≡ Some (at - n)
unfolding backward
backward_is b at n lt le = grind (arith, nat_tests)

-- the parts of a block
pub record HasParts (b : List ℕ) (t : Table) (ps : List Piece) : Type 0 where
  pub size : IsAt b t.vtable (u16_bytes (vtable_size ps))
  pub own : IsAt b (t.vtable + 2) (u16_bytes (fixed_len ps))
  pub entries : IsAt b (t.vtable + 4) (entries 4 0 ps)
  pub back : IsAt b t.place (u32_bytes (vtable_size ps))
  pub cells : IsAt b (t.place + 4) (cells 4 (fixed_len ps) ps)
  pub tails : IsAt b (t.place + fixed_len ps) (flat_map tail ps)

pub parts : (b : List ℕ) (t : Table) (ps : List Piece) → Stands b t ps → HasParts b t ps
parts b t ps h =
    let head = u16_bytes (vtable_size ps) in
    let own = u16_bytes (fixed_len ps) in
    let back = u32_bytes (vtable_size ps) in
    let all_cells = cells 4 (fixed_len ps) ps in
    let table = at_left b t.vtable (vtable ps ++ back) (body ps) h.block in
    let whole = at_left b t.vtable (vtable ps) back table in
    let sizes = at_left b t.vtable (head ++ own) (entries 4 0 ps) whole in
    let len = length-vtable ps h.order in
    let behind : IsAt b (t.place + 4) (body ps) = at_move b (t.vtable + length (vtable ps ++ back)) (t.place + 4) (body ps) (omega (arith, h.place, len, length-append (vtable ps) back)) (at_right b t.vtable (vtable ps ++ back) (body ps) h.block) in
    record {
      size = at_left b t.vtable head own sizes;
      own = at_right b t.vtable head own sizes;
      entries = at_right b t.vtable (head ++ own) (entries 4 0 ps) whole;
      back = at_move b (t.vtable + length (vtable ps)) t.place back (omega (arith, h.place, len)) (at_right b t.vtable (vtable ps) back table);
      cells = at_left b (t.place + 4) all_cells (flat_map tail ps) behind;
      tails = at_move b (t.place + 4 + length all_cells) (t.place + fixed_len ps) (flat_map tail ps) (omega (arith, length-cells 4 (fixed_len ps) ps)) (at_right b (t.place + 4) all_cells (flat_map tail ps) behind);
    }

-- where a block stands its table is found
pub table_back : (b : List ℕ) (t : Table) (ps : List Piece) → Stands b t ps → table_at b t.place ≡ Some t
unfolding table_at
table_back b t ps h =
    let p = parts b t ps h in
    let vs = vtable_size ps in
    let fits = vtable_fits ps h.order in
    let own_fits = fixed_len_fits ps h.order in
    let inside = at_inside b t.vtable (block ps) h.block in
    let back : num w32 b t.place ≡ Some vs = num_low b t.place vs (omega arith) p.back in
    let away : t.place - vs ≡ t.vtable = omega (arith, h.place) in
    let vtable_is : backward b t.place vs ≡ Some t.vtable = backward_is b t.place vs (omega arith) (omega (arith, h.place)) ∙ ap (λ n. Some n) away in
    let size : num w16 b t.vtable ≡ Some vs = num_back w16 b t.vtable vs p.size (holds_16 vs (omega arith)) in
    let own : num w16 b (t.vtable + 2) ≡ Some (fixed_len ps) = num_back w16 b (t.vtable + 2) (fixed_len ps) p.own (holds_16 (fixed_len ps) (omega arith)) in
    let first : nat_le 4 vs ≡ true = le-leb _ _ (omega arith) in
    let second : nat_le 4 (fixed_len ps) ≡ true = le-leb _ _ (omega arith) in
    let third : nat_le vs (length b - t.vtable) ≡ true = le-leb _ _ (omega (arith, inside, length-append (vtable ps ++ u32_bytes vs) (body ps), length-append (vtable ps) (u32_bytes vs), length-vtable ps h.order)) in
    rw (back, vtable_is, size, own, first, second, third) (ap (λ (n : ℕ). let found : Option Table = Some (record { place = t.place; vtable = t.vtable; size = n }) in found) (sym h.size))

-- ---- where a piece's cell and its block stand

pub record IsCut (b : List ℕ) (base fixed : ℕ) (front : List Piece) (p : Piece) : Type 0 where
  pub cell : IsAt b (base + (4 + sum_by fixed_size front)) (cell (4 + sum_by fixed_size front) (fixed + sum_by tail_size front) p)
  pub tail : IsAt b (base + (fixed + sum_by tail_size front)) (tail p)

pub cut : (b : List ℕ) (base fixed : ℕ) (front : List Piece) (p : Piece) (rest : List Piece)
    → IsAt b (base + 4) (cells 4 fixed (front ++ p ∷ rest)) → IsAt b (base + fixed) (flat_map tail (front ++ p ∷ rest)) → IsCut b base fixed front p
cut b base fixed front p rest hc ht =
    let at = 4 + sum_by fixed_size front in
    let behind = fixed + sum_by tail_size front in
    let left = cells 4 fixed front in
    let right = cells at behind (p ∷ rest) in
    let apart = at_same b (base + 4) (cells 4 fixed (front ++ p ∷ rest)) (left ++ right) (cells-append 4 fixed front (p ∷ rest)) hc in
    let from : IsAt b (base + at) right = at_move b (base + 4 + length left) (base + at) right (omega (arith, length-cells 4 fixed front)) (at_right b (base + 4) left right apart) in
    let tails_apart = at_same b (base + fixed) (flat_map tail (front ++ p ∷ rest)) (flat_map tail front ++ flat_map tail (p ∷ rest)) (flat_map-append tail front (p ∷ rest)) ht in
    let tail_from = at_move b (base + fixed + length (flat_map tail front)) (base + behind) (flat_map tail (p ∷ rest)) (omega (arith, length-tails front)) (at_right b (base + fixed) (flat_map tail front) (flat_map tail (p ∷ rest)) tails_apart) in
    record {
      cell = at_left b (base + at) (cell at behind p) (cells (at + fixed_size p) (behind + tail_size p) rest) from;
      tail = at_left b (base + behind) (tail p) (flat_map tail rest) tail_from;
    }

-- ---- slots

-- a piece of a table, with those before and behind it
pub record IsAmong (ps : List Piece) (k : ℕ) (p : Piece) : Type 0 where
  pub front : List Piece
  pub rest : List Piece
  pub parts : ps ≡ front ++ p ∷ rest
  pub slot : p.slot ≡ k

among_or : (k : ℕ) (q : Piece) (ps : List Piece) (p : Piece) (b : Bool) → nat_eq q.slot k ≡ b → cond b (Some q) (piece_at k ps) ≡ Some p
    → (piece_at k ps ≡ Some p → IsAmong ps k p) → IsAmong (q ∷ ps) k p
among_or k q ps p true e h later =
    let same : q ≡ p = cc in
    record { front = []; rest = ps; parts = ap (λ x. x ∷ ps) same; slot = ap (λ x. x.slot) (sym same) ∙ grind (arith, nat_tests) }
among_or k q ps p false e h later =
    let a = later h in
    record { front = q ∷ a.front; rest = a.rest; parts = ap (λ xs. q ∷ xs) a.parts; slot = a.slot }

pub among : (k : ℕ) (ps : List Piece) (p : Piece) → piece_at k ps ≡ Some p → IsAmong ps k p
among k [] p h = absurd cc
among k (q ∷ ps) p h = among_or k q ps p (nat_eq q.slot k) refl h (among k ps p)

-- the entry of a slot where nothing is
zeros-add : (m n : ℕ) → let zeros : ℕ → List ℕ = λ i. replicate i 0 in zeros (m + n) ≡ zeros m ++ zeros n
zeros-add zero n = ap (λ i. replicate i 0) (zero-add n)
zeros-add (suc m) n = ap (λ i. replicate i 0) (suc-add m n) ∙ ap (λ z. 0 ∷ z) (zeros-add m n)

gap_entry : (b : List ℕ) (at i n : ℕ) → i + 2 ≤ n → IsAt b at (replicate n 0) → IsAt b (at + i) (0 ∷ 0 ∷ [])
gap_entry b at i n le h =
    let zeros : ℕ → List ℕ = λ j. replicate j 0 in
    let whole : n ≡ i + (2 + (n - i - 2)) = omega arith in
    let apart : zeros n ≡ zeros i ++ (zeros 2 ++ zeros (n - i - 2)) = ap zeros whole ∙ zeros-add i (2 + (n - i - 2)) ∙ ap (λ z. zeros i ++ z) (zeros-add 2 (n - i - 2)) in
    let right = at_right b at (zeros i) (zeros 2 ++ zeros (n - i - 2)) (at_same b at (zeros n) _ apart h) in
    at_move b (at + length (zeros i)) (at + i) (0 ∷ 0 ∷ []) (omega (arith, length-zeros i)) (at_left b (at + length (zeros i)) (zeros 2) (zeros (n - i - 2)) right)

abbrev Absent : List ℕ → ℕ → ℕ → Type 0
Absent b base k = IsAt b (base + 2 * k) (0 ∷ 0 ∷ [])

absent_or : (b : List ℕ) (base at next k : ℕ) (p : Piece) (ps : List Piece) (same : Bool) → nat_eq p.slot k ≡ same → cond same (Some p) (piece_at k ps) ≡ None
    → in_order next (p ∷ ps) ≡ true → IsAt b (base + 2 * next) (entries at next (p ∷ ps)) → next ≤ k
    → (piece_at k ps ≡ None → in_order (p.slot + 1) ps ≡ true → IsAt b (base + 2 * (p.slot + 1)) (entries (at + fixed_size p) (p.slot + 1) ps) → p.slot + 1 ≤ k → Absent b base k)
    → Absent b base k
absent_or b base at next k p ps true e none order h le later = absurd cc
absent_or b base at next k p ps false e none order h le later =
    let f = first_of_order next p ps order in
    let gap : List ℕ = replicate (2 * (p.slot - next)) 0 in
    let rest = entries (at + fixed_size p) (p.slot + 1) ps in
    let head = at_left b (base + 2 * next) (gap ++ u16_bytes at) rest h in
    let zero_bytes = at_left b (base + 2 * next) gap (u16_bytes at) head in
    let other : p.slot ≢ k = grind (arith, nat_tests) in
    elim (cases_lt k p.slot) [
      | inl lt ↦ at_move b (base + 2 * next + (2 * (k - next))) (base + 2 * k) (0 ∷ 0 ∷ []) (omega arith) (gap_entry b (base + 2 * next) (2 * (k - next)) (2 * (p.slot - next)) (omega arith) zero_bytes)
      | inr above ↦ later none f.rest (at_move b (base + 2 * next + length (gap ++ u16_bytes at)) (base + 2 * (p.slot + 1)) rest (omega (arith, f.above, length-append gap (u16_bytes at), length-zeros (2 * (p.slot - next)))) (at_right b (base + 2 * next) (gap ++ u16_bytes at) rest h)) (omega arith)
    ]

absent_entry : (b : List ℕ) (base at next k : ℕ) (ps : List Piece) → in_order next ps ≡ true → IsAt b (base + 2 * next) (entries at next ps) → piece_at k ps ≡ None
    → next ≤ k → k < slots_from next ps → Absent b base k
absent_entry b base at next k [] order h none le lt = absurd (omega arith)
absent_entry b base at next k (p ∷ ps) order h none le lt =
    absent_or b base at next k p ps (nat_eq p.slot k) refl none order h le (λ none' order' h' le'. absent_entry b base (at + fixed_size p) (p.slot + 1) k ps order' h' none' le' lt)

-- a slot where no piece is, is absent
pub slot_absent : (b : List ℕ) (t : Table) (ps : List Piece) (k : ℕ) → Stands b t ps → piece_at k ps ≡ None → slot b t k ≡ Some None
unfolding slot entry_place
slot_absent b t ps k h none = absent_test (nat_lt k ((t.size - 4) / 2)) refl
  where
    absent_test : (test : Bool) → nat_lt k ((t.size - 4) / 2) ≡ test → cond test (num w16 b (t.vtable + 4 + 2 * k) then entry_place b t) (Some None) ≡ Some None
    absent_test false e = refl
    absent_test true e =
        let half : (t.size - 4) / 2 ≡ slot_count ps = omega (arith, h.size) in
        let lt : k < slot_count ps = grind (arith, nat_tests) in
        let start : IsAt b (t.vtable + 4 + 2 * 0) (entries 4 0 ps) = at_move b (t.vtable + 4) (t.vtable + 4 + 2 * 0) (entries 4 0 ps) (omega arith) (parts b t ps h).entries in
        let none_there = absent_entry b (t.vtable + 4) 4 0 k ps h.order start none (omega arith) lt in
        let zero_read : num w16 b (t.vtable + 4 + 2 * k) ≡ Some 0 = num_back w16 b (t.vtable + 4 + 2 * k) 0 none_there (holds_16 0 (omega arith)) in
        rw zero_read refl

-- where a piece of a table is read
pub record IsRead (b : List ℕ) (t : Table) (k : ℕ) (p : Piece) : Type 0 where
  pub at : ℕ
  pub behind : ℕ
  pub order : at ≤ behind
  pub slot : slot b t k ≡ Some (Some (t.place + at))
  pub cell : IsAt b (t.place + at) (cell at behind p)
  pub tail : IsAt b (t.place + behind) (tail p)

-- the entry of a piece
entry_at : (b : List ℕ) (base : ℕ) (front : List Piece) (p : Piece) (rest : List Piece) → in_order 0 (front ++ p ∷ rest) ≡ true
    → IsAt b base (entries 4 0 (front ++ p ∷ rest)) → IsAt b (base + 2 * p.slot) (u16_bytes (4 + sum_by fixed_size front))
entry_at b base front p rest order h =
    let at = 4 + sum_by fixed_size front in
    let next = slots_from 0 front in
    let left = entries 4 0 front in
    let right = entries at next (p ∷ rest) in
    let gap : List ℕ = replicate (2 * (p.slot - next)) 0 in
    let f = first_of_order next p rest (order-rest 0 front (p ∷ rest) order) in
    let apart = at_same b base (entries 4 0 (front ++ p ∷ rest)) (left ++ right) (entries-append 4 0 front (p ∷ rest)) h in
    let from = at_left b (base + length left) (gap ++ u16_bytes at) (entries (at + fixed_size p) (p.slot + 1) rest) (at_right b base left right apart) in
    at_move b (base + length left + length gap) (base + 2 * p.slot) (u16_bytes at)
    (omega (arith, f.above, length-zeros (2 * (p.slot - next)), length-entries 4 0 front (order-append 0 front (p ∷ rest) order)))
    (at_right b (base + length left) gap (u16_bytes at) from)

slot_count-above : (front : List Piece) (p : Piece) (rest : List Piece) → in_order 0 (front ++ p ∷ rest) ≡ true → p.slot < slot_count (front ++ p ∷ rest)
slot_count-above front p rest order =
    let f = first_of_order (slots_from 0 front) p rest (order-rest 0 front (p ∷ rest) order) in
    omega (arith, slots-append 0 front (p ∷ rest), slots-rise (p.slot + 1) rest f.rest)

before-fixed : (front : List Piece) (p : Piece) (rest : List Piece) → sum_by fixed_size front + fixed_size p ≤ sum_by fixed_size (front ++ p ∷ rest)
before-fixed front p rest = omega (arith, sum_by-append fixed_size front (p ∷ rest), sum_by-cons fixed_size p rest)

pub piece_read : (b : List ℕ) (t : Table) (front : List Piece) (p : Piece) (rest : List Piece) → Stands b t (front ++ p ∷ rest) → IsRead b t p.slot p
unfolding slot entry_place
piece_read b t front p rest h =
    let ps = front ++ p ∷ rest in
    let at = 4 + sum_by fixed_size front in
    let behind = fixed_len ps + sum_by tail_size front in
    let all = parts b t ps h in
    let c = cut b t.place (fixed_len ps) front p rest all.cells all.tails in
    let fits = fixed_len_fits ps h.order in
    let before = before-fixed front p rest in
    let inside = at_inside b (t.place + at) (cell at behind p) c.cell in
    let entry : num w16 b (t.vtable + 4 + 2 * p.slot) ≡ Some at = num_back w16 b (t.vtable + 4 + 2 * p.slot) at (entry_at b (t.vtable + 4) front p rest h.order all.entries) (holds_16 at (omega arith)) in
    let half : (t.size - 4) / 2 ≡ slot_count ps = omega (arith, h.size) in
    let below : nat_lt p.slot ((t.size - 4) / 2) ≡ true = lt-ltb _ _ (omega (arith, half, slot_count-above front p rest h.order)) in
    let some : nat_eq at 0 ≡ false = ne_eqb _ _ (omega arith) in
    let high : nat_le 4 at ≡ true = le-leb _ _ (omega arith) in
    let found : forward b t.place at ≡ Some (t.place + at) = forward_is b t.place at (omega (arith, inside)) in
    record {
      at = at;
      behind = behind;
      order = omega (arith, before);
      slot = rw (below, entry, some, high, found) refl;
      cell = c.cell;
      tail = c.tail;
    }

-- the same by the slot alone
pub read_at : (b : List ℕ) (t : Table) (ps : List Piece) (k : ℕ) (p : Piece) → Stands b t ps → piece_at k ps ≡ Some p → IsRead b t k p
read_at b t ps k p h found =
    let a = among k ps p found in
    subst (λ (i : ℕ). IsRead b t i p) a.slot (piece_read b t a.front p a.rest (subst (λ (qs : List Piece). Stands b t qs) a.parts h))

-- ---- numbers

pub number_back : (w : Width) (b : List ℕ) (t : Table) (ps : List Piece) (k n : ℕ) → Stands b t ps → piece_at k ps ≡ Some (number w k n) → Holds w n → field w b t k ≡ Some (Some n)
unfolding field
number_back w b t ps k n h found holds =
    let r = read_at b t ps k (number w k n) h found in
    let read : num w b (t.place + r.at) ≡ Some n = num_back w b (t.place + r.at) n r.cell holds in
    rw (r.slot, read) refl

pub number_absent : (w : Width) (b : List ℕ) (t : Table) (ps : List Piece) (k : ℕ) → Stands b t ps → piece_at k ps ≡ None → field w b t k ≡ Some None
unfolding field
number_absent w b t ps k h none = rw (slot_absent b t ps k h none) refl

-- ---- targets

-- what a field's offset leads to
pub record IsTarget (b : List ℕ) (t : Table) (k lead : ℕ) (content : List ℕ) : Type 0 where
  pub start : ℕ
  pub target : target_field b t k ≡ Some (Some (start + lead))
  pub stands : IsAt b start content

pub target_back : (b : List ℕ) (t : Table) (ps : List Piece) (k lead : ℕ) (content : List ℕ) → Stands b t ps
    → (let p : Piece = record { slot = k; lead = Some lead; bytes = content } in piece_at k ps ≡ Some p) → lead ≤ length content → IsTarget b t k lead content
unfolding target_field target
target_back b t ps k lead content h found le =
    let r = read_at b t ps k (record { slot = k; lead = Some lead; bytes = content }) h found in
    let inside = at_inside b (t.place + r.behind) content r.tail in
    let away = r.behind + lead - r.at in
    let offset : num w32 b (t.place + r.at) ≡ Some away = num_low b (t.place + r.at) away (omega (arith, h.short, r.order)) r.cell in
    let sum : t.place + r.at + away ≡ t.place + r.behind + lead = omega (arith, r.order) in
    let there : forward b (t.place + r.at) away ≡ Some (t.place + r.behind + lead) = forward_is b (t.place + r.at) away (omega (arith, r.order)) ∙ ap (λ n. Some n) sum in
    record { start = t.place + r.behind; target = rw (r.slot, offset, there) refl; stands = r.tail }

pub target_absent : (b : List ℕ) (t : Table) (ps : List Piece) (k : ℕ) → Stands b t ps → piece_at k ps ≡ None → target_field b t k ≡ Some None
unfolding target_field
target_absent b t ps k h none = rw (slot_absent b t ps k h none) refl
