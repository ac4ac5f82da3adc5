-- Parts of a column, one behind the other.
use Rattle.std.proofs.Common.{◌≡◌, ℕ, zero, suc, ◌-◌, ◌<◌, ◌≤◌, List, [], ◌∷◌, ◌++◌, length, get_or, refl, ap, ap₂, arith}
use Rattle.vx_rows.specs.Rows.{Rows}
use Rattle.vx_rows.specs.Parts.{part}
use Rattle.vx_write.specs.CutParts.{parts_from, AreOrdered}

-- ---- a part more

-- the row behind the parts
abbrev pub last_end : ℕ → List ℕ → ℕ
last_end from [] = from
last_end from (e ∷ es) = last_end e es

pub parts_more : (c : Rows) (from : ℕ) (es : List ℕ) (end : ℕ) → parts_from c from (es ++ end ∷ []) ≡ parts_from c from es ++ part (last_end from es) end c ∷ []
parts_more c from [] end = refl
parts_more c from (e ∷ es) end = ap (λ xs. part from e c ∷ xs) (parts_more c e es end)

pub ends_more : (from : ℕ) (es : List ℕ) (end : ℕ) → last_end from (es ++ end ∷ []) ≡ end
ends_more from [] end = refl
ends_more from (e ∷ es) end = ends_more e es end

pub ordered_more : (from : ℕ) (es : List ℕ) (end : ℕ) → AreOrdered from es → last_end from es ≤ end → AreOrdered from (es ++ end ∷ [])
ordered_more from [] end o h = (h, tt)
ordered_more from (e ∷ es) end o h = (o.0, ordered_more e es end o.1 h)

-- ---- the part at a place

pub parts_many : (c : Rows) (from : ℕ) (es : List ℕ) → length (parts_from c from es) ≡ length es
parts_many c from [] = refl
parts_many c from (e ∷ es) = ap (λ n. suc n) (parts_many c e es)

pub part_at : (c : Rows) (from : ℕ) (es : List ℕ) (at start end : ℕ) (other : Rows) → at < length es → start ≡ get_or (from ∷ es) at 0 → end ≡ get_or es at end
    → part start end c ≡ get_or (parts_from c from es) at other
part_at c from [] at start end other h s f = absurd (omega (arith, h))
part_at c from (e ∷ es) zero start end other h s f = ap₂ (λ a b. part a b c) s f
part_at c from (e ∷ es) (suc at) start end other h s f = part_at c e es at start end other (omega (arith, h)) s f

pub start_before : (from : ℕ) (es : List ℕ) (at start end : ℕ) → AreOrdered from es → at < length es → start ≡ get_or (from ∷ es) at 0 → end ≡ get_or es at end → start ≤ end
start_before from [] at start end o h s f = absurd (omega (arith, h))
start_before from (e ∷ es) zero start end o h s f = let l = o.0 in omega (arith, l, s, f)
start_before from (e ∷ es) (suc at) start end o h s f = start_before e es at start end o.1 (omega (arith, h)) s f

-- ---- the row with which a part begins

pub first_start : (es : List ℕ) (at : ℕ) → at ≡ 0 → 0 ≡ get_or (0 ∷ es) at 0
first_start es zero h = refl
first_start es (suc at) h = absurd (omega (arith, h))

pub later_start : (es : List ℕ) (at : ℕ) → 1 ≤ at → get_or es (at - 1) 0 ≡ get_or (0 ∷ es) at 0
later_start es zero h = absurd (omega (arith, h))
later_start es (suc at) h = let e : suc at - 1 ≡ at = omega arith in ap (λ n. get_or es n 0) e
