-- The segments of the tests.
use Rattle.std.proofs.Common.{◌≡◌, ℕ, zero, suc, ◌+◌, ◌^◌, ◌<◌, ◌≤◌, [], ◌∷◌, length, Option, Some, None, refl, arith}
use Rattle.std.specs.Prelude.{slice_get}
use Rattle.vx_base.specs.declared.segment.SegmentSpec.{SegmentSpec}
use Rattle.vx_source.specs.Kept.{LiesIn}
use Rattle.vx_source.specs.Stands.{AreFit}
use Rattle.vx_source.specs.declared.tail.Tail.{Tail}

-- they end in range, and lie in a tail that reaches past them
pub two-fit : (tail : Option Tail) → ((t : Tail) → tail ≡ Some t → 12 ≤ t.start + length t.bytes.bytes)
    → AreFit (record { offset = 0; length = 4; alignment = 0 } ∷ record { offset = 8; length = 4; alignment = 0 } ∷ []) tail
two-fit tail h = record { ends = ends; lies = λ n s e. lies n s e tail h }
  where
    ends : (n : ℕ) (s : SegmentSpec) → slice_get (record { offset = 0; length = 4; alignment = 0 } ∷ record { offset = 8; length = 4; alignment = 0 } ∷ []) n ≡ Some s → s.offset + s.length < 2 ^ 64
    ends zero s e = let o : 0 ≡ s.offset = cc in let l : 4 ≡ s.length = cc in omega (arith, o, l)
    ends (suc zero) s e = let o : 8 ≡ s.offset = cc in let l : 4 ≡ s.length = cc in omega (arith, o, l)
    ends (suc (suc n)) s e = cc

    lies : (n : ℕ) (s : SegmentSpec) → slice_get (record { offset = 0; length = 4; alignment = 0 } ∷ record { offset = 8; length = 4; alignment = 0 } ∷ []) n ≡ Some s
        → (t : Option Tail) → ((u : Tail) → t ≡ Some u → 12 ≤ u.start + length u.bytes.bytes) → LiesIn t s
    lies n s e None h = tt
    lies zero s e (Some t) h = let o : 0 ≡ s.offset = cc in let l : 4 ≡ s.length = cc in let r = h t refl in λ from. omega (arith, o, l, r)
    lies (suc zero) s e (Some t) h = let o : 8 ≡ s.offset = cc in let l : 4 ≡ s.length = cc in let r = h t refl in λ from. omega (arith, o, l, r)
    lies (suc (suc n)) s e (Some t) h = cc

-- three segments, without a tail
pub three-fit : AreFit (record { offset = 0; length = 4; alignment = 0 } ∷ record { offset = 4; length = 4; alignment = 0 } ∷ record { offset = 12; length = 4; alignment = 0 } ∷ []) None
three-fit = record { ends = ends; lies = λ n s e. tt }
  where
    ends : (n : ℕ) (s : SegmentSpec) → slice_get (record { offset = 0; length = 4; alignment = 0 } ∷ record { offset = 4; length = 4; alignment = 0 } ∷ record { offset = 12; length = 4; alignment = 0 } ∷ []) n ≡ Some s
        → s.offset + s.length < 2 ^ 64
    ends zero s e = let o : 0 ≡ s.offset = cc in let l : 4 ≡ s.length = cc in omega (arith, o, l)
    ends (suc zero) s e = let o : 4 ≡ s.offset = cc in let l : 4 ≡ s.length = cc in omega (arith, o, l)
    ends (suc (suc zero)) s e = let o : 12 ≡ s.offset = cc in let l : 4 ≡ s.length = cc in omega (arith, o, l)
    ends (suc (suc (suc n))) s e = cc
