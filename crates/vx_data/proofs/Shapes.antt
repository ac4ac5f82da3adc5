-- A flat layout that has its shape names one segment, and others name none.
use Rattle.std.proofs.Common.{◌≡◌, ℕ, Bool, true, false, ◌&&◌, refl, List, [], ◌∷◌, length, map, get_or, Some, sym, ap, ◌∙◌, arith}
use Rattle.std.proofs.lemmas.Bool.{eqb-true}
use Rattle.std.proofs.lemmas.List.{length-map}
use Rattle.vx_base.specs.declared.segment.SegmentId.{SegmentId}
use Rattle.vx_data.specs.declared.layout_kind.LayoutKind.{LayoutKind}
use Rattle.vx_data.specs.declared.layout_kind.LayoutKind.TheVariants.{Flat, Chunked, Struct}
use Rattle.vx_data.specs.Dtype.{Dtype}
use Rattle.vx_data.specs.Layout.{LayoutTree, numbers_of, dtype_of, child_dtypes, has_shape}

first_true : (a b : Bool) → (a && b) ≡ true → a ≡ true
first_true true b h = refl
first_true false b h = h

pub one_segment : (k : LayoutKind) (n : ℕ) (s : List SegmentId) (ts : List LayoutTree) → has_shape k n (numbers_of s) ts ≡ true → k ≡ Flat → length s ≡ 1
one_segment Flat n s ts h is = sym (length-map s (λ (x : SegmentId). x.0)) ∙ eqb-true (length (numbers_of s)) 1 h
one_segment Chunked n s ts h is = cc
one_segment Struct n s ts h is = cc

nothing_in : (s : List SegmentId) → length (numbers_of s) ≡ 0 → s ≡ []
nothing_in [] h = refl
nothing_in (x ∷ s) h = absurd (omega (arith, h))

pub no_segments : (k : LayoutKind) (n : ℕ) (s : List SegmentId) (ts : List LayoutTree) → has_shape k n (numbers_of s) ts ≡ true → (k ≡ Flat → ⊥) → s ≡ []
no_segments Flat n s ts h other = absurd (other refl)
no_segments Chunked n s ts h other = nothing_in s (eqb-true (length (numbers_of s)) 0 (first_true _ _ h))
no_segments Struct n s ts h other = nothing_in s (eqb-true (length (numbers_of s)) 0 (first_true _ _ h))

pub no_children : (k : LayoutKind) (d : Dtype) (ts : List LayoutTree) → child_dtypes k d (length ts) ≡ Some (map dtype_of ts) → k ≡ Flat → ts ≡ []
no_children Flat d [] h is = refl
no_children Flat d (t ∷ ts) h is = cc
no_children Chunked d ts h is = cc
no_children Struct d ts h is = cc

-- one segment is the first
pub only_segment : (s : List SegmentId) (x : SegmentId) → length s ≡ 1 → x ≡ get_or s 0 x → numbers_of s ≡ x.0 ∷ []
only_segment [] x one is = absurd (omega (arith, one))
only_segment (y ∷ []) x one is = ap (λ (z : SegmentId). z.0 ∷ []) (sym is)
only_segment (y ∷ z ∷ s) x one is = absurd (omega (arith, one))
