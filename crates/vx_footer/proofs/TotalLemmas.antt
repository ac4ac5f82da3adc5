-- The whole counts each segment that a layout names, once.
use Rattle.std.proofs.Common.{◌≡◌, ℕ, ◌+◌, Bool, true, false, List, [], ◌∷◌, refl, ap, ap₂, ◌∙◌}
use Rattle.std.specs.Prelude.{◌==◌, ◌&&◌, ◌||◌, not, if◌then◌else◌}
use Rattle.std.specs.List.{list_all}
use Rattle.vx_base.specs.declared.segment.SegmentSpec.{SegmentSpec}
use Rattle.vx_data.specs.Layout.{LayoutTree}
use Rattle.vx_footer.specs.FieldSizes.{Reference, is_prefix, is_named, counts, size_from, named_from, named_segments, references_of, size_of, named_length}

or_true : (a : Bool) → (a || true) ≡ true
or_true true = refl
or_true false = refl

all_go_on : (refs : List Reference) (id : ℕ) → list_all (λ r. not (r.segment == id) || is_prefix [] r.path) refs ≡ true
all_go_on [] id = refl
all_go_on (r ∷ refs) id = ap₂ (λ (a b : Bool). a && b) (or_true (not (r.segment == id))) (all_go_on refs id)

and_true : (a : Bool) → (a && true) ≡ a
and_true true = refl
and_true false = refl

counts_named : (refs : List Reference) (id : ℕ) → counts refs [] id ≡ is_named refs id
counts_named refs id = ap (λ (b : Bool). is_named refs id && b) (all_go_on refs id) ∙ and_true (is_named refs id)

sums_named : (refs : List Reference) (id : ℕ) (ss : List SegmentSpec) → size_from refs [] id ss ≡ named_from refs id ss
sums_named refs id [] = refl
sums_named refs id (s ∷ ss) = ap₂ (λ (b : Bool) (n : ℕ). (if b then s.length else 0) + n) (counts_named refs id) (sums_named refs (id + 1) ss)

pub whole_is_named : (t : LayoutTree) (ss : List SegmentSpec) → size_of t ss [] ≡ named_length t ss
unfolding size_of
whole_is_named t ss = sums_named (references_of [] t) 0 (named_segments ss)
