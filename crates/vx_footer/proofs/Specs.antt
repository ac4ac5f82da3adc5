-- Segments of a footer's table, one after the other.
use Rattle.std.proofs.Common.{◌≡◌, ℕ, suc, ◌+◌, ◌-◌, ◌<◌, List, [], ◌∷◌, ◌++◌, length, get_or, drop, append_assoc, ◌&&◌, Option, Some, None, true, refl, sym, ap, ap₂, ◌∙◌, ◌*◌, ◌≤◌, arith, add-one, drop-cons}
use Rattle.std.specs.List.{list_all}
use Rattle.std.proofs.lemmas.List.{length-drop}
use Rattle.std.specs.Prelude.{nat_le}
use Rattle.vx_base.specs.declared.segment.SegmentSpec.{SegmentSpec}
use Rattle.vx_footer.specs.declared.rows.Locator.{Locator}
use Rattle.vx_footer.specs.Tables.{segment_struct, segment_structs}
use Rattle.vx_footer.specs.Opening.{is_plain, aligned_spec, aligned_specs, spec_before, rise_from}

-- specs that were made, before others
abbrev pub specs_before : List SegmentSpec → Option (List SegmentSpec) → Option (List SegmentSpec)
specs_before made None = None
specs_before made (Some ss) = Some (made ++ ss)

pub specs_none : (o : Option (List SegmentSpec)) → specs_before [] o ≡ o
specs_none None = refl
specs_none (Some ss) = refl

pub next_rise : (ss : List SegmentSpec) (i least : ℕ) (s : SegmentSpec) → i < length ss → s ≡ get_or ss i s → rise_from least (drop i ss) ≡ (nat_le least s.offset && rise_from s.offset (drop (i + 1) ss))
next_rise ss i least s lt is =
    let step : drop i ss ≡ s ∷ drop (i + 1) ss = rw (add-one, drop-cons ss i s, ← is) refl in
    ap (rise_from least) step

structs_next : (i count : ℕ) (cells rest : List ℕ) (l : Locator) → i < count → l ≡ segment_struct cells → rest ≡ drop 16 cells
    → segment_structs (count - i) cells ≡ l ∷ segment_structs (count - (i + 1)) rest
structs_next i count cells rest l lt first behind =
    let more : count - i ≡ suc (count - (i + 1)) = omega arith in
    ap (λ n. segment_structs n cells) more
    ∙ ap₂ (λ (k : Locator) (xs : List ℕ). k ∷ segment_structs (count - (i + 1)) xs) (sym first) (sym behind)

pub next_aligned : (i count : ℕ) (cells rest : List ℕ) (l : Locator) → i < count → l ≡ segment_struct cells → rest ≡ drop 16 cells
    → aligned_specs (segment_structs (count - i) cells) ≡ spec_before (aligned_spec l) (aligned_specs (segment_structs (count - (i + 1)) rest))
next_aligned i count cells rest l lt first behind = ap aligned_specs (structs_next i count cells rest l lt first behind)

pushed_before : (made : List SegmentSpec) (s : SegmentSpec) (o : Option (List SegmentSpec)) → specs_before (made ++ s ∷ []) o ≡ specs_before made (spec_before (Some s) o)
pushed_before made s None = refl
pushed_before made s (Some ss) = ap Some (append_assoc made (s ∷ []) ss)

pub push_aligned : (made : List SegmentSpec) (i count : ℕ) (cells rest : List ℕ) (l : Locator) (s : SegmentSpec) → i < count → l ≡ segment_struct cells → rest ≡ drop 16 cells → Some s ≡ aligned_spec l
    → specs_before (made ++ s ∷ []) (aligned_specs (segment_structs (count - (i + 1)) rest)) ≡ specs_before made (aligned_specs (segment_structs (count - i) cells))
push_aligned made i count cells rest l s lt first behind is =
    pushed_before made s (aligned_specs (segment_structs (count - (i + 1)) rest))
    ∙ ap (λ (f : Option SegmentSpec). specs_before made (spec_before f (aligned_specs (segment_structs (count - (i + 1)) rest)))) is
    ∙ ap (specs_before made) (sym (next_aligned i count cells rest l lt first behind))

pub next_plain : (i count : ℕ) (cells rest : List ℕ) (l : Locator) → i < count → l ≡ segment_struct cells → rest ≡ drop 16 cells
    → list_all is_plain (segment_structs (count - i) cells) ≡ (is_plain l && list_all is_plain (segment_structs (count - (i + 1)) rest))
next_plain i count cells rest l lt first behind = ap (λ (ls : List Locator). list_all is_plain ls) (structs_next i count cells rest l lt first behind)

pub next_room : (i count : ℕ) (cells rest : List ℕ) → i < count → (count - i) * 16 ≤ length cells → rest ≡ drop 16 cells → (count - (i + 1)) * 16 ≤ length rest
next_room i count cells rest lt room behind = omega (arith, length-drop 16 cells, ap length behind, room)

no_structs : (i count : ℕ) (cells : List ℕ) → count ≤ i → segment_structs (count - i) cells ≡ []
no_structs i count cells past =
    let none : count - i ≡ 0 = omega arith in
    ap (λ n. segment_structs n cells) none

pub end_plain : (i count : ℕ) (cells : List ℕ) → count ≤ i → list_all is_plain (segment_structs (count - i) cells) ≡ true
end_plain i count cells past = ap (λ (ls : List Locator). list_all is_plain ls) (no_structs i count cells past)

pub end_aligned : (i count : ℕ) (cells : List ℕ) → count ≤ i → aligned_specs (segment_structs (count - i) cells) ≡ Some []
end_aligned i count cells past = ap aligned_specs (no_structs i count cells past)

pub ruleset plain_steps = (next_plain, end_plain, next_room)

pub ruleset aligned_steps = (specs_none, next_aligned, end_aligned)
