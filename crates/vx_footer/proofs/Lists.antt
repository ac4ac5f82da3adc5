-- Lists of segments: data in front, metadata behind.
use Rattle.std.proofs.Common.{◌≡◌, ℕ, ◌+◌, ◌<◌, List, ◌∷◌, ◌++◌, length, take, drop, get_or, refl, sym, ap, ◌∙◌, add-one, drop-cons}
use Rattle.std.proofs.lemmas.List.{length-map, take_at, drop_at, take-append-drop}
use Rattle.vx_base.specs.declared.segment.SegmentSpec.{SegmentSpec}
use Rattle.vx_footer.specs.declared.postscript.PostscriptMetadata.{PostscriptMetadata}
use Rattle.vx_footer.specs.Footers.{metadata_specs, spec_of}

pub ruleset map_lengths = (length-map)

pub next_spec : (ms : List PostscriptMetadata) (i : ℕ) (m : PostscriptMetadata) → i < length ms → m ≡ get_or ms i m
    → metadata_specs (drop i ms) ≡ spec_of m.segment ∷ metadata_specs (drop (i + 1) ms)
next_spec ms i m lt is =
    let step : drop i ms ≡ m ∷ drop (i + 1) ms = rw (add-one, drop-cons ms i m, ← is) refl in
    ap metadata_specs step

pub front_parts : (ss ts : List SegmentSpec) → take (length ss) (ss ++ ts) ≡ ss
front_parts ss ts = take_at ss ts (length ss) refl

pub back_parts : (ss ts : List SegmentSpec) → drop (length ss) (ss ++ ts) ≡ ts
back_parts ss ts = drop_at ss ts (length ss) refl

pub whole_table : (table : List SegmentSpec) (n : ℕ) (ms : List PostscriptMetadata) → drop n table ≡ metadata_specs ms → table ≡ take n table ++ metadata_specs ms
whole_table table n ms h = sym (take-append-drop n table) ∙ ap (λ xs. take n table ++ xs) h
