-- The longest path that leads to all layouts that name a segment, as a walk gathers it.
use Rattle.std.specs.Prelude.{ℕ, suc, ◌+◌, Bool, false, if◌then◌else◌, List, [], ◌∷◌, take, slice_set, slice_index_or, Option, Some, None}
use Rattle.std.specs.Str.{bytes_eq}
use Rattle.vx_base.specs.declared.segment.SegmentSpec.{SegmentSpec}
use Rattle.vx_data.specs.Paths.{Path}
use Rattle.vx_footer.specs.FieldSizes.{Reference, is_prefix}

-- how many first names two paths share
abbrev pub common_length : Path → Path → ℕ
common_length [] q = 0
common_length (a ∷ p) [] = 0
common_length (a ∷ p) (b ∷ q) = if bytes_eq a b then suc (common_length p q) else 0

-- the common path of those so far, if any, and one more
abbrev pub narrowed : Option Path → Path → Path
narrowed None path = path
narrowed (Some common) path = take (common_length common path) common

-- those of all segments, after these references
abbrev pub commons_after : List (Option Path) → List Reference → List (Option Path)
commons_after commons [] = commons
commons_after commons (r ∷ refs) = commons_after (slice_set commons r.segment (Some (narrowed (slice_index_or commons r.segment None) r.path))) refs

-- whether a path leads to it
abbrev pub is_within : Path → Option Path → Bool
is_within path None = false
is_within path (Some common) = is_prefix path common

-- the lengths of the segments to which a path leads
abbrev pub length_within : Path → List (Option Path) → List SegmentSpec → ℕ
length_within path [] ss = 0
length_within path (c ∷ cs) [] = 0
length_within path (c ∷ cs) (s ∷ ss) = (if is_within path c then s.length else 0) + length_within path cs ss
