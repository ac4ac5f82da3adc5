-- The segments that the tail covers, and what a cache is given of them.
use Rattle.std.specs.Prelude.{ℕ, ◌+◌, ◌^◌, nat_le, List, [], ◌∷◌, ◌++◌, take, if◌then◌else◌, Option, Some, None}
use Rattle.vx_base.specs.Buffer.{Buffer, bytes_at}
use Rattle.vx_base.specs.Caches.{Segments}
use Rattle.vx_base.specs.declared.segment.SegmentSpec.{SegmentSpec}

-- a segment's bytes, with the alignment that it claims
abbrev pub slice_of : List ℕ → SegmentSpec → Buffer
slice_of file s = record { bytes = bytes_at file s.offset s.length; alignment = s.alignment }

-- a segment's buffer under its number, where it begins at or after the tail's start
abbrev pub covered_put : List ℕ → ℕ → ℕ → SegmentSpec → Segments
covered_put file start number s =
    if nat_le start s.offset then (record { 0 = number }, slice_of file s) ∷ [] else []

-- the covered segments of a table of which the first has this number, in order
abbrev pub covered_after : List ℕ → ℕ → ℕ → List SegmentSpec → Segments
covered_after file start number [] = []
covered_after file start number (s ∷ rest) = covered_put file start number s ++ covered_after file start (number + 1) rest

-- the covered segments of a table, whose numbers have 32 bits
abbrev pub covered_segments : List ℕ → ℕ → List SegmentSpec → Segments
covered_segments file start table = covered_after file start 0 (take (2 ^ 32) table)

-- the segments that a tail covers, if one was read
abbrev pub covered_from : List ℕ → Option ℕ → List SegmentSpec → Segments
covered_from file None table = []
covered_from file (Some start) table = covered_segments file start table
