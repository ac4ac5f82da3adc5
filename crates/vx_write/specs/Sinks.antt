-- Segments that are placed one behind the other, and what writing one leaves.
use Rattle.std.specs.Prelude.{◌≡◌, ◌⊎◌, ℕ, ◌+◌, ◌-◌, ◌%◌, ◌^◌, ◌&&◌, ◌==◌, Bool, nat_lt, nat_le, List, [], ◌∷◌, ◌++◌, length, replicate, Result, Ok, Err}
use Rattle.vx_base.specs.Buffer.{Buffer}
use Rattle.vx_base.specs.Checks.{◌>>=◌, ◌unless◌}
use Rattle.vx_base.specs.Counts.{Rises}
use Rattle.vx_base.specs.Streams.{SinkState, Took, TookPrefix}
use Rattle.vx_base.specs.declared.fault.SinkError.{SinkError}
use Rattle.vx_base.specs.declared.fault.SinkError.TheVariants as sink
use Rattle.vx_base.specs.declared.segment.SegmentId.{SegmentId}
use Rattle.vx_base.specs.declared.segment.SegmentSpec.{SegmentSpec}
use Rattle.vx_footer.specs.Placing.{padding}
use Rattle.vx_footer.specs.Serialized.{joined}
use Rattle.vx_footer.specs.declared.write_error.WriteError.{WriteError}
use Rattle.vx_footer.specs.declared.write_error.WriteError.TheVariants.{TooManySegments, SegmentTooLong, OffsetOverflow, WriteFault, OutOfMemory}

-- the segments so far, and the offset behind them
pub record Segments : Type 0 where
  pub specs : List SegmentSpec
  pub offset : ℕ

-- segments lie one behind the other from an offset on, each at a multiple of its alignment, and end before another
abbrev pub are_laid : ℕ → List SegmentSpec → ℕ → Bool
are_laid from [] to = nat_le from to
are_laid from (s ∷ ss) to = nat_le from s.offset && (s.offset % 2 ^ s.alignment == 0) && are_laid (s.offset + s.length) ss to

-- ---- buffers that are placed at an offset: zeros up to the first one's alignment, and then their bytes

-- none for no buffer
abbrev pub alignment_of : List Buffer → ℕ
alignment_of [] = 0
alignment_of (b ∷ bs) = b.alignment

abbrev pub zeros_before : ℕ → List Buffer → ℕ
zeros_before offset bs = padding (alignment_of bs) offset

abbrev pub placed : ℕ → List Buffer → List ℕ
placed offset bs = replicate (zeros_before offset bs) 0 ++ joined bs

abbrev pub spec_of : ℕ → List Buffer → SegmentSpec
spec_of offset bs = record { offset = offset + zeros_before offset bs; length = length (joined bs); alignment = alignment_of bs }

abbrev pub behind : ℕ → List Buffer → ℕ
behind offset bs = offset + zeros_before offset bs + length (joined bs)

-- the segment of buffers behind others
abbrev pub with_segment : List Buffer → Segments → Segments
with_segment bs s = record { specs = s.specs ++ spec_of s.offset bs ∷ []; offset = behind s.offset bs }

-- whether a segment of buffers may stand behind others
unfoldable pub place_checks : List Buffer → Segments → Result (Unit {0}) WriteError
place_checks bs s = do
  _ ← TooManySegments unless nat_lt (length s.specs) (2 ^ 32 - 1)
  _ ← SegmentTooLong unless nat_lt (length (joined bs)) (2 ^ 32)
  OffsetOverflow unless nat_lt (behind s.offset bs) (2 ^ 64)

-- ---- what writing a segment leaves

-- the sink took the zeros and the buffers, and the segment has the next number
pub record Placed (bs : List Buffer) (old new : Segments) (before now : SinkState) (id : SegmentId) : Type 0 where
  pub fits : place_checks bs old ≡ Ok tt
  pub took : Took (placed old.offset bs) before.gained now.gained
  pub segments : new ≡ with_segment bs old
  pub number : id.0 ≡ length old.specs

-- nothing was written
pub record NotPlaced (e : WriteError) (bs : List Buffer) (old new : Segments) (before now : SinkState) : Type 0 where
  pub refused : place_checks bs old ≡ Err e
  pub segments : new ≡ old
  pub still : now ≡ before

-- a prefix of the zeros and the buffers was taken
pub record CutOff (bs : List Buffer) (old new : Segments) (before now : SinkState) : Type 0 where
  pub took : TookPrefix (placed old.offset bs) before.gained now.gained
  pub segments : new ≡ old

-- an answer has its cause
abbrev pub WritesSegment : List Buffer → Segments → Segments → SinkState → SinkState → Result SegmentId WriteError → Type 0
WritesSegment bs old new before now (Ok id) = Placed bs old new before now id
WritesSegment bs old new before now (Err WriteFault) = CutOff bs old new before now × Rises 1 before.faults now.faults
WritesSegment bs old new before now (Err OutOfMemory) = CutOff bs old new before now × ((now ≡ before) ⊎ Rises 1 before.memory_faults now.memory_faults)
WritesSegment bs old new before now (Err e) = NotPlaced e bs old new before now

-- why a segment is not written, where this is why its sink took no more
abbrev pub error_of_sink : SinkError → WriteError
error_of_sink sink.Failed = WriteFault
error_of_sink sink.OutOfMemory = OutOfMemory
