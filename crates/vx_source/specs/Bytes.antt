-- When the bytes that a session keeps and answers are those of a file.
use Rattle.std.specs.Prelude.{◌≡◌, ℕ, ◌&&◌, not, true, false, List, drop, Option, Some, None, slice_get}
use Rattle.std.specs.Option.{option_map_or}
use Rattle.vx_base.specs.Buffer.{Buffer, bytes_at}
use Rattle.vx_base.specs.Caches.{Segments, CacheState, buffer_of}
use Rattle.vx_base.specs.declared.segment.SegmentSpec.{SegmentSpec}
use Rattle.vx_source.specs.Fits.{World, covered_from, covers}
use Rattle.vx_source.specs.History.{Moment, segment_of, is_held}
use Rattle.vx_source.specs.Kept.{Kept, segment_at, bytes_of, tail_start}
use Rattle.vx_source.specs.declared.look.Look.{Look}
use Rattle.vx_source.specs.declared.look.Look.TheVariants.{InCache}
use Rattle.vx_source.specs.declared.reply.Reply.{Reply}
use Rattle.vx_source.specs.declared.reply.Reply.TheVariants.{Ready}
use Rattle.vx_source.specs.Requests.{Request, Standing, Held, Reads, Ended}
use Rattle.vx_source.specs.declared.tail.Tail.{Tail}

-- a buffer has the bytes of a segment
abbrev pub IsSlice : List ℕ → List SegmentSpec → ℕ → Buffer → Type 0
IsSlice file table s buffer = (spec : SegmentSpec) → slice_get table s ≡ Some spec → buffer.bytes ≡ bytes_at file spec.offset spec.length

-- a buffer is a segment: it has its bytes, and the alignment that it claims
abbrev pub IsSegment : List ℕ → List SegmentSpec → ℕ → Buffer → Type 0
IsSegment file table s buffer = (spec : SegmentSpec) → slice_get table s ≡ Some spec
    → buffer ≡ record { bytes = bytes_at file spec.offset spec.length; alignment = spec.alignment }

-- what a request holds has the bytes of its segment, and is the segment where the tail covers it
pub record IsHeld (file : List ℕ) (table : List SegmentSpec) (tail : Option Tail) (s : ℕ) (buffer : Buffer) : Type 0 where
  pub slice : IsSlice file table s buffer
  pub own : option_map_or (covered_from (tail_start tail)) (slice_get table s) false ≡ true → IsSegment file table s buffer

-- a tail is the end of a file
abbrev pub IsEnd : List ℕ → Option Tail → Type 0
IsEnd file tail = (t : Tail) → tail ≡ Some t → t.bytes.bytes ≡ drop t.start file

-- a cache tells its entries, and each is the bytes of its segment
pub record TellsSlices (file : List ℕ) (table : List SegmentSpec) (cache : CacheState) : Type 0 where
  pub entries : Segments
  pub told : cache.entries ≡ Some entries
  pub slices : (s : ℕ) (buffer : Buffer) → buffer_of entries s ≡ Some buffer → IsSlice file table s buffer

abbrev pub held_of : Standing → Option Buffer
held_of (Held buffer) = Some buffer
held_of (Reads r) = None
held_of Ended = None

abbrev pub held_in : Option Request → Option Buffer
held_in None = None
held_in (Some q) = held_of q.standing

-- the bytes at hand for a request
abbrev pub held_at : List Request → ℕ → Option Buffer
held_at requests n = held_in (slice_get requests n)

-- the bytes that a session keeps are those of a file: the tail is its end, what requests hold has the bytes of their
-- segments, and what reads have are their segments
pub record HasBytes (file : List ℕ) (k : Kept) : Type 0 where
  pub tail : IsEnd file k.tail
  pub held : (n s : ℕ) (buffer : Buffer) → held_at k.requests n ≡ Some buffer → segment_at k.requests n ≡ Some s → IsHeld file k.table k.tail s buffer
  pub reads : (r s : ℕ) (buffer : Buffer) → bytes_of k.reads r ≡ Some buffer → segment_at k.requests r ≡ Some s → IsSegment file k.table s buffer

-- what is ready has the bytes of the number's segment, and is that segment unless a cache gave it: so where the number
-- is not held or the tail covers the segment
abbrev pub IsTrueReply : List ℕ → World → List Moment → ℕ → Reply → Type 0
IsTrueReply file w past n (Ready buffer) = (s : ℕ) → segment_of past n ≡ Some s →
    IsSlice file w.table s buffer × ((is_held past n && not (covers w s)) ≡ false → IsSegment file w.table s buffer)
IsTrueReply file w past n _ = Unit {0}

-- what a cache gave is its entry
abbrev pub IsEntry : ℕ → CacheState → Look → Type 0
IsEntry s cache (InCache buffer) = (es : Segments) → cache.entries ≡ Some es → buffer_of es s ≡ Some buffer
IsEntry s cache _ = Unit {0}
