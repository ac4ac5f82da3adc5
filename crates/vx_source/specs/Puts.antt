-- What a session puts into its cache.
use Rattle.std.specs.Prelude.{◌≡◌, ℕ, ◌+◌, ◌++◌, ◌⊎◌, Bool, true, false, List, [], ◌∷◌, Option, Some, None, is_some, length, map}
use Rattle.std.specs.Option.{option_map}
use Rattle.vx_base.specs.Buffer.{Buffer}
use Rattle.vx_base.specs.Caches.{Segments, CacheState, buffer_of}
use Rattle.vx_base.specs.Counts.{Rises}
use Rattle.vx_base.specs.declared.segment.SegmentId.{SegmentId}
use Rattle.vx_source.specs.History.{Moment, segment_of}
use Rattle.vx_source.specs.Kept.{segment_at}
use Rattle.vx_source.specs.Requests.{Filed, Request}
use Rattle.vx_source.specs.declared.span.Span.{Span}
use Rattle.vx_source.specs.declared.span.SpanOutcome.{SpanOutcome}
use Rattle.vx_source.specs.declared.span.SpanOutcome.TheVariants.{Good, Bad}

abbrev pub put_at : Option ℕ → Option Buffer → Segments
put_at (Some s) (Some buffer) = (record { 0 = s }, buffer) ∷ []
put_at _ _ = []

-- each read of a good span is put under its segment
abbrev pub puts_of : List Request → List Filed → Segments
puts_of requests [] = []
puts_of requests (f ∷ rest) = put_at (segment_at requests f.read) f.bytes ++ puts_of requests rest

-- a cache is handed puts, or none of them where it tells no puts
abbrev pub AreHanded : Segments → CacheState → Segments → Type 0
AreHanded puts cache handed = (handed ≡ puts) ⊎ ((handed ≡ []) × (cache.puts ≡ None))

-- those puts that were kept
abbrev pub kept_of : List Bool → Segments → Segments
kept_of [] puts = puts
kept_of (kept ∷ more) [] = []
kept_of (true ∷ more) (put ∷ rest) = put ∷ kept_of more rest
kept_of (false ∷ more) (put ∷ rest) = kept_of more rest

-- how many were not
abbrev pub missed : List Bool → ℕ
missed [] = 0
missed (true ∷ more) = missed more
missed (false ∷ more) = 1 + missed more

-- each entry is an old one, or one of these puts
abbrev pub IsPut : Segments → ℕ → Buffer → Type 0
IsPut [] q buffer = ⊥
IsPut (put ∷ rest) q buffer = ((q ≡ put.0.0) × (buffer ≡ put.1)) ⊎ IsPut rest q buffer

-- A cache was asked for these puts, in order: its log gained them, but for at most as many as its count of puts that
-- found no memory rose. Each of its entries is an old one or one of them.
pub record Gains (puts : Segments) (before now : CacheState) : Type 0 where
  pub kept : List Bool
  pub size : length kept ≡ length puts
  pub log : now.puts ≡ option_map (λ l. l ++ kept_of kept puts) before.puts
  pub lost : Rises (missed kept) before.lost now.lost
  pub from : (es fs : Segments) (q : ℕ) (buffer : Buffer) → before.entries ≡ Some es → now.entries ≡ Some fs → buffer_of fs q ≡ Some buffer →
      (buffer_of es q ≡ Some buffer) ⊎ IsPut puts q buffer
  pub tells : is_some now.entries ≡ is_some before.entries

abbrev pub with_segment : Option ℕ → List ℕ → List ℕ
with_segment None rest = rest
with_segment (Some s) rest = s ∷ rest

-- the segments of reads
abbrev pub segments_of : List Moment → List ℕ → List ℕ
segments_of past [] = []
segments_of past (r ∷ rest) = with_segment (segment_of past r) (segments_of past rest)

abbrev pub put_segments : List Moment → List ℕ → SpanOutcome → List ℕ
put_segments past reads Good = segments_of past reads
put_segments past reads (Bad fault) = []

-- the segments that the spans of a drive put: those of each read of each good span, in order
abbrev pub put_by : List Moment → List Span → List ℕ
put_by past [] = []
put_by past (span ∷ rest) = put_segments past span.reads span.outcome ++ put_by past rest

-- the cache was asked for the puts of the good spans of a drive
pub record PutsBy (past : List Moment) (spans : List Span) (before now : CacheState) : Type 0 where
  pub puts : Segments
  pub segments : map (λ (e : SegmentId × Buffer). e.0.0) puts ≡ put_by past spans
  pub gains : Gains puts before now
