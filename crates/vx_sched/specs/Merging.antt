-- When a span of reads merges from those that wait.
use Rattle.std.specs.Prelude.{◌≡◌, ℕ, ◌+◌, ◌-◌, ◌^◌, ◌<◌, ◌≤◌, ◌==◌, ◌&&◌, ◌||◌, nat_lt, min, max, Bool, true, false, List, [], ◌∷◌, length, Option, Some, None}
use Rattle.std.specs.List.{list_any, AllByRecursion}
use Rattle.vx_base.specs.Aligned.{align_down}
use Rattle.vx_base.specs.Counts.{last_count}
use Rattle.vx_sched.specs.Span.{Span, end_of}
use Rattle.vx_sched.specs.declared.request.ReadRequest.{ReadRequest}

-- whether one read is listed before another: by offset, and then by number
abbrev pub is_before : ReadRequest → ReadRequest → Bool
is_before a b = nat_lt a.offset b.offset || ((a.offset == b.offset) && nat_lt a.id b.id)

-- whether reads are listed in order after another
abbrev pub is_in_order_after : ReadRequest → List ReadRequest → Bool
is_in_order_after r [] = true
is_in_order_after r (s ∷ rest) = is_before r s && is_in_order_after s rest

-- whether reads are listed once each, in order of offset and number
abbrev pub is_in_order : List ReadRequest → Bool
is_in_order [] = true
is_in_order (r ∷ rest) = is_in_order_after r rest

-- whether a number is that of a listed read
abbrev pub is_listed : List ReadRequest → ℕ → Bool
is_listed reads id = list_any (λ r. r.id == id) reads

-- the offset of the first read
abbrev pub first_offset : List ReadRequest → ℕ
first_offset [] = 0
first_offset (r ∷ _) = r.offset

-- the number of the first read
abbrev pub first_number : List ReadRequest → ℕ
first_number [] = 0
first_number (r ∷ _) = r.id

-- the greatest end of the reads
abbrev pub greatest_end : List ReadRequest → ℕ
greatest_end [] = 0
greatest_end (r ∷ rest) = max (end_of r) (greatest_end rest)

-- each read begins at most `distance` past the greatest end before it, which is `reach` before the first
abbrev pub GapsAfter : ℕ → ℕ → List ReadRequest → Type 0
GapsAfter distance reach [] = Unit {0}
GapsAfter distance reach (r ∷ rest) = (r.offset ≤ reach + distance) × GapsAfter distance (max reach (end_of r)) rest

-- each read but the first begins at most `distance` past the greatest end of those listed before it
abbrev pub HasNoWideGap : ℕ → List ReadRequest → Type 0
HasNoWideGap distance [] = Unit {0}
HasNoWideGap distance (r ∷ rest) = GapsAfter distance (end_of r) rest

-- a read ends at most `distance` before a range, and begins at most `distance` after it
pub record IsNear (distance low high : ℕ) (r : ReadRequest) : Type 0 where
  pub from : low ≤ end_of r + distance
  pub upto : r.offset ≤ high + distance

-- a range is longer than the limit; without a limit none is
abbrev pub IsLonger : Option ℕ → ℕ → Type 0
IsLonger None size = ⊥
IsLonger (Some limit) size = limit < size

-- a range is no longer than the limit, if there is one
abbrev pub IsWithinLimit : Option ℕ → ℕ → Type 0
IsWithinLimit None size = Unit {0}
IsWithinLimit (Some limit) size = size ≤ limit

-- the length of the aligned range from one offset to another
abbrev pub aligned_size : ℕ → ℕ → ℕ → ℕ
aligned_size alignment low high = high - align_down alignment low

-- with this read, the aligned range would be longer than the limit
abbrev pub IsTooLong : Option ℕ → ℕ → ℕ → ℕ → ReadRequest → Type 0
IsTooLong limit alignment low high r = IsLonger limit (aligned_size alignment (min low r.offset) (max high (end_of r)))

-- the range of reads that are gathered at a distance, or of one read without
abbrev pub span_of : Option ℕ → ℕ → List ReadRequest → Span
span_of None alignment [] = record { start = 0; end = 0; alignment = alignment; reads = [] }
span_of None alignment (r ∷ rest) = record { start = r.offset; end = end_of r; alignment = r.alignment; reads = r ∷ rest }
span_of (Some distance) alignment reads = record {
  start = align_down alignment (first_offset reads);
  end = greatest_end reads;
  alignment = alignment;
  reads = reads;
}

-- reads that are gathered at a distance, from those that wait
pub record IsGathered (distance : ℕ) (limit : Option ℕ) (alignment : ℕ) (waiting : ℕ → Option ReadRequest) (reads : List ReadRequest) : Type 0 where
  pub gaps : HasNoWideGap distance reads
  pub size : 1 < length reads → IsWithinLimit limit (aligned_size alignment (first_offset reads) (greatest_end reads))
  pub closure : (r : ReadRequest) → waiting r.id ≡ Some r → is_listed reads r.id ≡ false
      → IsNear distance (first_offset reads) (greatest_end reads) r
      → IsTooLong limit alignment (first_offset reads) (greatest_end reads) r

-- reads that are gathered at a distance, or one read without; then the limit is not looked at
abbrev pub GathersIn : Option ℕ → Option ℕ → ℕ → (ℕ → Option ReadRequest) → List ReadRequest → Type 0
GathersIn None limit alignment waiting reads = length reads ≡ 1
GathersIn (Some distance) limit alignment waiting reads = IsGathered distance limit alignment waiting reads

-- a span merges from the reads that wait, and serves the one that is next
pub record Merges (distance limit : Option ℕ) (alignment : ℕ) (waiting : ℕ → Option ReadRequest) (next : ℕ) (span : Span) : Type 0 where
  pub waits : AllByRecursion (λ r. waiting r.id ≡ Some r) span.reads
  pub order : is_in_order span.reads ≡ true
  pub serves : is_listed span.reads next ≡ true
  pub gathers : GathersIn distance limit alignment waiting span.reads
  pub range : span ≡ span_of distance alignment span.reads

-- the limit of a greatest size, with room for the start to be aligned down
abbrev pub raised : ℕ → ℕ → ℕ
raised alignment size = min (size + (2 ^ alignment - 1)) last_count

-- whether two ranges and their alignments are one
abbrev pub same_span : Span → Span → Bool
same_span a b = (a.start == b.start) && (a.end == b.end) && (a.alignment == b.alignment)
