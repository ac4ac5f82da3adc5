-- The spans of a drive lie in the file where its segments do.
use Rattle.std.proofs.Common.{◌≡◌, ℕ, ◌≤◌, Bool, true, false, cond, List, [], ◌∷◌, length, map, Option, Some, None, refl, sym, ◌∙◌, subst, arith}
use Rattle.std.specs.Prelude.{All, slice_get, option_and_then}
use Rattle.std.specs.List.{AllByRecursion}
use Rattle.std.specs.Option.{option_map}
use Rattle.std.proofs.lemmas.List.Elements.{All-from_recursion}
use Rattle.vx_base.specs.Aligned.{align_down}
use Rattle.vx_base.specs.Asking.{IsInside}
use Rattle.vx_base.specs.declared.segment.SegmentSpec.{SegmentSpec}
use Rattle.vx_sched.specs.Io.{request_of as range_of}
use Rattle.vx_sched.specs.Law.{IsSound}
use Rattle.vx_sched.specs.Merging.{Merges, GathersIn, greatest_end, is_listed, span_of}
use Rattle.vx_sched.specs.Reads.{waiting_at}
use Rattle.vx_sched.specs.Scheduling.{Scheduler, MergesInTurn, taken}
use Rattle.vx_sched.specs.Span.{end_of}
use Rattle.vx_sched.specs.Span as sched
use Rattle.vx_sched.specs.declared.request.ReadRequest.{ReadRequest}
use Rattle.vx_sched.proofs.SoundLemmas.{waiting-taken, sound-taken}
use Rattle.vx_source.specs.Drives.{WaitsWithin}
use Rattle.vx_source.specs.Fits.{World, read_request}
use Rattle.vx_source.specs.Kept.{Kept}
use Rattle.vx_source.specs.Stands.{Words, HasWords, EndsWithin, request_of}
use Rattle.vx_source.specs.Stands.{waits as waits_of}

-- a span ends within so many bytes, and begins before its end
record IsRange (size : ℕ) (span : sched.Span) : Type 0 where
  order : span.start ≤ span.end
  inside : span.end ≤ size

ends-below : (size : ℕ) (rs : List ReadRequest) → AllByRecursion (λ (r : ReadRequest). end_of r ≤ size) rs → greatest_end rs ≤ size
ends-below size [] h = omega arith
ends-below size (r ∷ rs) h = let a = h.0 in let b = ends-below size rs h.1 in omega (arith, a, b)

all-below : (size : ℕ) (waits : ℕ → Option ReadRequest) → ((q : ℕ) (r : ReadRequest) → waits q ≡ Some r → end_of r ≤ size) → (rs : List ReadRequest)
    → AllByRecursion (λ (r : ReadRequest). waits r.id ≡ Some r) rs → AllByRecursion (λ (r : ReadRequest). end_of r ≤ size) rs
all-below size waits ends [] h = tt
all-below size waits ends (r ∷ rs) h = (ends r.id r h.0, all-below size waits ends rs h.1)

range-of : (size : ℕ) (distance limit : Option ℕ) (alignment : ℕ) (waits : ℕ → Option ReadRequest) (rs : List ReadRequest) → AllByRecursion (λ (r : ReadRequest). end_of r ≤ size) rs
    → GathersIn distance limit alignment waits rs → IsRange size (span_of distance alignment rs)
range-of size None limit alignment waits [] h g = record { order = omega arith; inside = omega arith }
range-of size None limit alignment waits (r ∷ rs) h g = let a = h.0 in record { order = omega arith; inside = omega (arith, a) }
range-of size (Some d) limit alignment waits [] h g = record { order = down alignment; inside = omega arith }
  where
    down : (a : ℕ) → align_down a 0 ≤ 0
    down a = omega arith
range-of size (Some d) limit alignment waits (r ∷ rs) h g =
    let e = ends-below size (r ∷ rs) h in
    let l = down alignment r.offset in
    record { order = omega (arith, l); inside = e }
  where
    down : (a x : ℕ) → align_down a x ≤ x
    down a x = omega arith

merged-inside : (size : ℕ) (distance limit : Option ℕ) (alignment next : ℕ) (waits : ℕ → Option ReadRequest) (core : sched.Span) → ((q : ℕ) (r : ReadRequest) → waits q ≡ Some r → end_of r ≤ size)
    → Merges distance limit alignment waits next core → IsRange size core
merged-inside size distance limit alignment next waits core ends m =
    subst (IsRange size) (sym m.range) (range-of size distance limit alignment waits core.reads (all-below size waits ends core.reads m.waits) m.gathers)

taken-ends : (size : ℕ) (s : Scheduler) (core : sched.Span) → IsSound s → ((q : ℕ) (r : ReadRequest) → waiting_at s.reads q ≡ Some r → end_of r ≤ size)
    → (q : ℕ) (r : ReadRequest) → waiting_at (taken s core).reads q ≡ Some r → end_of r ≤ size
taken-ends size s core sound ends q r e = ends q r (at (is_listed core.reads q) (sym (waiting-taken s sound core q) ∙ e))
  where
    at : (b : Bool) → cond b None (waiting_at s.reads q) ≡ Some r → waiting_at s.reads q ≡ Some r
    at true e = cc
    at false e = e

all-inside : (file : List ℕ) (s : Scheduler) (cores : List sched.Span) → IsSound s → ((q : ℕ) (r : ReadRequest) → waiting_at s.reads q ≡ Some r → end_of r ≤ length file)
    → MergesInTurn s cores → AllByRecursion (IsInside file) (map range_of cores)
all-inside file s [] sound ends m = tt
all-inside file s (core ∷ rest) sound ends m =
    let range = merged-inside (length file) s.distance s.limit s.alignment m.0.next (waiting_at s.reads) core ends m.0.merges in
    let order = range.order in
    let inside = range.inside in
    (omega (arith, order, inside), all-inside file (taken s core) rest (sound-taken s core sound m.0) (taken-ends (length file) s core sound ends) m.1)

-- the ranges of a block lie in the file
pub block-inside : (file : List ℕ) (k : Kept) (cores : List sched.Span) → WaitsWithin (length file) k → MergesInTurn k.core cores → All (IsInside file) (map range_of cores)
block-inside file k cores w m = All-from_recursion (IsInside file) (map range_of cores) (all-inside file k.core cores w.sound w.ends m)

request-end : (w : World) (size r : ℕ) → EndsWithin size w.table → (o : Option ℕ) (q : ReadRequest) → option_map (read_request r) (option_and_then (slice_get w.table) o) ≡ Some q → end_of q ≤ size
request-end w size r inside None q e = cc
request-end w size r inside (Some s) q e = at (slice_get w.table s) refl e
  where
    at : (found : Option SegmentSpec) → slice_get w.table s ≡ found → option_map (read_request r) found ≡ Some q → end_of q ≤ size
    at None is e = cc
    at (Some spec) is e =
        let same : read_request r spec ≡ q = cc in
        subst (λ x. end_of x ≤ size) same (inside s spec is)

waits-request : (b : Bool) (o : Option ReadRequest) (q : ReadRequest) → cond b o None ≡ Some q → o ≡ Some q
waits-request true o q e = e
waits-request false o q e = cc

-- where each segment ends within the file, each waiting read does
pub stands-inside : (w : World) (v : Words) (size : ℕ) (k : Kept) → HasWords w v k → EndsWithin size w.table → WaitsWithin size k
stands-inside w v size k st inside = record {
  sound = st.ties.sound;
  ends = λ q r e. request-end w size q inside (v.segment q) r (waits-request (waits_of v q) (request_of w v q) r (sym (st.ties.waiting q) ∙ e));
}
