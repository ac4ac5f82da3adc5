-- The values of metadata, and the numbers of its segments.
use Rattle.std.proofs.Common.{◌≡◌, ℕ, zero, suc, ◌+◌, ◌-◌, ◌<◌, ◌≤◌, List, [], ◌∷◌, ◌++◌, length, length-append, map, Some, None, Result, Err, refl, sym, ap, subst, ◌∙◌, arith, append_assoc, inl, inr}
use Rattle.std.specs.Prelude.{slice_get}
use Rattle.vx_base.specs.Caches.{CacheState}
use Rattle.vx_base.specs.Counts.{Rises}
use Rattle.vx_base.specs.Readers.{ReaderState}
use Rattle.vx_base.specs.declared.segment.SegmentId.{SegmentId}
use Rattle.vx_base.specs.declared.segment.SegmentSpec.{SegmentSpec}
use Rattle.vx_footer.specs.Footers.{FooterContent, metadata_specs, segment_table, spec_of}
use Rattle.vx_footer.specs.declared.postscript.PostscriptMetadata.{PostscriptMetadata}
use Rattle.vx_sched.specs.declared.fault.Fault.{Fault}
use Rattle.vx_source.specs.Asks.{Grew, asked_by, bad_spans}
use Rattle.vx_source.specs.Bytes.{TellsSlices}
use Rattle.vx_source.specs.Fetching.{Fetches, StopsFetch, AreAnswers, HaveSlices, AreReady, AreInTable, cache_failures}
use Rattle.vx_source.specs.Fits.{World}
use Rattle.vx_source.specs.Kept.{Kept}
use Rattle.vx_source.specs.declared.fetching.Fetched.{Fetched}
use Rattle.vx_source.specs.declared.reply.FailCause.{FailCause}
use Rattle.vx_source.specs.declared.reply.FailCause.TheVariants as cause
use Rattle.vx_source.specs.declared.reply.Reply.{Reply}
use Rattle.vx_source.specs.declared.reply.Reply.TheVariants.{Registered, MissingSegment, Ready, Pending, Failed, Dropped, NotLive, Driven}
use Rattle.vx_source.specs.declared.span.Span.{Span}
use Rattle.vx_source.proofs.AnswerLemmas.{rises-fewer}
use Rattle.vx_file.specs.declared.metadata.Loaded.{Loaded}
use Rattle.vx_file.specs.declared.metadata.MetadataValue.{MetadataValue}
use Rattle.vx_file.specs.declared.served.ServeError.{ServeError}
use Rattle.vx_file.specs.Loading.{numbers_from, metadata_ids, keyed, values_of, value_in, first_failed, Drives, Loads, StopsLoading, LoadCause}
use Rattle.vx_file.specs.Serving.{FaultRose, failure_as}

numbers-next : (n k m : ℕ) → k ≡ suc m → numbers_from n k ≡ record { 0 = n } ∷ numbers_from (n + 1) m
numbers-next n k m e = ap (numbers_from n) e

-- a number more
pub number-more : (ids all : List SegmentId) (n end : ℕ) → n < end → ids ++ numbers_from n (end - n) ≡ all → (ids ++ record { 0 = n } ∷ []) ++ numbers_from (n + 1) (end - (n + 1)) ≡ all
number-more ids all n end lt h =
    let e : end - n ≡ suc (end - (n + 1)) = omega (arith, lt) in
    append_assoc ids (record { 0 = n } ∷ []) (numbers_from (n + 1) (end - (n + 1)))
    ∙ ap (λ l. ids ++ l) (sym (numbers-next n (end - n) (end - (n + 1)) e)) ∙ h

-- ---- numbers

specs-length : (ms : List PostscriptMetadata) → length (metadata_specs ms) ≡ length ms
specs-length [] = refl
specs-length (m ∷ ms) = ap suc (specs-length ms)

pub table-length : (f : FooterContent) → length (segment_table f) ≡ length f.segments + length f.metadata
table-length f = length-append f.segments (metadata_specs f.metadata) ∙ ap (λ n. length f.segments + n) (specs-length f.metadata)

-- the numbers behind those of the data segments, up to the end of the table
pub ids-are : (f : FooterContent) (end : ℕ) → end ≡ length (segment_table f) → numbers_from (length f.segments) (end - length f.segments) ≡ metadata_ids f
ids-are f end e =
    let all = table-length f in
    ap (numbers_from (length f.segments)) (let same : end - length f.segments ≡ length f.metadata = omega (arith, e, all) in same)

numbers-length : (n k : ℕ) → length (numbers_from n k) ≡ k
numbers-length n zero = refl
numbers-length n (suc k) = ap suc (numbers-length (n + 1) k)

pub ids-length : (f : FooterContent) (ids : List SegmentId) → ids ≡ metadata_ids f → length ids ≡ length f.metadata
ids-length f ids e = ap length e ∙ numbers-length (length f.segments) (length f.metadata)

in-table : (table : List SegmentSpec) (n k : ℕ) → n + k ≤ length table → AreInTable table (numbers_from n k)
in-table table n zero h = tt
in-table table n (suc k) h = (omega (arith, h), in-table table (n + 1) k (omega (arith, h)))

-- ---- replies

failed-fault : (table : List SegmentSpec) (spans : List Span) (ids : List SegmentId) (replies : List Reply) (f : Fault) → AreAnswers table spans ids replies → first_failed replies ≡ Some (cause.Fault f) → 1 ≤ bad_spans spans
failed-fault table spans [] [] f h e = absurd cc
failed-fault table spans [] (r ∷ rs) f h e = absurd h
failed-fault table spans (id ∷ ids) [] f h e = absurd h
failed-fault table spans (id ∷ ids) (Registered number held ∷ rs) f h e = absurd h.0
failed-fault table spans (id ∷ ids) (MissingSegment ∷ rs) f h e = failed-fault table spans ids rs f h.1 e
failed-fault table spans (id ∷ ids) (Ready b ∷ rs) f h e = failed-fault table spans ids rs f h.1 e
failed-fault table spans (id ∷ ids) (Pending ∷ rs) f h e = absurd h.0
failed-fault table spans (id ∷ ids) (Failed (cause.Fault g) ∷ rs) f h e = h.0.1
failed-fault table spans (id ∷ ids) (Failed cause.Cache ∷ rs) f h e = absurd cc
failed-fault table spans (id ∷ ids) (Dropped ∷ rs) f h e = absurd h.0
failed-fault table spans (id ∷ ids) (NotLive ∷ rs) f h e = absurd h.0
failed-fault table spans (id ∷ ids) (Driven ss ∷ rs) f h e = absurd h.0

failed-cache : (replies : List Reply) → first_failed replies ≡ Some cause.Cache → 1 ≤ cache_failures replies
failed-cache [] e = absurd cc
failed-cache (Registered number held ∷ rs) e = let h = failed-cache rs e in omega (arith, h)
failed-cache (MissingSegment ∷ rs) e = let h = failed-cache rs e in omega (arith, h)
failed-cache (Ready b ∷ rs) e = let h = failed-cache rs e in omega (arith, h)
failed-cache (Pending ∷ rs) e = let h = failed-cache rs e in omega (arith, h)
failed-cache (Failed (cause.Fault g) ∷ rs) e = absurd cc
failed-cache (Failed cause.Cache ∷ rs) e = omega arith
failed-cache (Dropped ∷ rs) e = let h = failed-cache rs e in omega (arith, h)
failed-cache (NotLive ∷ rs) e = let h = failed-cache rs e in omega (arith, h)
failed-cache (Driven ss ∷ rs) e = let h = failed-cache rs e in omega (arith, h)

none-failed : (table : List SegmentSpec) (spans : List Span) (ids : List SegmentId) (replies : List Reply) → AreAnswers table spans ids replies → AreInTable table ids → first_failed replies ≡ None
    → AreReady replies × (length replies ≡ length ids)
none-failed table spans [] [] h t e = (tt, refl)
none-failed table spans [] (r ∷ rs) h t e = absurd h
none-failed table spans (id ∷ ids) [] h t e = absurd h
none-failed table spans (id ∷ ids) (Registered number held ∷ rs) h t e = absurd h.0
none-failed table spans (id ∷ ids) (MissingSegment ∷ rs) h t e = let a = h.0 in let b = t.0 in let no : ⊥ = omega (arith, a, b) in absurd no
none-failed table spans (id ∷ ids) (Ready b ∷ rs) h t e = let more = none-failed table spans ids rs h.1 t.1 e in (more.0, ap suc more.1)
none-failed table spans (id ∷ ids) (Pending ∷ rs) h t e = absurd h.0
none-failed table spans (id ∷ ids) (Failed c ∷ rs) h t e = absurd cc
none-failed table spans (id ∷ ids) (Dropped ∷ rs) h t e = absurd h.0
none-failed table spans (id ∷ ids) (NotLive ∷ rs) h t e = absurd h.0
none-failed table spans (id ∷ ids) (Driven ss ∷ rs) h t e = absurd h.0

-- ---- values

values-length : (ms : List PostscriptMetadata) (replies : List Reply) → AreReady replies → length replies ≡ length ms → length (values_of ms replies) ≡ length ms
values-length [] replies h e = refl
values-length (m ∷ ms) [] h e = absurd cc
values-length (m ∷ ms) (Ready b ∷ rs) h e = ap suc (values-length ms rs h (let same : length rs ≡ length ms = cc in same))
values-length (m ∷ ms) (Registered number held ∷ rs) h e = absurd h
values-length (m ∷ ms) (MissingSegment ∷ rs) h e = absurd h
values-length (m ∷ ms) (Pending ∷ rs) h e = absurd h
values-length (m ∷ ms) (Failed c ∷ rs) h e = absurd h
values-length (m ∷ ms) (Dropped ∷ rs) h e = absurd h
values-length (m ∷ ms) (NotLive ∷ rs) h e = absurd h
values-length (m ∷ ms) (Driven ss ∷ rs) h e = absurd h

get-here : (front rest : List SegmentSpec) (s : SegmentSpec) → slice_get (front ++ s ∷ rest) (length front) ≡ Some s
get-here [] rest s = refl
get-here (x ∷ front) rest s = get-here front rest s

values-true : (file : List ℕ) (front : List SegmentSpec) (n : ℕ) (ms : List PostscriptMetadata) (replies : List Reply) → length front ≡ n → AreReady replies → length replies ≡ length ms
    → HaveSlices file (front ++ metadata_specs ms) (numbers_from n (length ms)) replies → values_of ms replies ≡ map (value_in file) ms
values-true file front n [] replies at h e slices = refl
values-true file front n (m ∷ ms) [] at h e slices = absurd cc
values-true file front n (m ∷ ms) (Ready b ∷ rs) at h e slices =
    let here : slice_get (front ++ metadata_specs (m ∷ ms)) n ≡ Some (spec_of m.segment) = subst (λ i. slice_get (front ++ metadata_specs (m ∷ ms)) i ≡ Some (spec_of m.segment)) at (get-here front (metadata_specs ms) (spec_of m.segment)) in
    let bytes = slices.0 (spec_of m.segment) here in
    let one : keyed m b ≡ value_in file m = ap (λ (bs : List ℕ). let v : MetadataValue = record { key = m.key; value = record { bytes = bs; alignment = m.segment.alignment } } in v) bytes in
    let behind = subst (λ table. HaveSlices file table (numbers_from (n + 1) (length ms)) rs) (sym (append_assoc front (spec_of m.segment ∷ []) (metadata_specs ms))) slices.1 in
    let more = values-true file (front ++ spec_of m.segment ∷ []) (n + 1) ms rs (let l = length-append front (spec_of m.segment ∷ []) in omega (arith, l, at)) h (let same : length rs ≡ length ms = cc in same) behind in
    ap (λ v. v ∷ values_of ms rs) one ∙ ap (λ vs. value_in file m ∷ vs) more
values-true file front n (m ∷ ms) (Registered number held ∷ rs) at h e slices = absurd h
values-true file front n (m ∷ ms) (MissingSegment ∷ rs) at h e slices = absurd h
values-true file front n (m ∷ ms) (Pending ∷ rs) at h e slices = absurd h
values-true file front n (m ∷ ms) (Failed c ∷ rs) at h e slices = absurd h
values-true file front n (m ∷ ms) (Dropped ∷ rs) at h e slices = absurd h
values-true file front n (m ∷ ms) (NotLive ∷ rs) at h e slices = absurd h
values-true file front n (m ∷ ms) (Driven ss ∷ rs) at h e slices = absurd h

-- ---- a fetch of the metadata

module _ (w : World) (f : FooterContent) (is : w.table ≡ segment_table f) (ids : List SegmentId) (ids_is : ids ≡ metadata_ids f) (cache cache_now : CacheState) (fetched : Fetched) (k : Kept) where
  pub drives-are : Fetches w [] cache cache_now ids fetched k → Drives w f cache cache_now fetched
  drives-are h = record { kept = k; fetches = subst (λ xs. Fetches w [] cache cache_now xs fetched k) ids_is h }

  are-there : AreInTable w.table (metadata_ids f)
  are-there = in-table w.table (length f.segments) (length f.metadata) (let all = table-length f in let same = ap length is in omega (arith, all, same))

  ready : AreAnswers w.table fetched.spans ids fetched.replies → first_failed fetched.replies ≡ None → AreReady fetched.replies × (length fetched.replies ≡ length f.metadata)
  ready answers none =
      let both = none-failed w.table fetched.spans (metadata_ids f) fetched.replies (subst (λ xs. AreAnswers w.table fetched.spans xs fetched.replies) ids_is answers) are-there none in
      (both.0, both.1 ∙ numbers-length (length f.segments) (length f.metadata))

  -- all values were read
  pub loads-are : (file : List ℕ) (values : List MetadataValue) → Fetches w [] cache cache_now ids fetched k → AreAnswers w.table fetched.spans ids fetched.replies → first_failed fetched.replies ≡ None
      → (TellsSlices file w.table cache → HaveSlices file w.table ids fetched.replies) → values ≡ values_of f.metadata fetched.replies → Loads w file f cache cache_now (record { values = values; spans = fetched.spans })
  loads-are file values h answers none slices is_values =
      let all = ready answers none in
      record {
        fetched = fetched;
        drives = drives-are h;
        spans = refl;
        values = is_values;
        one_each = ap length is_values ∙ values-length f.metadata fetched.replies all.0 all.1;
        true_of = λ t. is_values ∙ values-true file f.segments (length f.segments) f.metadata fetched.replies refl all.0 all.1
            (subst (λ table. HaveSlices file table (metadata_ids f) fetched.replies) is (subst (λ xs. HaveSlices file w.table xs fetched.replies) ids_is (slices t)));
      }

  -- the first failure refuses the file
  pub load-fails : (file : List ℕ) (before now : ReaderState) (c : FailCause) → Fetches w [] cache cache_now ids fetched k → first_failed fetched.replies ≡ Some c → Grew (asked_by fetched.spans) before.log now.log
      → Rises (bad_spans fetched.spans) before.faults now.faults → LoadCause w file f before now cache cache_now (Err (failure_as c))
  load-fails file before now (cause.Fault fault) h first log bad = record { fetched = fetched; drives = drives-are h; first = first; asks = record { log = log; rises = bad } }
  load-fails file before now cause.Cache h first log bad = record { fetched = fetched; drives = drives-are h; first = first; asks = record { log = log; rises = bad } }

  -- memory ran out behind the fetch
  pub load-stops-behind : (before now : ReaderState) → Fetches w [] cache cache_now ids fetched k → Grew (asked_by fetched.spans) before.log now.log → Rises (bad_spans fetched.spans) before.faults now.faults → StopsLoading w f before now cache cache_now
  load-stops-behind before now h log bad = inr (inr (record { fetched = fetched; drives = drives-are h; asks = record { log = log; rises = bad } }))

pub load-rose : (table : List SegmentSpec) (ids : List SegmentId) (cache cache_now : CacheState) (fetched : Fetched) (before now : ReaderState) (c : FailCause) → AreAnswers table fetched.spans ids fetched.replies → first_failed fetched.replies ≡ Some c
    → Rises (bad_spans fetched.spans) before.faults now.faults → Rises (cache_failures fetched.replies) cache.faults cache_now.faults → (let answer : Result Loaded ServeError = Err (failure_as c) in FaultRose before now cache cache_now answer)
load-rose table ids cache cache_now fetched before now (cause.Fault fault) answers first bad failures = rises-fewer (bad_spans fetched.spans) 1 before.faults now.faults now.faults bad (failed-fault table fetched.spans ids fetched.replies fault answers first) (omega arith)
load-rose table ids cache cache_now fetched before now cause.Cache answers first bad failures = rises-fewer (cache_failures fetched.replies) 1 cache.faults cache_now.faults cache_now.faults failures (failed-cache fetched.replies first) (omega arith)

-- memory ran out in the fetch
pub load-stops : (w : World) (f : FooterContent) (ids : List SegmentId) → ids ≡ metadata_ids f → (cache cache_now : CacheState) (k : Kept) (before now : ReaderState) → StopsFetch w [] before.log now.log cache cache_now ids k
    → StopsLoading w f before now cache cache_now
load-stops w f ids ids_is cache cache_now k before now h = inr (inl (record { kept = k; stops = subst (λ xs. StopsFetch w [] before.log now.log cache cache_now xs k) ids_is h }))
