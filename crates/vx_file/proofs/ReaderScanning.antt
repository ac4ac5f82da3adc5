-- Scans of files by their readers.
use Rattle.std.proofs.Common.{◌≡◌, ℕ, ◌<◌, ◌≤◌, Bool, true, false, List, [], ◌∷◌, ◌++◌, length, Option, Some, None, Result, Ok, Err, refl, sym, ap, ◌∙◌, subst, arith, inl, inr}
use Rattle.std.specs.Prelude.{is_some, IfOk}
use Rattle.std.specs.List.{AllByRecursion}
use Rattle.std.specs.Option.{option_map, option_and_then}
use Rattle.std.specs.Result.{result_ok}
use Rattle.std.proofs.lemmas.List.{append-nil}
use Rattle.std.proofs.lemmas.Option.{slice_get-get_or, slice_get_past}
use Rattle.vx_base.specs.Buffer.{bytes_at}
use Rattle.vx_base.specs.Caches.{CacheState, nothing_held}
use Rattle.vx_base.specs.Readers.{ReaderState}
use Rattle.vx_base.specs.declared.segment.SegmentId.{SegmentId}
use Rattle.vx_base.specs.declared.segment.SegmentSpec.{SegmentSpec}
use Rattle.vx_data.specs.Layout.{dtype_of as type_of_tree}
use Rattle.vx_footer.specs.Footers.{FooterContent, segment_table}
use Rattle.vx_rows.specs.declared.array_error.ArrayError.{ArrayError}
use Rattle.vx_rows.specs.declared.array_error.ArrayError.TheVariants as array_error
use Rattle.vx_rows.specs.declared.column.Column.{Column}
use Rattle.vx_rows.specs.LayoutRows.{rows_of}
use Rattle.vx_rows.specs.Predicates.{Pred}
use Rattle.vx_rows.specs.Rows.{Rows, column_view}
use Rattle.vx_rows.specs.Trees.{array}
use Rattle.vx_source.specs.Asks.{Grew, asked_by}
use Rattle.vx_source.specs.Bytes.{HasBytes, TellsSlices}
use Rattle.vx_source.specs.Fits.{World}
use Rattle.vx_source.specs.Kept.{Kept}
use Rattle.vx_source.specs.Sources.{SourceState, AreOfFile}
use Rattle.vx_source.specs.declared.segment_source.SourceError.TheVariants as source_error
use Rattle.vx_source.specs.declared.span.Span.{Span}
use Rattle.vx_file.specs.declared.metadata.MetadataValue.{MetadataValue}
use Rattle.vx_file.specs.declared.prepared.Prepared.{Prepared}
use Rattle.vx_file.specs.declared.reader_scanning.ScanReaderError.{ScanReaderError}
use Rattle.vx_file.specs.declared.reader_scanning.ScanReaderError.TheVariants as errors
use Rattle.vx_file.specs.declared.scan_error.ScanError.{ScanError}
use Rattle.vx_file.specs.declared.scan_error.ScanError.TheVariants.{Segment, BadArray, UnknownEncoding, OutOfMemory}
use Rattle.vx_file.specs.declared.served.ServeError.{ServeError}
use Rattle.vx_file.specs.declared.served.ServeError.TheVariants as serve_error
use Rattle.vx_file.specs.Plans.{Plan}
use Rattle.vx_file.specs.Prepared.{PreparedFrom, PrepareCause}
use Rattle.vx_file.specs.Ranges.{opened}
use Rattle.vx_file.specs.ReaderScans.{filter_on, rows_in, scan_of, scan_by, source_by, IsScanOf, HasScan, StopsAt, IsMissing, IsUndecoded, IsThere, IsTold, AreTold, IsOfSession, IsOpening, OpensThen, ScanCause, ScansBy, ScanRose}
use Rattle.vx_file.specs.Scanned.{Filter, is_skipped, matching, IsScanned, ScanStopped}
use Rattle.vx_file.specs.Scans.{FlatLayout, Segments, flats_of, bytes_in, CanBeRead, FailsAt, FirstFails, SourceFails}
use Rattle.vx_file.specs.Serving.{LoadsIf}
use Rattle.vx_file.proofs.ReadingLemmas.{all_read, first_map}

-- ---- a flat layout that cannot be read

none-fails : (R F : FlatLayout → Type 0) (fs : List FlatLayout) → ((g : FlatLayout) → F g → R g → ⊥) → AllByRecursion R fs → FirstFails R F fs → ⊥
none-fails R F [] unread all h = h
none-fails R F (g ∷ gs) unread all (inl fails) = unread g fails all.0
none-fails R F (g ∷ gs) unread all (inr r) = none-fails R F gs unread all.1 r.1

module _ (bytes : Segments) (ids : List (List ℕ)) (g : FlatLayout) where
  missing-in : (o : Option (List ℕ)) → o ≡ None → is_some (option_and_then (λ b. result_ok (array ids g.dtype g.rows b)) o) ≡ true → ⊥
  missing-in None none h = cc
  missing-in (Some b) none h = cc

  undecoded-in : (e : ArrayError) (o : Option (List ℕ)) → option_map (array ids g.dtype g.rows) o ≡ Some (Err e) → is_some (option_and_then (λ b. result_ok (array ids g.dtype g.rows b)) o) ≡ true → ⊥
  undecoded-in e None is h = cc
  undecoded-in e (Some b) is h = let same : array ids g.dtype g.rows b ≡ Err e = cc in let none = ap (λ r. is_some (result_ok r)) same in none-is (sym h ∙ none)
    where
      none-is : true ≡ false → ⊥
      none-is e = cc

pub missing_unread : (id : SegmentId) (bytes : Segments) (ids : List (List ℕ)) (g : FlatLayout) → IsMissing id bytes ids g → CanBeRead bytes ids g → ⊥
missing_unread id bytes ids g h read = missing-in bytes ids g (bytes g.segment) h.1 read

pub undecoded_unread : (e : ArrayError) (id : SegmentId) (bytes : Segments) (ids : List (List ℕ)) (g : FlatLayout) → IsUndecoded e id bytes ids g → CanBeRead bytes ids g → ⊥
undecoded_unread e id bytes ids g h read = undecoded-in bytes ids g e (bytes g.segment) h.1 read

-- ---- a file that has no scan

no-rows : (o : Option Rows) → ((c : Rows) → o ≡ Some c → ⊥) → o ≡ None
no-rows None none = refl
no-rows (Some c) none = absurd (none c refl)

pub stopped_none : (file : List ℕ) (p : Option Pred) (f : FooterContent) (Fails : Segments → List (List ℕ) → FlatLayout → Type 0)
    → ((bytes : Segments) (ids : List (List ℕ)) (g : FlatLayout) → Fails bytes ids g → CanBeRead bytes ids g → ⊥) → (h : StopsAt file p f Fails) → scan_of h.chosen file f ≡ None
stopped_none file p f Fails unread h =
    let bytes = bytes_in file (segment_table f) in
    let none : rows_in file f ≡ None = no-rows (rows_in file f) (λ c e. none-fails (CanBeRead bytes f.array_ids) (Fails bytes f.array_ids) (flats_of f.layout) (unread bytes f.array_ids)
    (all_read bytes f.array_ids f.layout c e) h.first) in
    ap (λ skipped. scan_by skipped h.chosen file f) h.read ∙ ap (option_map (matching h.chosen)) none

-- ---- what a session's scan tells

-- of a session over a cache that holds nothing, no segment passes the end and no cache fails
pub of_session : (table : List SegmentSpec) (before now : ReaderState) (e : ScanError) → SourceFails (source_by table before) (source_by table now) e → IsOfSession e
of_session table before now (Segment id source_error.MissingSegment) h = tt
of_session table before now (Segment id source_error.PastEnd) h = let wrong = (h.1.passes refl).0 in cc
of_session table before now (Segment id (source_error.Fault fault)) h = tt
of_session table before now (Segment id source_error.CacheFault) h = let risen = (h.1.cache refl).0.risen in omega (arith, risen)
of_session table before now (Segment id source_error.OutOfMemory) h = h.0 refl
of_session table before now (BadArray id) h = tt
of_session table before now (UnknownEncoding id) h = tt
of_session table before now OutOfMemory h = tt

module _ (before now : ReaderState) where
  is-rose : (told told' : ScanReaderError) → told ≡ told' → ScanRose before now (Err told') → ScanRose before now (Err told)
  is-rose told told' same h = subst (λ t. ScanRose before now (Err t)) (sym same) h

  rose-by : (table : List SegmentSpec) (e : ScanError) (told : ScanReaderError) → SourceFails (source_by table before) (source_by table now) e → IsTold e told → ScanRose before now (Err told)
  rose-by table (Segment id source_error.MissingSegment) told h t = is-rose told (errors.MissingSegment id) t tt
  rose-by table (Segment id source_error.PastEnd) told h t = absurd t
  rose-by table (Segment id (source_error.Fault fault)) told h t = is-rose told (errors.Read fault) t (h.1.fault fault refl).0
  rose-by table (Segment id source_error.CacheFault) told h t = absurd t
  rose-by table (Segment id source_error.OutOfMemory) told h t = absurd t
  rose-by table (BadArray id) told h t = is-rose told (errors.BadArray id) t tt
  rose-by table (UnknownEncoding id) told h t = is-rose told (errors.UnknownEncoding id) t tt
  rose-by table OutOfMemory told h t = is-rose told errors.OutOfMemory t tt

  pub told_rose : (table : List SegmentSpec) (rows : Result Column ScanError) (told : Result Column ScanReaderError) → ((e : ScanError) → rows ≡ Err e → SourceFails (source_by table before) (source_by table now) e)
      → AreTold rows told → ScanRose before now told
  told_rose table (Ok c) (Ok d) h t = tt
  told_rose table (Ok c) (Err told) h t = absurd t
  told_rose table (Err e) (Ok d) h t = absurd t
  told_rose table (Err e) (Err told) h t = rose-by table e told (h e refl) t

not-true : (b : Bool) → (b ≡ true → ⊥) → b ≡ false
not-true true never = absurd (never refl)
not-true false never = refl

-- ---- where a segment stands in the file

missing-bytes : (file : List ℕ) (table : List SegmentSpec) (s : ℕ) → length table ≤ s → bytes_in file table s ≡ None
missing-bytes file table s past = ap (option_map (λ (p : SegmentSpec). bytes_at file p.offset p.length)) (slice_get_past table s past)

no-spec : SegmentSpec
no-spec = record { offset = 0; length = 0; alignment = 0 }

there-bytes : (file : List ℕ) (table : List SegmentSpec) (s : ℕ) → s < length table → is_some (bytes_in file table s) ≡ true
there-bytes file table s inside = ap (λ o. is_some (option_map (λ (p : SegmentSpec). bytes_at file p.offset p.length) o)) (slice_get-get_or table s no-spec inside)

-- ---- what is told of a file

module _ (file : List ℕ) (p : Option Pred) (f : FooterContent) (chosen : Option Filter) (binds : filter_on p (type_of_tree f.layout) ≡ Ok chosen) (before now : ReaderState)
    (serves : List ℕ → Type 0) (served : serves file) where
  abbrev bytes : Segments
  bytes = bytes_in file (segment_table f)

  rows-of : (source : SourceState) (c : Rows) → source.table ≡ segment_table f → IsScanned serves source f chosen c → (skipped : Bool) → is_skipped chosen f ≡ skipped → scan_by skipped chosen file f ≡ Some c
  rows-of source c same s true e = ap Some (sym (s.skipped e))
  rows-of source c same s false e =
      let r = s.read e file served in
      ap (option_map (matching chosen)) (subst (λ t. rows_of (bytes_in file t) f.array_ids f.layout ≡ Some r.0) same r.1) ∙ ap Some (sym r.2)

  abbrev scan-is : (source : SourceState) (c : Rows) → source.table ≡ segment_table f → IsScanned serves source f chosen c → IsScanOf file p f c
  scan-is source c same s = record {
    chosen = chosen;
    binds = binds;
    rows = rows-of source c same s (is_skipped chosen f) refl;
    matches = λ b e all reads tells. s.matches b e file all served (subst (λ t. rows_of (bytes_in file t) f.array_ids f.layout ≡ Some all) (sym same) reads) tells;
    typed = s.typed;
  }

  module _ (table : List SegmentSpec) (same : table ≡ segment_table f) where
    abbrev start : SourceState
    start = source_by table before

    abbrev end : SourceState
    end = source_by table now

    -- the first flat layout that fails does so
    stops : (e : ScanError) (Fails : Segments → List (List ℕ) → FlatLayout → Type 0) → ScanStopped serves start end f chosen e → (e ≡ OutOfMemory → ⊥)
        → FirstFails (CanBeRead (bytes_in file table) f.array_ids) (Fails (bytes_in file table) f.array_ids) (flats_of f.layout) → StopsAt file p f Fails
    stops e Fails s other first = record {
      chosen = chosen;
      binds = binds;
      read = not-true (is_skipped chosen f) (λ skipped. other (s.skipped skipped));
      first = subst (λ t. FirstFails (CanBeRead (bytes_in file t) f.array_ids) (Fails (bytes_in file t) f.array_ids) (flats_of f.layout)) same first;
    }

    is-cause : (told told' : ScanReaderError) → told ≡ told' → ScanCause file p f before now (Err told') → ScanCause file p f before now (Err told)
    is-cause told told' eq h = subst (λ t. ScanCause file p f before now (Err t)) (sym eq) h

    cause-of : (e : ScanError) (told : ScanReaderError) → ScanStopped serves start end f chosen e → IsTold e told → ScanCause file p f before now (Err told)
    cause-of (Segment id source_error.MissingSegment) told s t = is-cause told (errors.MissingSegment id) t
        (stops (Segment id source_error.MissingSegment) (IsMissing id) s (λ e. cc)
        (first_map (CanBeRead (bytes_in file table) f.array_ids) (FailsAt (bytes_in file table) f.array_ids start end (Segment id source_error.MissingSegment)) (IsMissing id (bytes_in file table) f.array_ids) (flats_of f.layout)
        (λ g x. (x.0, missing-bytes file table g.segment (x.2.missing refl))) (s.first file served)))
    cause-of (Segment id source_error.PastEnd) told s t = absurd t
    cause-of (Segment id (source_error.Fault fault)) told s t = is-cause told (errors.Read fault) t
        (stops (Segment id (source_error.Fault fault)) IsThere s (λ e. cc)
        (first_map (CanBeRead (bytes_in file table) f.array_ids) (FailsAt (bytes_in file table) f.array_ids start end (Segment id (source_error.Fault fault))) (IsThere (bytes_in file table) f.array_ids) (flats_of f.layout)
        (λ g x. there-bytes file table g.segment (x.2.fault fault refl).1) (s.first file served)))
    cause-of (Segment id source_error.CacheFault) told s t = absurd t
    cause-of (Segment id source_error.OutOfMemory) told s t = absurd t
    cause-of (BadArray id) told s t = is-cause told (errors.BadArray id) t (stops (BadArray id) (IsUndecoded array_error.BadArray id) s (λ e. cc) (s.first file served))
    cause-of (UnknownEncoding id) told s t = is-cause told (errors.UnknownEncoding id) t (stops (UnknownEncoding id) (IsUndecoded array_error.UnknownEncoding id) s (λ e. cc) (s.first file served))
    cause-of OutOfMemory told s t = is-cause told errors.OutOfMemory t tt

    pub told_scan : (rows : Result Column ScanError) (told : Result Column ScanReaderError) → IfOk rows (λ c. IsScanned serves start f chosen (column_view c))
        → ((e : ScanError) → rows ≡ Err e → ScanStopped serves start end f chosen e) → (is_skipped chosen f ≡ true → now ≡ before) → AreTold rows told → ScanCause file p f before now told
    told_scan (Ok c) (Ok d) ok err unread t = subst (λ x. HasScan file p f before now x) (sym t) (record { is = scan-is start (column_view c) same ok; unread = unread })
    told_scan (Ok c) (Err told) ok err unread t = absurd t
    told_scan (Err e) (Ok d) ok err unread t = absurd t
    told_scan (Err e) (Err told) ok err unread t = cause-of e told (err e refl) t

-- ---- a session over a cache that holds nothing

nothing-tells : (file : List ℕ) (table : List SegmentSpec) → TellsSlices file table nothing_held
nothing-tells file table = record { entries = []; told = refl; slices = λ s buffer e. absurd cc }

pub of_file : (file : List ℕ) (k : Kept) (reader : ReaderState) → reader.bytes ≡ Some file → HasBytes file k → AreOfFile k reader nothing_held file
of_file file k reader told bytes = ∣ record { told = told; bytes = bytes; slices = nothing-tells file k.table } ∣₁

-- ---- from opening on

no-spans : (include : Bool) (w : World) (file : List ℕ) (f : FooterContent) (cache cache_now : CacheState) (metadata : Option (List MetadataValue)) (spans : List Span) (numbers : List ℕ)
    → include ≡ false → LoadsIf include w file f cache cache_now metadata spans numbers → spans ≡ []
no-spans false w file f cache cache_now metadata spans numbers e h = h.1
no-spans true w file f cache cache_now metadata spans numbers e h = absurd (let wrong : true ≡ false = e in cc)

module _ (plan : Plan) (include : Bool) (file : List ℕ) (p : Option Pred) (start : ReaderState) where
  module _ (mid now : ReaderState) (cache_now : CacheState) (prepared : Prepared) (h : PreparedFrom plan include file start mid nothing_held cache_now prepared) where
    opens-then : (Then : FooterContent → ReaderState → Type 0) → Then prepared.footer.content mid → OpensThen plan include start Then
    opens-then Then t = record {
      footer = prepared.footer.content;
      grammar = h.prepares.footer_is;
      between = mid;
      asked = λ none.
          let spans = no-spans include _ file prepared.footer.content h.prepares.filled cache_now prepared.metadata h.prepares.spans h.prepares.numbers none h.prepares.loads in
          subst (λ log. Grew log start.log mid.log) (append-nil (opened plan.ranges)) (subst (λ (ss : List Span). Grew (opened plan.ranges ++ asked_by ss) start.log mid.log) spans h.asked);
      then = t;
    }

    pub scans_opened : (answer : Result Column ScanReaderError) → ScanCause file p prepared.footer.content mid now answer → ScansBy plan include file p start now answer
    scans_opened (Ok c) s = opens-then (λ f between. ScanCause file p f between now (Ok c)) s
    scans_opened (Err (errors.Open e)) s = absurd s
    scans_opened (Err (errors.Read fault)) s = inr (inr (inr (opens-then (λ f between. StopsAt file p f IsThere) s)))
    scans_opened (Err (errors.Unbound e)) s = opens-then (λ f between. ScanCause file p f between now (Err (errors.Unbound e))) s
    scans_opened (Err (errors.MissingSegment id)) s = opens-then (λ f between. ScanCause file p f between now (Err (errors.MissingSegment id))) s
    scans_opened (Err (errors.BadArray id)) s = opens-then (λ f between. ScanCause file p f between now (Err (errors.BadArray id))) s
    scans_opened (Err (errors.UnknownEncoding id)) s = opens-then (λ f between. ScanCause file p f between now (Err (errors.UnknownEncoding id))) s
    scans_opened (Err errors.OutOfMemory) s = tt

  -- the file was not opened
  pub scans_unopened : (now : ReaderState) (e : ServeError) (told : ScanReaderError) → IsOpening e told → PrepareCause plan include file start now nothing_held nothing_held (Err e)
      → ScansBy plan include file p start now (Err told)
  scans_unopened now (serve_error.Open e) told t h = subst (λ x. ScansBy plan include file p start now (Err x)) (sym t) h
  scans_unopened now (serve_error.Fault fault) told t h =
      subst (λ x. ScansBy plan include file p start now (Err x)) (sym t) (elim h [ inl size ↦ inl size | inr (inl tail) ↦ inr (inl tail) | inr (inr metadata) ↦ inr (inr (inl metadata)) ])
  scans_unopened now serve_error.CacheFault told t h = absurd t
  scans_unopened now serve_error.OutOfMemory told t h = subst (λ x. ScansBy plan include file p start now (Err x)) (sym t) tt
