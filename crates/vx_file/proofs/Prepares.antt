-- A file is prepared: it is opened, the covered segments are put into the cache, and the metadata is loaded.
use Rattle.std.proofs.Common.{◌≡◌, ℕ, ◌+◌, Bool, List, [], ◌∷◌, ◌++◌, map, Option, Some, None, Result, Ok, Err, refl, sym, ap, subst, ◌∙◌, arith, inl, inr}
use Rattle.std.specs.Result.{is_ok}
use Rattle.std.proofs.lemmas.List.{append-nil}
use Rattle.vx_base.specs.Asking.{ranges_of}
use Rattle.vx_base.specs.Caches.{CacheState}
use Rattle.vx_base.specs.Counts.{Rises}
use Rattle.vx_base.specs.Readers.{ReaderState, ReaderSettings, SameReader, settings_of}
use Rattle.vx_base.specs.declared.segment_cache.CacheError.{CacheError}
use Rattle.vx_base.specs.declared.segment_cache.CacheError.TheVariants as cache_error
use Rattle.vx_base.specs.declared.segment.SegmentSpec.{SegmentSpec}
use Rattle.vx_footer.specs.Footers.{FooterContent, segment_table}
use Rattle.vx_source.specs.Asks.{Grew, asked_by, bad_spans}
use Rattle.vx_source.specs.Bytes.{HasBytes, TellsSlices, IsEnd}
use Rattle.vx_source.specs.Fits.{World}
use Rattle.vx_source.specs.Kept.{Kept, tail_start}
use Rattle.vx_source.specs.Puts.{Gains}
use Rattle.vx_source.specs.Stands.{Stands}
use Rattle.vx_source.specs.declared.fetching.Fetched.{Fetched}
use Rattle.vx_source.specs.declared.tail.Tail.{Tail}
use Rattle.vx_source.proofs.BytesLemmas.{gained-slices}
use Rattle.vx_source.proofs.DriveLemmas.{grew-then, rises-then}
use Rattle.vx_source.proofs.PutLemmas.{gains-then}
use Rattle.vx_file.specs.declared.metadata.Loaded.{Loaded}
use Rattle.vx_file.specs.declared.opened.Opened.{Opened}
use Rattle.vx_file.specs.declared.prepared.Prepared.{Prepared}
use Rattle.vx_file.specs.declared.served.ServeError.{ServeError}
use Rattle.vx_file.specs.declared.served.ServeError.TheVariants.{Open, Fault as FaultOf, CacheFault, OutOfMemory}
use Rattle.vx_file.specs.Covered.{covered_from}
use Rattle.vx_file.specs.Loading.{Drives, AsksSpans, LoadIfCause, LoadCause, StopsLoading, put_numbers, range_of, spans_of, values_in}
use Rattle.vx_file.specs.Opened.{OpensBy, OpenCause}
use Rattle.vx_file.specs.Plans.{Plan, table_world, world_of, covered_by}
use Rattle.vx_file.specs.Prepared.{PreparedFrom, PrepareCause}
use Rattle.vx_file.specs.Ranges.{opening_range, opened}
use Rattle.vx_file.specs.Serving.{OpeningRose, FaultRose, LoadsIf, put_error, StopsOpening, StopsMetadata}
use Rattle.vx_file.proofs.Covering.{covered-slices}
use Rattle.vx_file.proofs.Serves.{Put, tail-start, tail-end}

-- ---- a session over the tail of a file

pub begins : (segments table : List SegmentSpec) (settings : ReaderSettings) (own tail : Option Tail) (k : Kept) → segments ≡ table → own ≡ tail → Stands (table_world segments settings (tail_start own)) [] k
    → Stands (table_world table settings (tail_start tail)) [] k
begins segments table settings own tail k same is stands =
    subst (λ t. Stands (table_world table settings (tail_start t)) [] k) is (subst (λ ts. Stands (table_world ts settings (tail_start own)) [] k) same stands)

pub begins-bytes : (own tail : Option Tail) (k : Kept) (file : List ℕ) → own ≡ tail → ((file : List ℕ) → IsEnd file own → HasBytes file k) → IsEnd file tail → HasBytes file k
begins-bytes own tail k file is bytes end = subst (λ t. IsEnd file t → HasBytes file k) is (bytes file) end

-- ---- the tail

from-slices : (file : List ℕ) (start : Option ℕ) (table : List SegmentSpec) (before now : CacheState) → Gains (covered_from file start table) before now → TellsSlices file table before → TellsSlices file table now
from-slices file None table before now gains t = gained-slices file table [] before now gains (λ q b h spec found. absurd h) t
from-slices file (Some from) table before now gains t = covered-slices file from table before now gains t

-- ---- the parts, one after another

pub same-settings : (a b : ReaderState) → SameReader a b → settings_of b ≡ settings_of a
same-settings a b h =
    ap (λ d. let s : ReaderSettings = record { distance = d; max_read_size = b.max_read_size; concurrency = b.concurrency } in s) h.distance
    ∙ ap (λ m. let s : ReaderSettings = record { distance = a.distance; max_read_size = m; concurrency = b.concurrency } in s) h.max_read_size
    ∙ ap (λ c. let s : ReaderSettings = record { distance = a.distance; max_read_size = a.max_read_size; concurrency = c } in s) h.concurrency

ranges_opened : (ranges : List (ℕ × ℕ)) → map opening_range ranges ≡ ranges_of (opened ranges)
ranges_opened [] = refl
ranges_opened (r ∷ rs) = ap (λ xs. opening_range r ∷ xs) (ranges_opened rs)

-- opening was refused
pub opening-refused : (plan : Plan) (include : Bool) (file : List ℕ) (start mid : ReaderState) (cache : CacheState) (e : ServeError) → OpenCause plan file start mid (Err e) → PrepareCause plan include file start mid cache cache (Err e)
opening-refused plan include file start mid cache (Open e) h = h
opening-refused plan include file start mid cache (FaultOf fault) h = elim h [ inl size ↦ inl size | inr range ↦ inr (inl range) ]
opening-refused plan include file start mid cache CacheFault h = absurd h
opening-refused plan include file start mid cache OutOfMemory h = inl h

pub opening-rose : (e : ServeError) (before now : ReaderState) (cache : CacheState) → (let answer : Result Opened ServeError = Err e in OpeningRose before now answer)
    → (let answer : Result Prepared ServeError = Err e in FaultRose before now cache cache answer)
opening-rose (Open e) before now cache h = tt
opening-rose (FaultOf fault) before now cache h = h
opening-rose CacheFault before now cache h = absurd h
opening-rose OutOfMemory before now cache h = tt

-- a drive for the metadata puts the reads of its good spans
drives-put : (w : World) (footer : FooterContent) (cache cache_now : CacheState) (fetched : Fetched) (d : Drives w footer cache cache_now fetched) → Put (put_numbers w footer cache cache_now fetched d) cache cache_now
drives-put w footer cache cache_now fetched d = record { driven = d.fetches.puts.puts; are = d.fetches.puts.segments; gains = d.fetches.puts.gains }

-- a file was opened by a plan, and its covered segments were put into the cache
module _ (plan : Plan) (include : Bool) (file : List ℕ) (start mid : ReaderState) (o : Opened) (h : OpensBy plan file start mid o) where
  -- memory ran out behind the opening ranges
  pub opening-stops : StopsOpening plan start mid
  opening-stops = record {
    gained = opened plan.ranges;
    rest = [];
    ranges = ranges_opened plan.ranges ∙ sym (append-nil (ranges_of (opened plan.ranges)));
    grew = h.asked;
  }

  -- a put of a covered segment was refused
  pub put-refused : (cache cache_now : CacheState) (e : CacheError) → PrepareCause plan include file start mid cache cache_now (Err (put_error e))
  put-refused cache cache_now cache_error.Failed = inl (record { grammar = ap is_ok h.footer; asked = h.asked })
  put-refused cache cache_now cache_error.OutOfMemory = inl opening-stops

  pub ends-there : IsEnd file o.tail
  ends-there = tail-end file plan.start o.tail h.tail

  module _ (segments : List SegmentSpec) (same : segments ≡ segment_table o.footer.content) (settings : settings_of mid ≡ settings_of start) (cache filled : CacheState)
      (gains : (file : List ℕ) → IsEnd file o.tail → Gains (covered_from file (tail_start o.tail) segments) cache filled) where
    -- the covered segments were put into the cache
    fills : Gains (covered_by plan file o.footer.content) cache filled
    fills =
        subst (λ s. Gains (covered_from file s (segment_table o.footer.content)) cache filled) (tail-start file plan.start o.tail h.tail)
        (subst (λ t. Gains (covered_from file (tail_start o.tail) t) cache filled) same (gains file ends-there))

    filled-slices : TellsSlices file (segment_table o.footer.content) cache → TellsSlices file (segment_table o.footer.content) filled
    filled-slices t = from-slices file plan.start (segment_table o.footer.content) cache filled fills t

    abbrev own_world : World
    own_world = world_of plan o.footer.content (settings_of start)

    is-world : table_world (segment_table o.footer.content) (settings_of mid) (tail_start o.tail) ≡ own_world
    is-world = ap (λ s. table_world (segment_table o.footer.content) s (tail_start o.tail)) settings ∙ ap (λ t. table_world (segment_table o.footer.content) (settings_of start) t) (tail-start file plan.start o.tail h.tail)

    module _ (now : ReaderState) (cache_now : CacheState) where
      stops-with : StopsLoading own_world o.footer.content mid now filled cache_now → StopsMetadata plan start now cache_now
      stops-with s = record { footer = o.footer.content; grammar = h.footer; between = mid; asked = h.asked; filled = filled; stops = s }

      -- the metadata was not loaded
      load-refused-in : (e : ServeError) → (let answer : Result Loaded ServeError = Err e in LoadCause own_world file o.footer.content mid now filled cache_now answer) → PrepareCause plan include file start now cache cache_now (Err e)
      load-refused-in (Open e) c = absurd c
      load-refused-in (FaultOf fault) c = inr (inr (record { footer = o.footer.content; grammar = h.footer; between = mid; asked = h.asked; filled = filled; fails = c }))
      load-refused-in CacheFault c = inr (record { footer = o.footer.content; grammar = h.footer; between = mid; asked = h.asked; filled = filled; fails = c })
      load-refused-in OutOfMemory c = inr (stops-with c)

      pub load-refused : (e : ServeError) → (let answer : Result (Option Loaded) ServeError = Err e in LoadIfCause include (table_world (segment_table o.footer.content) (settings_of mid) (tail_start o.tail)) file o.footer.content mid now filled cache_now answer)
          → PrepareCause plan include file start now cache cache_now (Err e)
      load-refused e c = load-refused-in e (subst (λ w. (let answer : Result Loaded ServeError = Err e in LoadCause w file o.footer.content mid now filled cache_now answer)) is-world c)

      module _ (keeps : TellsSlices file (segment_table o.footer.content) filled → TellsSlices file (segment_table o.footer.content) cache_now) where
        prepared-in : (loaded : Option Loaded) → LoadIfCause include own_world file o.footer.content mid now filled cache_now (Ok loaded)
            → PreparedFrom plan include file start now cache cache_now (record { footer = o.footer; tail = o.tail; opening = o.ranges ++ map range_of (spans_of loaded); metadata = values_in loaded })
        prepared-in None c =
            let quiet : Grew (opened plan.ranges ++ []) start.log now.log = subst (λ (r : ReaderState). Grew (opened plan.ranges ++ []) start.log r.log) (sym c.reader) (subst (λ l. Grew l start.log mid.log) (sym (append-nil (opened plan.ranges))) h.asked) in
            record {
              prepares = record {
                footer_is = h.footer;
                spans = [];
                opening_is = ap (λ rs. rs ++ []) h.ranges;
                filled = filled;
                fills = fills;
                numbers = [];
                loads = subst (λ b. LoadsIf b own_world file o.footer.content filled cache_now None [] []) (sym c.not_included) (refl, refl, refl, c.cache_is);
                true_of = λ t. tt;
              };
              tail = h.tail;
              asked = quiet;
              bad = subst (λ (r : ReaderState). Rises 0 start.faults r.faults) (sym c.reader) h.rises;
              driven = [];
              numbers = refl;
              gains = subst (λ puts. Gains puts cache cache_now) (sym (append-nil (covered_by plan file o.footer.content))) (subst (Gains (covered_by plan file o.footer.content) cache) (sym c.cache_is) fills);
              slices = λ t. keeps (filled-slices t);
              ready = stops-with (inl (ap (λ (r : ReaderState). r.log) c.reader));
            }
        prepared-in (Some l) c =
            let loads = c.1 in
            let put = drives-put own_world o.footer.content filled cache_now loads.fetched loads.drives in
            record {
              prepares = record {
                footer_is = h.footer;
                spans = l.spans;
                opening_is = ap (λ rs. rs ++ map range_of l.spans) h.ranges;
                filled = filled;
                fills = fills;
                numbers = put_numbers own_world o.footer.content filled cache_now loads.fetched loads.drives;
                loads = subst (λ b. LoadsIf b own_world file o.footer.content filled cache_now (Some l.values) l.spans (put_numbers own_world o.footer.content filled cache_now loads.fetched loads.drives)) (sym c.0)
                    (record { loaded = l; loads = loads; values = refl; spans_are = refl; numbers_are = refl });
                true_of = λ t. loads.true_of (filled-slices t);
              };
              tail = h.tail;
              asked = grew-then (opened plan.ranges) (asked_by l.spans) start.log mid.log now.log h.asked c.2.log;
              bad = subst (λ n. Rises n start.faults now.faults) (let same : 0 + bad_spans l.spans ≡ bad_spans l.spans = omega arith in same)
                  (rises-then 0 (bad_spans l.spans) start.faults mid.faults now.faults h.rises c.2.rises);
              driven = put.driven;
              numbers = put.are;
              gains = gains-then (covered_by plan file o.footer.content) put.driven cache filled cache_now fills put.gains;
              slices = λ t. keeps (filled-slices t);
              ready = stops-with (inr (inr (record { fetched = loads.fetched; drives = loads.drives; asks = subst (λ ss. AsksSpans ss mid now) loads.spans c.2 })));
            }

        pub prepared-is : (loaded : Option Loaded) → LoadIfCause include (table_world (segment_table o.footer.content) (settings_of mid) (tail_start o.tail)) file o.footer.content mid now filled cache_now (Ok loaded)
            → PreparedFrom plan include file start now cache cache_now (record { footer = o.footer; tail = o.tail; opening = o.ranges ++ map range_of (spans_of loaded); metadata = values_in loaded })
        prepared-is loaded c = prepared-in loaded (subst (λ w. LoadIfCause include w file o.footer.content mid now filled cache_now (Ok loaded)) is-world c)
