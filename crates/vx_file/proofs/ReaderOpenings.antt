-- A prepared file is an opened one: its session, its reader and its cache are the source of its segments.
use Rattle.std.proofs.Common.{◌≡◌, ℕ, ◌≤◌, Bool, List, [], Option, Some, sym, ap, subst, arith, inr}
use Rattle.vx_base.specs.Caches.{CacheState}
use Rattle.vx_base.specs.Readers.{ReaderState, ReaderSettings, SameReader, settings_of}
use Rattle.vx_base.specs.declared.segment.SegmentSpec.{SegmentSpec}
use Rattle.vx_footer.specs.Footers.{FooterContent, segment_table}
use Rattle.vx_source.specs.Bytes.{HasBytes, IsEnd, TellsSlices}
use Rattle.vx_source.specs.Kept.{Kept, tail_start}
use Rattle.vx_source.specs.Sources.{HasHistory}
use Rattle.vx_source.specs.Stands.{Stands}
use Rattle.vx_file.specs.declared.metadata.MetadataValue.{MetadataValue}
use Rattle.vx_file.specs.declared.prepared.Prepared.{Prepared}
use Rattle.vx_file.specs.declared.served.ServeError.TheVariants.{OutOfMemory}
use Rattle.vx_file.specs.OpenRead.{OpensRead, NotOpened}
use Rattle.vx_file.specs.Plans.{Plan, table_world}
use Rattle.vx_file.specs.Prepared.{PreparedFrom}
use Rattle.vx_file.proofs.Prepares.{same-settings}
use Rattle.vx_file.proofs.Serves.{own-world, own-bytes}

-- a session asks as many ranges in one call as its reader may be asked
pub own_concurrency : (table : List SegmentSpec) (settings : ReaderSettings) (start : Option ℕ) (k : Kept) → Stands (table_world table settings start) [] k → k.idle.concurrency ≤ settings.concurrency
own_concurrency table settings start k stands =
    let same : k.idle.concurrency ≡ settings.concurrency = ap (λ s. s.concurrency) stands.idle in
    omega (arith, same)

pub own_history : (table : List SegmentSpec) (settings : ReaderSettings) (start : Option ℕ) (k : Kept) → Stands (table_world table settings start) [] k → HasHistory k
own_history table settings start k stands = ∣ (table_world table settings start, [], stands) ∣₁

pub opened_by : (plan : Plan) (include : Bool) (file : List ℕ) (start mid : ReaderState) (cache cache_now : CacheState) (p : Prepared) (segments : List SegmentSpec) (k : Kept)
    → PreparedFrom plan include file start mid cache cache_now p → SameReader start mid → mid.bytes ≡ Some file → segments ≡ segment_table p.footer.content
    → Stands (table_world segments (settings_of mid) (tail_start p.tail)) [] k → ((f : List ℕ) → IsEnd f p.tail → HasBytes f k)
    → OpensRead plan include file start cache (record { footer = p.footer.content; metadata = p.metadata; session = k; reader = mid; cache = cache_now })
opened_by plan include file start mid cache cache_now p segments k h same told are stands bytes = record {
  opening = p.opening;
  prepares = h.prepares;
  asked = h.asked;
  bad = h.bad;
  stands = own-world plan file p start mid h.tail (same-settings start mid same) segments are k stands;
  slices = λ slices. ∣ record {
    told = told;
    bytes = own-bytes plan file p h.tail k bytes;
    slices = subst (λ t. TellsSlices file t cache_now) (sym (own-world plan file p start mid h.tail (same-settings start mid same) segments are k stands).table) (h.slices slices);
  } ∣₁;
}

-- memory ran out behind a prepared file
pub not_opened_behind : (plan : Plan) (include : Bool) (file : List ℕ) (start mid : ReaderState) (cache cache_now : CacheState) (p : Prepared)
    → PreparedFrom plan include file start mid cache cache_now p → NotOpened plan include file start cache OutOfMemory
not_opened_behind plan include file start mid cache cache_now p h = record { reader_now = mid; cache_now = cache_now; cause = inr h.ready; rose = tt }

-- the same of parts that are equal
pub opened_parts : (plan : Plan) (include : Bool) (file : List ℕ) (start : ReaderState) (cache : CacheState) (f f' : FooterContent) (m m' : Option (List MetadataValue)) (k k' : Kept) (r r' : ReaderState) (x x' : CacheState)
    → f' ≡ f → m' ≡ m → k' ≡ k → r' ≡ r → x' ≡ x → OpensRead plan include file start cache (record { footer = f; metadata = m; session = k; reader = r; cache = x })
    → OpensRead plan include file start cache (record { footer = f'; metadata = m'; session = k'; reader = r'; cache = x' })
opened_parts plan include file start cache f f' m m' k k' r r' x x' ef em ek er ex h =
    subst (λ (v : FooterContent). OpensRead plan include file start cache (record { footer = v; metadata = m'; session = k'; reader = r'; cache = x' })) (sym ef)
    (subst (λ (v : Option (List MetadataValue)). OpensRead plan include file start cache (record { footer = f; metadata = v; session = k'; reader = r'; cache = x' })) (sym em)
    (subst (λ (v : Kept). OpensRead plan include file start cache (record { footer = f; metadata = m; session = v; reader = r'; cache = x' })) (sym ek)
    (subst (λ (v : ReaderState). OpensRead plan include file start cache (record { footer = f; metadata = m; session = k; reader = v; cache = x' })) (sym er)
    (subst (λ (v : CacheState). OpensRead plan include file start cache (record { footer = f; metadata = m; session = k; reader = r; cache = v })) (sym ex) h))))
