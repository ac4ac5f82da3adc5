-- How segments are read, as the words of a command say.
use Rattle.std.specs.Prelude.{◌≡◌, ℕ, min, nat_le, Bool, true, ◌&&◌, ◌||◌, not, if◌then◌else◌, Option, Some, None, is_some}
use Rattle.vx_base.specs.Caches.{CacheState, nothing_held}
use Rattle.vx_base.specs.Readers.{ReaderSettings}
use Rattle.vx_source.specs.Keeping.{lru_state, new_lru}
use Rattle.vx_commands.specs.declared.reading.TheConstants.{MOST_READS, MOST_KEPT}

-- the distance and the greatest read, the most ranges of one call, and how many segments a cache keeps, where said
pub record ReadingValue : Type 0 where
  pub distance : Option ℕ
  pub max_read_size : Option ℕ
  pub reads : Option ℕ
  pub kept : Option ℕ

-- nothing is said
abbrev pub plain_reading : ReadingValue
plain_reading = record { distance = None; max_read_size = None; reads = None; kept = None }

-- a number is from one to the most, where it is said
abbrev pub is_from_one : ℕ → Option ℕ → Bool
is_from_one most None = true
is_from_one most (Some n) = nat_le 1 n && nat_le n most

-- a greatest read is said with a distance alone, and the other numbers are in their bounds
pub record IsReading (distance max_read_size reads kept : Option ℕ) : Type 0 where
  pub together : (is_some distance || not (is_some max_read_size)) ≡ true
  pub reads_fit : is_from_one MOST_READS reads ≡ true
  pub kept_fit : is_from_one MOST_KEPT kept ≡ true

abbrev pub reading_of : Option ℕ → Option ℕ → Option ℕ → Option ℕ → Option ReadingValue
reading_of distance max_read_size reads kept =
    if (is_some distance || not (is_some max_read_size)) && is_from_one MOST_READS reads && is_from_one MOST_KEPT kept
    then Some (record { distance = distance; max_read_size = max_read_size; reads = reads; kept = kept }) else None

-- the lesser of what is said and what the reader allows
abbrev pub least_reads : Option ℕ → ℕ → ℕ
least_reads None most = most
least_reads (Some n) most = min n most

-- settings in place of a reader's own: a distance that is said brings its greatest read, or none
abbrev pub settings_with : Option ℕ → ReadingValue → ReaderSettings → ReaderSettings
settings_with None r own = record { distance = own.distance; max_read_size = own.max_read_size; concurrency = least_reads r.reads own.concurrency }
settings_with (Some distance) r own = record { distance = Some distance; max_read_size = r.max_read_size; concurrency = least_reads r.reads own.concurrency }

abbrev pub settings_by : ReadingValue → ReaderSettings → ReaderSettings
settings_by r own = settings_with r.distance r own

-- a cache that keeps so many segments, if any, and has none yet
abbrev pub new_cache : Option ℕ → CacheState
new_cache None = nothing_held
new_cache (Some n) = lru_state (new_lru n)
