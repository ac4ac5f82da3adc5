-- What a drive does.
use Rattle.std.specs.Prelude.{◌≡◌, ℕ, ◌+◌, ◌≤◌, ◌++◌, ◌⊎◌, Bool, true, false, List, [], map, length, Option, Some}
use Rattle.vx_base.specs.Asking.{Log, ranges_of, GrewOrStayed}
use Rattle.vx_base.specs.Caches.{CacheState}
use Rattle.vx_base.specs.Counts.{Rises}
use Rattle.vx_base.specs.Readers.{ReaderState}
use Rattle.vx_sched.specs.Io.{request_of}
use Rattle.vx_sched.specs.Law.{IsSound}
use Rattle.vx_sched.specs.Outcomes.{AreOutcomesOf, HaveBytesOf}
use Rattle.vx_sched.specs.Reads.{waiting_at}
use Rattle.vx_sched.specs.Scheduling.{MergesInTurn, MayTake, NonePolled}
use Rattle.vx_sched.specs.Span.{end_of}
use Rattle.vx_sched.specs.Span as sched
use Rattle.vx_sched.specs.declared.fault.Outcome.{Outcome}
use Rattle.vx_sched.specs.declared.request.ReadRequest.{ReadRequest}
use Rattle.vx_source.specs.Asks.{Grew, asked_by, bad_spans}
use Rattle.vx_source.specs.Blocks.{reports_of, filed_of, after_block}
use Rattle.vx_source.specs.Fits.{World}
use Rattle.vx_source.specs.History.{Moment, stops}
use Rattle.vx_source.specs.Kept.{Kept}
use Rattle.vx_source.specs.Puts.{Gains, PutsBy, puts_of}
use Rattle.vx_source.specs.Stands.{IsNext}
use Rattle.vx_source.specs.declared.reply.Reply.TheVariants.{Driven}
use Rattle.vx_source.specs.declared.span.Span.{Span}

-- a block of spans was asked, taken and filed
pub record TakesBlock (k now : Kept) (done done_now : List Span) (before after : ReaderState) (cache_before cache_after : CacheState) : Type 0 where
  pub cores : List sched.Span
  pub outcomes : List Outcome
  pub may : MayTake k.core cores
  pub few : length cores ≤ k.core.concurrency
  pub places : AreOutcomesOf (map request_of cores) outcomes
  pub bytes : (file : List ℕ) → before.bytes ≡ Some file → HaveBytesOf file (map request_of cores) outcomes
  pub reports : done_now ≡ done ++ reports_of cores outcomes
  pub kept : now ≡ after_block k cores outcomes
  pub log : Grew (asked_by (reports_of cores outcomes)) before.log after.log
  pub rises : Rises (bad_spans (reports_of cores outcomes)) before.faults after.faults
  pub gains : Gains (puts_of k.requests (filed_of cores outcomes)) cache_before cache_after

-- nothing was left to ask
pub record IsIdle (k now : Kept) (done done_now : List Span) (before after : ReaderState) (cache_before cache_after : CacheState) : Type 0 where
  pub kept : now ≡ k
  pub reports : done_now ≡ done
  pub reader : after ≡ before
  pub cache : cache_after ≡ cache_before

-- one turn of a drive: a whole block, and there may be more; or at most one block, and no polled read waits then
pub record IsTurned (k now : Kept) (done done_now : List Span) (before after : ReaderState) (cache_before cache_after : CacheState) (more : Bool) : Type 0 where
  pub whole : more ≡ true → TakesBlock k now done done_now before after cache_before cache_after × (length done_now ≡ length done + k.core.concurrency)
  pub last : more ≡ false →
      (IsIdle k now done done_now before after cache_before cache_after ⊎ TakesBlock k now done done_now before after cache_before cache_after)
      × NonePolled now.core.reads

-- the log gained at most the ranges of one block, with any marks
pub record IsLost (k : Kept) (before now : Option Log) : Type 0 where
  pub cores : List sched.Span
  pub merge : MergesInTurn k.core cores
  pub few : length cores ≤ k.core.concurrency
  pub log : GrewOrStayed (map request_of cores) before now

-- each waiting read ends within so many bytes
pub record WaitsWithin (size : ℕ) (k : Kept) : Type 0 where
  pub sound : IsSound k.core
  pub ends : (q : ℕ) (r : ReadRequest) → waiting_at k.core.reads q ≡ Some r → end_of r ≤ size

-- a drive found no memory: what is kept stands for the history with a stopped drive, whose spans are whole blocks; the
-- log gained the ranges of these spans, and then those of at most one further block
pub record StopsDrive (w : World) (past : List Moment) (before now : Option Log) (cache_before cache_now : CacheState) (k : Kept) : Type 0 where
  pub spans : List Span
  pub next : IsNext w past stops (Driven spans) k
  pub cores : List sched.Span
  pub merge : MergesInTurn k.core cores
  pub few : length cores ≤ w.idle.concurrency
  pub further : Log
  pub asked : (ranges_of further ≡ []) ⊎ (ranges_of further ≡ map request_of cores)
  pub log : Grew (asked_by spans ++ further) before now
  pub puts : PutsBy past spans cache_before cache_now
