-- What answering a step does, for every history that the session stood for.
use Rattle.std.specs.Prelude.{◌≡◌, ℕ, ◌+◌, ◌≤◌, List, [], ◌∷◌, ◌++◌, length, map, ◌⊎◌, Option, Some}
use Rattle.vx_base.specs.Asking.{Log, ranges_of}
use Rattle.vx_base.specs.Caches.{CacheState}
use Rattle.vx_base.specs.Counts.{Rises}
use Rattle.vx_base.specs.Readers.{ReaderState}
use Rattle.vx_sched.specs.Io.{request_of}
use Rattle.vx_sched.specs.Scheduling.{MergesInTurn, replay}
use Rattle.vx_sched.specs.Span as sched
use Rattle.vx_source.specs.Asks.{Grew, asked_by}
use Rattle.vx_source.specs.Bytes.{HasBytes, TellsSlices}
use Rattle.vx_source.specs.Events.{events}
use Rattle.vx_source.specs.Fits.{World, IsRow}
use Rattle.vx_source.specs.History.{Got, Moment, moment}
use Rattle.vx_source.specs.Kept.{Kept}
use Rattle.vx_source.specs.Stands.{Stands}
use Rattle.vx_source.specs.declared.reply.Reply.{Reply}
use Rattle.vx_source.specs.declared.span.Span.{Span}
use Rattle.vx_file.specs.declared.step.Step.{Step}
use Rattle.vx_file.specs.Scripts.{deed_of, steps_of, replies_of, Fits, asked_for, bad_replies, IsTrue, AreTrue, Touches, Leads}

-- a reader was asked for the spans of replies, of which so many failed
pub record Asks (replies : List Reply) (before now : ReaderState) : Type 0 where
  pub log : Grew (asked_for replies) before.log now.log
  pub rises : Rises (bad_replies replies) before.faults now.faults

-- a step was answered
pub record IsAnswered (w : World) (past : List Moment) (step : Step) (before now : ReaderState) (cache cache_now : CacheState)
    (reply : Reply) (k : Kept) : Type 0 where
  pub got : Got
  pub row : IsRow w past (deed_of step got) reply
  pub touches : Touches w past (deed_of step got) reply cache cache_now
  pub stands : Stands w (moment (deed_of step got) reply ∷ past) k
  pub asks : Asks (reply ∷ []) before now

-- a reply is true, and so is what is kept then
pub record StaysTrue (file : List ℕ) (w : World) (past : List Moment) (step : Step) (cache_now : CacheState) (reply : Reply) (k : Kept) : Type 0 where
  pub reply_is : (got : Got) → IsTrue file w past (deed_of step got) reply
  pub bytes : HasBytes file k
  pub slices : TellsSlices file w.table cache_now

-- a step that found no memory: only a drive asks, the spans of its whole blocks and then at most one block more
pub record StopsStep (w : World) (past : List Moment) (before now : Option Log) : Type 0 where
  pub stopped : List Moment
  pub adds : steps_of stopped ≡ steps_of past
  pub fits : Fits w past → Fits w stopped
  pub spans : List Span
  pub replies : asked_for (replies_of stopped) ≡ asked_for (replies_of past) ++ asked_by spans
  pub block : List sched.Span
  pub merge : MergesInTurn (replay w.idle (events w stopped)) block
  pub few : length block ≤ w.idle.concurrency
  pub further : Log
  pub asked : (ranges_of further ≡ []) ⊎ (ranges_of further ≡ map request_of block)
  pub log : Grew (asked_by spans ++ further) before now

-- Some steps of a script were answered from a session, and these are left: the history so far, what was asked, what was
-- done to the cache, and that all was true where the session and the cache had a file's bytes.
pub record Answering (w : World) (script rest : List Step) (before now : ReaderState) (first : Kept) (cache cache_now : CacheState)
    (replies : List Reply) (k : Kept) : Type 0 where
  pub history : List Moment
  pub split : steps_of history ++ rest ≡ script
  pub replies_are : replies_of history ≡ replies
  pub one_each : length replies + length rest ≡ length script
  pub fits : Fits w history
  pub leads : Leads w cache history cache_now
  pub stands : Stands w history k
  pub asks : Asks replies before now
  pub true_of : (file : List ℕ) → before.bytes ≡ Some file → HasBytes file first → TellsSlices file w.table cache
      → AreTrue file w history × HasBytes file k × TellsSlices file w.table cache_now
