-- Scripts, and the histories that answering them leads to. A history is a list of moments, the newest first.
use Rattle.std.specs.Prelude.{◌≡◌, ℕ, ◌+◌, ◌≤◌, List, [], ◌∷◌, ◌++◌, length, map, ◌⊎◌, Option}
use Rattle.std.specs.List.{flat_map}
use Rattle.vx_base.specs.Asking.{Log, ranges_of}
use Rattle.vx_base.specs.Caches.{CacheState, SameCache}
use Rattle.vx_sched.specs.Io.{request_of}
use Rattle.vx_sched.specs.Scheduling.{MergesInTurn, replay}
use Rattle.vx_sched.specs.Span as sched
use Rattle.vx_source.specs.Asks.{Grew, asked_by, bad_spans}
use Rattle.vx_source.specs.Bytes.{IsTrueReply}
use Rattle.vx_source.specs.Caching.{HasGot}
use Rattle.vx_source.specs.Events.{events}
use Rattle.vx_source.specs.Fits.{World, IsRow, asks}
use Rattle.vx_source.specs.History.{Got, Deed, registers, polls, drops, drives, stops, Moment, spans_in}
use Rattle.vx_source.specs.Puts.{PutsBy, put_by}
use Rattle.vx_source.specs.declared.reply.FailCause.TheVariants.{Cache}
use Rattle.vx_source.specs.declared.reply.Reply.{Reply}
use Rattle.vx_source.specs.declared.reply.Reply.TheVariants.{Failed}
use Rattle.vx_file.specs.declared.step.Step.{Step}
use Rattle.vx_file.specs.declared.step.Step.TheVariants.{Register, Poll, Drop, Drive}

-- ---- steps and replies

-- the deed of a step, by what the cache did where a register asked it
abbrev pub deed_of : Step → Got → Deed
deed_of (Register segment) got = registers segment got
deed_of (Poll number) got = polls number
deed_of (Drop number) got = drops number
deed_of Drive got = drives

-- the step of a deed; a drive that stopped for want of memory answers none
abbrev pub step_in : Deed → List Step
step_in (registers segment got) = Register segment ∷ []
step_in (polls number) = Poll number ∷ []
step_in (drops number) = Drop number ∷ []
step_in drives = Drive ∷ []
step_in stops = []

-- the steps of a history, the oldest first
abbrev pub steps_of : List Moment → List Step
steps_of [] = []
steps_of (m ∷ past) = steps_of past ++ step_in m.deed

-- the replies of a history, the oldest first
abbrev pub replies_of : List Moment → List Reply
replies_of [] = []
replies_of (m ∷ past) = replies_of past ++ m.reply ∷ []

-- each reply fits the moments before it
abbrev pub Fits : World → List Moment → Type 0
Fits w [] = Unit {0}
Fits w (m ∷ past) = IsRow w past m.deed m.reply × Fits w past

-- ---- what the drives asked

-- what the drives of some replies asked, the oldest first
abbrev pub asked_for : List Reply → Log
asked_for replies = flat_map (λ reply. asked_by (spans_in reply)) replies

-- how many spans of some replies failed
abbrev pub bad_replies : List Reply → ℕ
bad_replies [] = 0
bad_replies (reply ∷ replies) = bad_spans (spans_in reply) + bad_replies replies

-- ---- bytes

-- what a poll finds ready is its segment's bytes
abbrev pub IsTrue : List ℕ → World → List Moment → Deed → Reply → Type 0
IsTrue file w past (polls number) reply = IsTrueReply file w past number reply
IsTrue file w past _ reply = Unit {0}

-- whatever is ready is its segment's bytes
abbrev pub AreTrue : List ℕ → World → List Moment → Type 0
AreTrue file w [] = Unit {0}
AreTrue file w (m ∷ past) = IsTrue file w past m.deed m.reply × AreTrue file w past

-- ---- the cache

-- what a deed does to the cache: a register asks it or not, a drive puts the reads of its good spans into it, and no
-- other deed touches it
abbrev pub Touches : World → List Moment → Deed → Reply → CacheState → CacheState → Type 0
Touches w past (registers segment got) reply before now = HasGot (asks w segment) segment before now got
Touches w past (polls number) reply before now = now ≡ before
Touches w past (drops number) reply before now = now ≡ before
Touches w past drives reply before now = PutsBy past (spans_in reply) before now
Touches w past stops reply before now = PutsBy past (spans_in reply) before now

-- a history leads a cache from one state to another
abbrev pub Leads : World → CacheState → List Moment → CacheState → Type 0
Leads w first [] now = now ≡ first
Leads w first (m ∷ past) now = (before : CacheState) × Leads w first past before × Touches w past m.deed m.reply before now × SameCache before now

abbrev pub cache_failure : Reply → ℕ
cache_failure (Failed Cache) = 1
cache_failure _ = 0

-- how many registers found that the cache failed
abbrev pub cache_failures : List Reply → ℕ
cache_failures [] = 0
cache_failures (reply ∷ replies) = cache_failure reply + cache_failures replies

-- the segments that the drives of a history put into the cache: those of each read of each good span, in order
abbrev pub put_in : List Moment → List ℕ
put_in [] = []
put_in (m ∷ past) = put_in past ++ put_by past (spans_in m.reply)

-- ---- a script

-- A history answers a script: it has the script's steps and these replies, one for each, and each of them fits.
pub record Answers (w : World) (script : List Step) (replies : List Reply) (history : List Moment) : Type 0 where
  pub steps_are : steps_of history ≡ script
  pub replies_are : replies_of history ≡ replies
  pub one_each : length replies ≡ length script
  pub fits : Fits w history

-- A script was stopped by want of memory: some of its steps were answered, and then perhaps a drive that stopped. The
-- reader was asked for the spans of these, and then for those of at most one block that merges then.
pub record Stops (w : World) (script : List Step) (before now : Option Log) : Type 0 where
  pub history : List Moment
  pub rest : List Step
  pub split : steps_of history ++ rest ≡ script
  pub fits : Fits w history
  pub block : List sched.Span
  pub merge : MergesInTurn (replay w.idle (events w history)) block
  pub few : length block ≤ w.idle.concurrency
  pub further : Log
  pub asked : (ranges_of further ≡ []) ⊎ (ranges_of further ≡ map request_of block)
  pub log : Grew (asked_for (replies_of history) ++ further) before now
