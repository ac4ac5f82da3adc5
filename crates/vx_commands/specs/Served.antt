-- What serving the file of a name by a script gives.
use Rattle.std.specs.Prelude.{◌≡◌, ℕ, ◌+◌, Bool, true, List, [], ◌∷◌, ◌++◌, Option, Some, Result, Ok, Err, ◌⊎◌}
use Rattle.std.specs.Option.{option_map}
use Rattle.vx_base.specs.Asking.{Log}
use Rattle.vx_base.specs.Counts.{Rises}
use Rattle.vx_base.specs.Openers.{OpenerState, Returned, AsksFor}
use Rattle.vx_base.specs.Caches.{CacheState}
use Rattle.vx_base.specs.Readers.{ReaderState, ReaderSettings}
use Rattle.vx_footer.specs.declared.error.OpenError.{OpenError}
use Rattle.vx_footer.specs.Footers.{FooterContent}
use Rattle.vx_source.specs.Asks.{asked_by, bad_spans}
use Rattle.vx_source.specs.declared.fetching.Fetched.{Fetched}
use Rattle.vx_source.specs.declared.reply.FailCause.TheVariants as cause
use Rattle.vx_sched.specs.declared.fault.Fault.{Fault}
use Rattle.vx_sched.specs.declared.fault.Place.TheVariants.{Range}
use Rattle.vx_sched.specs.Outcomes.{size_fault}
use Rattle.vx_file.specs.declared.step.Step.{Step}
use Rattle.vx_file.specs.declared.served.Served.{Served}
use Rattle.vx_file.specs.Hints.{Hints, IsSizeOf}
use Rattle.vx_file.specs.Plans.{Plan, plan_of, world_of}
use Rattle.vx_file.specs.Ranges.{opened}
use Rattle.vx_file.specs.Loading.{Drives, first_failed}
use Rattle.vx_file.specs.Serving.{Serves, ServedFrom, RefusedFrom, SizeFault, TailFault, MetadataFault, asked, faulty}
use Rattle.vx_file.specs.Scripts.{bad_replies, cache_failures}
use Rattle.vx_commands.specs.declared.failure.Failure.{Failure}
use Rattle.vx_commands.specs.declared.failure.Failure.TheVariants as failures

-- ---- by a reader

abbrev pub ReaderCause : Hints → List ℕ → List Step → ReaderState → ReaderState → CacheState → CacheState → Result Served Failure → Type 0
ReaderCause hints file script before now cache cache_now (Ok served) =
    ServedFrom (plan_of hints file) hints.metadata file script before now cache cache_now served
ReaderCause hints file script before now cache cache_now (Err (failures.Read fault)) =
    SizeFault (plan_of hints file) before now fault ⊎ TailFault (plan_of hints file) before now fault
    ⊎ MetadataFault (plan_of hints file) before now cache_now (cause.Fault fault)
ReaderCause hints file script before now cache cache_now (Err (failures.Refused refusal)) = RefusedFrom (plan_of hints file) before now refusal
ReaderCause hints file script before now cache cache_now (Err failures.OutOfMemory) = Unit {0}
ReaderCause hints file script before now cache cache_now (Err _) = ⊥

abbrev pub ReaderFault : ReaderState → ReaderState → Result Served Failure → Type 0
ReaderFault before now (Ok served) = Unit {0}
ReaderFault before now (Err (failures.Read fault)) = Rises 1 before.faults now.faults
ReaderFault before now (Err (failures.Refused refusal)) = Unit {0}
ReaderFault before now (Err failures.OutOfMemory) = Unit {0}
ReaderFault before now (Err _) = ⊥

-- ---- by a name

-- one reader was taken back, which had been asked exactly for these ranges
pub record GivesBack (name : List ℕ) (before now : OpenerState) (ranges : Log) : Type 0 where
  pub log : Option Log
  pub returned : now.returned ≡ option_map (λ all. all ++ record { name = name; log = log } ∷ []) before.returned
  pub asked : (all : List Returned) → before.returned ≡ Some all → log ≡ Some ranges

-- A script was served from the file of a name by a reader with these settings and this cache: the footer is that of
-- the grammar, the metadata was loaded before, where that is asked for, a history answers the script, one reply for each
-- step, and the reader had been asked exactly for the ranges of opening, the spans of the metadata and those of the
-- drives. The cache never failed.
pub record ServesFile (plan : Plan) (include : Bool) (settings : ReaderSettings) (cache : CacheState) (file name : List ℕ)
    (script : List Step) (before now : OpenerState) (served : Served) : Type 0 where
  pub cache_now : CacheState
  pub serves : Serves plan include file script settings cache cache_now served
  pub cache_good : cache_failures served.replies ≡ 0
  pub back : GivesBack name before now (asked plan.ranges serves.prepares.spans served.replies)
  pub bad : Rises (bad_spans serves.prepares.spans + bad_replies served.replies) before.read_faults now.read_faults

-- the first check that the file fails has this name, and the reader had been asked for the opening ranges alone
pub record RefusesFile (plan : Plan) (name : List ℕ) (refusal : OpenError) (before now : OpenerState) : Type 0 where
  pub fails : plan.footer ≡ Err refusal
  pub back : GivesBack name before now (opened plan.ranges)

-- the size could not be had, and the reader had been asked for no range
pub record LacksSize (plan : Plan) (name : List ℕ) (fault : Fault) (before now : OpenerState) : Type 0 where
  pub asks : plan.asks_size ≡ true
  pub is : fault ≡ size_fault
  pub back : GivesBack name before now []

-- an opening range could not be read, which the fault names: those before it got their bytes
pub record LacksTail (plan : Plan) (name : List ℕ) (fault : Fault) (before now : OpenerState) : Type 0 where
  pub front : List (ℕ × ℕ)
  pub range : ℕ × ℕ
  pub rest : List (ℕ × ℕ)
  pub ranges : plan.ranges ≡ front ++ range ∷ rest
  pub place : fault.place ≡ Range range.0 range.1
  pub back : GivesBack name before now (opened front ++ faulty range fault ∷ [])

-- the metadata of the file could not be read: the fault is that of the first entry that failed, and the reader had been asked for
-- the opening ranges and the spans of one whole metadata drive
pub record LacksValue (plan : Plan) (settings : ReaderSettings) (name : List ℕ) (fault : Fault) (before now : OpenerState) : Type 0 where
  pub footer : FooterContent
  pub grammar : plan.footer ≡ Ok footer
  pub filled : CacheState
  pub cache_now : CacheState
  pub fetched : Fetched
  pub drives : Drives (world_of plan footer settings) footer filled cache_now fetched
  pub first : first_failed fetched.replies ≡ Some (cause.Fault fault)
  pub back : GivesBack name before now (opened plan.ranges ++ asked_by fetched.spans)

-- one reader was taken back
pub record GaveBack (name : List ℕ) (before now : OpenerState) : Type 0 where
  pub log : Option Log
  pub returned : now.returned ≡ option_map (λ all. all ++ record { name = name; log = log } ∷ []) before.returned

-- nothing was asked of an opener
pub record AsksNothing (before now : OpenerState) : Type 0 where
  pub asked : now.asked ≡ before.asked
  pub returned : now.returned ≡ before.returned

-- the name was asked for, and a reader that was opened was taken back, or a call of the opener found no memory
pub record AskedAndBack (name : List ℕ) (before now : OpenerState) : Type 0 where
  pub asked : AsksFor name before now
  pub back : GaveBack name before now ⊎ Rises 1 before.memory_faults now.memory_faults

-- what stands after want of memory: the name was asked for once or not at all
abbrev pub LeavesOpener : List ℕ → OpenerState → OpenerState → Type 0
LeavesOpener name before now = AsksNothing before now ⊎ AskedAndBack name before now

-- a file could not be read: its size, an opening range, or the metadata
abbrev pub LacksFile : Plan → ReaderSettings → List ℕ → Fault → OpenerState → OpenerState → Type 0
LacksFile plan settings name fault before now =
    LacksSize plan name fault before now ⊎ LacksTail plan name fault before now ⊎ LacksValue plan settings name fault before now

-- what serving the file of a name gave has its cause
abbrev pub FileCause : Hints → (ReaderSettings → ReaderSettings) → CacheState → List ℕ → List Step → OpenerState → OpenerState → Result Served Failure → Type 0
FileCause hints chosen cache name script before now (Ok served) = AsksFor name before now × GaveBack name before now ×
    ((file : List ℕ) → before.file name ≡ Some file → IsSizeOf hints.size file
    → ServesFile (plan_of hints file) hints.metadata (chosen (before.settings name)) cache file name script before now served)
FileCause hints chosen cache name script before now (Err (failures.Open opened)) = (opened ≡ name) × AsksFor name before now × Rises 1 before.faults now.faults
FileCause hints chosen cache name script before now (Err (failures.Read fault)) =
    AsksFor name before now × GaveBack name before now × Rises 1 before.read_faults now.read_faults ×
    ((file : List ℕ) → before.file name ≡ Some file → IsSizeOf hints.size file
    → LacksFile (plan_of hints file) (chosen (before.settings name)) name fault before now)
FileCause hints chosen cache name script before now (Err (failures.Refused refusal)) = AsksFor name before now × GaveBack name before now ×
    ((file : List ℕ) → before.file name ≡ Some file → IsSizeOf hints.size file → RefusesFile (plan_of hints file) name refusal before now)
FileCause hints chosen cache name script before now (Err failures.OutOfMemory) = LeavesOpener name before now
FileCause hints chosen cache name script before now (Err _) = ⊥
