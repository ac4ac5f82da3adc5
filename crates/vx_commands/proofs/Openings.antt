-- The cause of what was served from the file of a name, from the causes of its parts.
use Rattle.std.proofs.Common.{◌≡◌, ℕ, ◌+◌, ◌≤◌, min, Bool, List, [], ◌∷◌, ◌++◌, Option, Some, None, Result, Ok, Err, sym, ap, subst, ◌∙◌, arith, ◌⊎◌, inl, inr}
use Rattle.std.specs.Option.{option_map}
use Rattle.vx_base.specs.Asking.{Log}
use Rattle.vx_base.specs.Counts.{Rises, last_count}
use Rattle.vx_base.specs.Openers.{OpenerState, Returned, AsksFor}
use Rattle.vx_base.specs.Caches.{CacheState}
use Rattle.vx_base.specs.Readers.{ReaderState, ReaderSettings, settings_of}
use Rattle.vx_base.specs.Streams.{SourceState}
use Rattle.vx_sched.specs.declared.fault.Fault.{Fault}
use Rattle.vx_file.specs.declared.step.Step.{Step}
use Rattle.vx_file.specs.declared.served.Served.{Served}
use Rattle.vx_file.specs.Hints.{Hints, IsSizeOf, IsSized, IsSizeBeside, IsFooterOf}
use Rattle.vx_source.specs.Asks.{Grew, asked_by, bad_spans}
use Rattle.vx_source.specs.declared.reply.FailCause.TheVariants as cause
use Rattle.vx_source.proofs.DriveLemmas.{grew-then}
use Rattle.vx_footer.specs.declared.error.OpenError.{OpenError}
use Rattle.vx_file.specs.Ranges.{opened as opened_ranges}
use Rattle.vx_file.specs.Loading.{Drives}
use Rattle.vx_file.specs.Plans.{Plan, plan_of, world_of}
use Rattle.vx_file.specs.Serving.{ServedFrom, asked, faulty, SizeFault, TailFault, MetadataFault, RefusedFrom}
use Rattle.vx_file.specs.Scripts.{bad_replies, cache_failures}
use Rattle.vx_commands.specs.declared.failure.Failure.{Failure}
use Rattle.vx_commands.specs.declared.failure.Failure.TheVariants as failures
use Rattle.vx_commands.specs.Input.{ScriptCause, StepsCause}
use Rattle.vx_commands.specs.Script.{script_of}
use Rattle.vx_commands.specs.Served.{ReaderCause, ReaderFault, FileCause, GivesBack, GaveBack, ServesFile, RefusesFile, LacksFile}
use Rattle.vx_commands.specs.Streams.{ReadToEnd}

pub script-cause : (before now : SourceState) (text : List ℕ) (answer : Result (List Step) Failure) → ((t : List ℕ) → before.rest ≡ Some t → (text ≡ t) × ReadToEnd t now) → StepsCause text answer → ScriptCause before now answer
script-cause before now text (Ok steps) read h = λ t told. let r = read t told in (r.1, subst (λ x. script_of x ≡ Ok steps) r.0 h)
script-cause before now text (Err (failures.Line line)) read h = λ t told. let r = read t told in (r.1, subst (λ x. script_of x ≡ Err line) r.0 h)
script-cause before now text (Err failures.OutOfMemory) read h = tt
script-cause before now text (Err failures.Usage) read h = absurd h
script-cause before now text (Err (failures.Refused refusal)) read h = absurd h
script-cause before now text (Err failures.MissingSegment) read h = absurd h
script-cause before now text (Err (failures.Unbound error)) read h = absurd h
script-cause before now text (Err (failures.Undecoded error)) read h = absurd h
script-cause before now text (Err (failures.Unwritten error)) read h = absurd h
script-cause before now text (Err (failures.Read fault)) read h = absurd h
script-cause before now text (Err failures.Input) read h = absurd h
script-cause before now text (Err failures.Output) read h = absurd h
script-cause before now text (Err (failures.Open name)) read h = absurd h
script-cause before now text (Err failures.InputTooLong) read h = absurd h

-- a reader was opened by a name, with these settings, and taken back
pub record Lent (name : List ℕ) (settings : ReaderSettings) (before now : OpenerState) (opened served : ReaderState) : Type 0 where
  pub has : settings_of opened ≡ settings
  pub told : (b : List ℕ) → before.file name ≡ Some b → opened.bytes ≡ Some b
  pub fresh : (all : List Returned) → before.returned ≡ Some all → opened.log ≡ Some []
  pub faultless : opened.faults ≡ 0
  pub asked : AsksFor name before now
  pub returned : now.returned ≡ option_map (λ all. all ++ record { name = name; log = served.log } ∷ []) before.returned
  pub counted : now.read_faults ≡ min (before.read_faults + served.faults) last_count
  pub never_falls : before.read_faults ≤ now.read_faults

pub rises-through : (by before now opened served : ℕ) → opened ≡ 0 → now ≡ min (before + served) last_count → before ≤ now → Rises by opened served → Rises by before now
rises-through by before now opened served none counted later h = record { later = later; risen = omega (arith, h.later, h.risen) }

fresh-log : (gained : Log) (before now : Option Log) → before ≡ Some [] → Grew gained before now → now ≡ Some gained
fresh-log gained before now fresh h = h ∙ ap (λ log. option_map (λ l. l ++ gained) log) fresh

pub gave-back : (name : List ℕ) (settings : ReaderSettings) (before now : OpenerState) (opened served : ReaderState) → Lent name settings before now opened served → GaveBack name before now
gave-back name settings before now opened served lent = record { log = served.log; returned = lent.returned }

pub gives-back : (name : List ℕ) (settings : ReaderSettings) (before now : OpenerState) (opened served : ReaderState) (gained : Log) → Lent name settings before now opened served → Grew gained opened.log served.log → GivesBack name before now gained
gives-back name settings before now opened served gained lent grew = record {
  log = served.log;
  returned = lent.returned;
  asked = λ all told. fresh-log gained opened.log served.log (lent.fresh all told) grew;
}

none-failed : (by before now : ℕ) → before ≡ 0 → now ≡ 0 → Rises by before now → by ≡ 0
none-failed by before now first last h = let r = h.risen in omega (arith, first, last, r)

serves-file : (plan : Plan) (include : Bool) (cache cache_now : CacheState) (file name : List ℕ) (script : List Step) (settings : ReaderSettings) (before now : OpenerState) (opened served : ReaderState) (s : Served) → Lent name settings before now opened served
    → cache.faults ≡ 0 → cache_now.faults ≡ 0 → ServedFrom plan include file script opened served cache cache_now s → ServesFile plan include settings cache file name script before now s
serves-file plan include cache cache_now file name script settings before now opened served s lent first last h =
    let rose = h.serves.plays.failed in
    let later = rose.later in
    let empty : h.serves.prepared.faults ≡ 0 = omega (arith, later, last) in
    subst (λ r. ServesFile plan include r cache file name script before now s) lent.has (record {
      cache_now = cache_now;
      serves = h.serves;
      cache_good = none-failed (cache_failures s.replies) h.serves.prepared.faults cache_now.faults empty last rose;
      back = gives-back name settings before now opened served (asked plan.ranges h.serves.prepares.spans s.replies) lent h.asked;
      bad = rises-through (bad_spans h.serves.prepares.spans + bad_replies s.replies) before.read_faults now.read_faults opened.faults served.faults lent.faultless lent.counted lent.never_falls h.bad;
    })

pub lacks : (plan : Plan) (name : List ℕ) (fault : Fault) (settings : ReaderSettings) (before now : OpenerState) (opened served : ReaderState) (cache_now : CacheState) → Lent name settings before now opened served
    → SizeFault plan opened served fault ⊎ TailFault plan opened served fault ⊎ MetadataFault plan opened served cache_now (cause.Fault fault) → LacksFile plan settings name fault before now
lacks plan name fault settings before now opened served cache_now lent (inl h) = inl (record { asks = h.asks; is = h.is; back = gives-back name settings before now opened served [] lent h.asked })
lacks plan name fault settings before now opened served cache_now lent (inr (inl h)) = inr (inl (record {
  front = h.front;
  range = h.range;
  rest = h.rest;
  ranges = h.ranges;
  place = h.place;
  back = gives-back name settings before now opened served (opened_ranges h.front ++ faulty h.range fault ∷ []) lent h.asked;
}))
lacks plan name fault settings before now opened served cache_now lent (inr (inr h)) = inr (inr (record {
  footer = h.footer;
  grammar = h.grammar;
  filled = h.filled;
  cache_now = cache_now;
  fetched = h.fails.fetched;
  drives = subst (λ r. Drives (world_of plan h.footer r) h.footer h.filled cache_now h.fails.fetched) lent.has h.fails.drives;
  first = h.fails.first;
  back = gives-back name settings before now opened served (opened_ranges plan.ranges ++ asked_by h.fails.fetched.spans) lent
      (grew-then (opened_ranges plan.ranges) (asked_by h.fails.fetched.spans) opened.log h.between.log served.log h.asked h.fails.asks.log);
}))

pub refuses : (plan : Plan) (name : List ℕ) (refusal : OpenError) (settings : ReaderSettings) (before now : OpenerState) (opened served : ReaderState) → Lent name settings before now opened served → RefusedFrom plan opened served refusal → RefusesFile plan name refusal before now
refuses plan name refusal settings before now opened served lent h = record { fails = h.fails; back = gives-back name settings before now opened served _ lent h.asked }

pub file-cause : (hints : Hints) (chosen : ReaderSettings → ReaderSettings) (cache cache_now : CacheState) (name : List ℕ) (script : List Step) (before now : OpenerState) (opened served : ReaderState) (answer : Result Served Failure)
    → Lent name (chosen (before.settings name)) before now opened served → cache.faults ≡ 0 → cache_now.faults ≡ 0
    → ((file : List ℕ) → opened.bytes ≡ Some file → IsSizeOf hints.size file → ReaderCause hints file script opened served cache cache_now answer) → ReaderFault opened served answer → FileCause hints chosen cache name script before now answer
file-cause hints chosen cache cache_now name script before now opened served (Ok s) lent first last given read = (lent.asked, gave-back name (chosen (before.settings name)) before now opened served lent, λ file told sized. serves-file (plan_of hints file) hints.metadata cache cache_now file name script (chosen (before.settings name)) before now opened served s lent first last (given file (lent.told file told) sized))
file-cause hints chosen cache cache_now name script before now opened served (Err (failures.Read fault)) lent first last given read = (lent.asked, gave-back name (chosen (before.settings name)) before now opened served lent, rises-through 1 before.read_faults now.read_faults opened.faults served.faults lent.faultless lent.counted lent.never_falls read, λ file told sized. lacks (plan_of hints file) name fault (chosen (before.settings name)) before now opened served cache_now lent (given file (lent.told file told) sized))
file-cause hints chosen cache cache_now name script before now opened served (Err (failures.Refused refusal)) lent first last given read = (lent.asked, gave-back name (chosen (before.settings name)) before now opened served lent, λ file told sized. refuses (plan_of hints file) name refusal (chosen (before.settings name)) before now opened served lent (given file (lent.told file told) sized))
file-cause hints chosen cache cache_now name script before now opened served (Err failures.OutOfMemory) lent first last given read = inr (record { asked = lent.asked; back = inl (gave-back name (chosen (before.settings name)) before now opened served lent) })
file-cause hints chosen cache cache_now name script before now opened served (Err (failures.Line line)) lent first last given read = absurd read
file-cause hints chosen cache cache_now name script before now opened served (Err failures.MissingSegment) lent first last given read = absurd read
file-cause hints chosen cache cache_now name script before now opened served (Err (failures.Unbound error)) lent first last given read = absurd read
file-cause hints chosen cache cache_now name script before now opened served (Err (failures.Undecoded error)) lent first last given read = absurd read
file-cause hints chosen cache cache_now name script before now opened served (Err (failures.Unwritten error)) lent first last given read = absurd read
file-cause hints chosen cache cache_now name script before now opened served (Err failures.Usage) lent first last given read = absurd read
file-cause hints chosen cache cache_now name script before now opened served (Err failures.Input) lent first last given read = absurd read
file-cause hints chosen cache cache_now name script before now opened served (Err failures.Output) lent first last given read = absurd read
file-cause hints chosen cache cache_now name script before now opened served (Err (failures.Open opened_name)) lent first last given read = absurd read
file-cause hints chosen cache cache_now name script before now opened served (Err failures.InputTooLong) lent first last given read = absurd read

-- ---- hints without a footer

pub is_sized : (hints : Hints) (file : List ℕ) → hints.footer ≡ None → IsSizeOf hints.size file → IsSized hints file
is_sized hints file none h = subst (λ f. IsSizeBeside f hints.size file) (sym none) h

pub is_own_footer : (hints : Hints) (file : List ℕ) → hints.footer ≡ None → IsFooterOf hints.footer file
is_own_footer hints file none = subst (λ f. IsFooterOf f file) (sym none) tt
