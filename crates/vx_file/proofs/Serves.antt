-- A script that was answered over an opened file was served from it.
use Rattle.std.proofs.Common.{◌≡◌, ℕ, ◌+◌, Bool, List, [], ◌∷◌, ◌++◌, length, drop, Option, Some, None, Result, Err, refl, sym, ap, subst, ◌∙◌, arith, append_assoc, ◌⊎◌, inl, inr}
use Rattle.std.specs.Option.{option_map}
use Rattle.std.proofs.lemmas.List.{append-nil}
use Rattle.vx_base.specs.Caches.{Segments, CacheState, SameCache}
use Rattle.vx_base.specs.Counts.{Rises}
use Rattle.vx_base.specs.Readers.{ReaderState, settings_of}
use Rattle.vx_base.specs.declared.segment.SegmentSpec.{SegmentSpec}
use Rattle.vx_footer.specs.Footers.{segment_table}
use Rattle.vx_base.specs.Asking.{Log}
use Rattle.vx_source.specs.Asks.{Grew, asked_by, bad_spans}
use Rattle.vx_source.specs.Bytes.{HasBytes, IsEnd}
use Rattle.vx_source.specs.Caching.{HasGot}
use Rattle.vx_source.specs.Fits.{World, IsRow, asks}
use Rattle.vx_source.specs.History.{Got, Deed, registers, polls, drops, drives, stops, Moment, spans_in}
use Rattle.vx_source.specs.Kept.{Kept, tail_start}
use Rattle.vx_source.specs.Puts.{Gains, put_by}
use Rattle.vx_source.specs.Stands.{Stands}
use Rattle.vx_source.specs.declared.reply.FailCause.TheVariants.{Fault, Cache}
use Rattle.vx_source.specs.declared.reply.Reply.{Reply}
use Rattle.vx_source.specs.declared.reply.Reply.TheVariants.{Registered, MissingSegment, Ready, Pending, Failed, Dropped, NotLive, Driven}
use Rattle.vx_source.specs.declared.tail.Tail.{Tail}
use Rattle.vx_source.proofs.DriveLemmas.{grew-then, rises-then}
use Rattle.vx_source.proofs.PutLemmas.{gains-none, gains-then, ids-append}
use Rattle.vx_file.specs.declared.prepared.Prepared.{Prepared}
use Rattle.vx_file.specs.declared.step.Step.{Step}
use Rattle.vx_file.specs.declared.served.Served.{Served}
use Rattle.vx_file.specs.declared.served.ServeError.{ServeError}
use Rattle.vx_file.specs.declared.served.ServeError.TheVariants.{Open, Fault as FaultOf, CacheFault, OutOfMemory}
use Rattle.vx_file.specs.Opened.{IsTailAt}
use Rattle.vx_file.specs.Plans.{Plan, table_world, world_of, covered_by}
use Rattle.vx_file.specs.Prepared.{PreparedFrom, PrepareCause}
use Rattle.vx_file.specs.Ranges.{opened}
use Rattle.vx_file.specs.Scripts.{Fits, Leads, Touches, Stops, steps_of, replies_of, asked_for, bad_replies, cache_failure, cache_failures, put_in}
use Rattle.vx_file.specs.Serving.{ServedFrom, CauseBy, FaultRose, Plays, numbers_of, StopsServing}
use Rattle.vx_file.specs.Steps.{Answering}
use Rattle.vx_file.proofs.Answering.{register-quiet, poll-quiet, drop-quiet}

-- ---- the cache

pub nothing-failed : (before now : CacheState) → SameCache before now → Rises 0 before.faults now.faults
nothing-failed before now same = let l = same.never_falls in record { later = l; risen = omega (arith, l) }

failure-of : (reply : Reply) → (cache_failure reply ≡ 0) ⊎ (reply ≡ Failed Cache)
failure-of (Registered number held) = inl refl
failure-of MissingSegment = inl refl
failure-of (Ready buffer) = inl refl
failure-of Pending = inl refl
failure-of (Failed (Fault fault)) = inl refl
failure-of (Failed Cache) = inr refl
failure-of Dropped = inl refl
failure-of NotLive = inl refl
failure-of (Driven spans) = inl refl

cache-failed : (w : World) (past : List Moment) (d : Deed) (before now : CacheState) → IsRow w past d (Failed Cache) → Touches w past d (Failed Cache) before now → Rises 1 before.faults now.faults
cache-failed w past (registers s got) before now row t = t.failed row.2
cache-failed w past (polls n) before now row t = absurd row
cache-failed w past (drops n) before now row t = absurd row
cache-failed w past drives before now row t = absurd row
cache-failed w past stops before now row t = absurd row

touch-failed : (w : World) (past : List Moment) (d : Deed) (reply : Reply) (before now : CacheState) → IsRow w past d reply → Touches w past d reply before now → SameCache before now
    → Rises (cache_failure reply) before.faults now.faults
touch-failed w past d reply before now row t same = elim (failure-of reply) [
  | inl none ↦ subst (λ n. Rises n before.faults now.faults) (sym none) (nothing-failed before now same)
  | inr is ↦ subst (λ r. Rises (cache_failure r) before.faults now.faults) (sym is)
      (cache-failed w past d before now (subst (IsRow w past d) is row) (subst (λ r. Touches w past d r before now) is t))
]

failures-append : (replies : List Reply) (reply : Reply) → cache_failures (replies ++ reply ∷ []) ≡ cache_failures replies + cache_failure reply
failures-append [] reply = omega arith
failures-append (r ∷ replies) reply = let e = failures-append replies reply in omega (arith, e)

-- each failure of the cache was counted
pub leads-failed : (w : World) (first now : CacheState) (history : List Moment) → Fits w history → Leads w first history now → Rises (cache_failures (replies_of history)) first.faults now.faults
leads-failed w first now [] fits leads = subst (λ (c : CacheState). Rises 0 first.faults c.faults) (sym leads) (record { later = omega arith; risen = omega arith })
leads-failed w first now (m ∷ past) fits leads =
    subst (λ n. Rises n first.faults now.faults) (sym (failures-append (replies_of past) m.reply))
    (rises-then (cache_failures (replies_of past)) (cache_failure m.reply) first.faults leads.0.faults now.faults (leads-failed w first leads.0 past fits.1 leads.1)
    (touch-failed w past m.deed m.reply leads.0 now fits.0 leads.2 leads.3))

-- puts, and the numbers of their segments
pub record Put (numbers : List ℕ) (before now : CacheState) : Type 0 where
  pub driven : Segments
  pub are : numbers_of driven ≡ numbers
  pub gains : Gains driven before now

pub put-none : (before now : CacheState) → now ≡ before → Put [] before now
put-none before now e = record { driven = []; are = refl; gains = subst (Gains [] before) (sym e) (gains-none before) }

no-puts : (log : Option Segments) → log ≡ option_map (λ l. l ++ []) log
no-puts None = refl
no-puts (Some l) = ap (λ m. Some m) (sym (append-nil l))

pub put-got : (asked : Bool) (s : ℕ) (got : Got) (before now : CacheState) → HasGot asked s before now got → Put [] before now
put-got asked s got before now h = record {
  driven = [];
  are = refl;
  gains = record {
    kept = [];
    size = refl;
    log = h.puts ∙ no-puts before.puts;
    lost = let e = h.lost in record { later = omega (arith, e); risen = omega (arith, e) };
    from = λ es fs q b e f is. inl (h.from es fs q b e f is);
    tells = h.tells;
  };
}

quiet-put : (past : List Moment) (reply : Reply) (before now : CacheState) → spans_in reply ≡ [] → Put [] before now → Put (put_by past (spans_in reply)) before now
quiet-put past reply before now e p = subst (λ spans. Put (put_by past spans) before now) (sym e) p

touch-put : (w : World) (past : List Moment) (d : Deed) (reply : Reply) (before now : CacheState) → IsRow w past d reply → Touches w past d reply before now → Put (put_by past (spans_in reply)) before now
touch-put w past (registers s got) reply before now row t = quiet-put past reply before now (register-quiet w past s got reply row) (put-got (asks w s) s got before now t)
touch-put w past (polls n) reply before now row t = quiet-put past reply before now (poll-quiet w past n reply row) (put-none before now t)
touch-put w past (drops n) reply before now row t = quiet-put past reply before now (drop-quiet w past n reply row) (put-none before now t)
touch-put w past drives reply before now row t = record { driven = t.puts; are = t.segments; gains = t.gains }
touch-put w past stops reply before now row t = record { driven = t.puts; are = t.segments; gains = t.gains }

pub leads-put : (w : World) (first now : CacheState) (history : List Moment) → Fits w history → Leads w first history now → Put (put_in history) first now
leads-put w first now [] fits leads = put-none first now leads
leads-put w first now (m ∷ past) fits leads =
    let before = leads-put w first leads.0 past fits.1 leads.1 in
    let one = touch-put w past m.deed m.reply leads.0 now fits.0 leads.2 in
    record {
      driven = before.driven ++ one.driven;
      are = ids-append before.driven one.driven ∙ ap (λ l. l ++ numbers_of one.driven) before.are ∙ ap (λ l. put_in past ++ l) one.are;
      gains = gains-then before.driven one.driven first leads.0 now before.gains one.gains;
    }

-- ---- the tail

pub tail-start : (file : List ℕ) (start : Option ℕ) (tail : Option Tail) → IsTailAt file start tail → tail_start tail ≡ start
tail-start file None None h = refl
tail-start file None (Some tail) h = absurd h
tail-start file (Some from) None h = absurd h
tail-start file (Some from) (Some tail) h = ap (λ n. Some n) h.start

pub tail-end : (file : List ℕ) (start : Option ℕ) (tail : Option Tail) → IsTailAt file start tail → IsEnd file tail
tail-end file None None h t e = let no : ⊥ = cc in absurd no
tail-end file None (Some tail) h t e = absurd h
tail-end file (Some from) None h t e = absurd h
tail-end file (Some from) (Some tail) h t e = let same : tail ≡ t = cc in subst (λ (x : Tail). x.bytes.bytes ≡ drop x.start file) same (h.bytes ∙ ap (λ n. drop n file) (sym h.start))

-- ---- the script

-- the steps of a script
pub plays-is : (w : World) (file : List ℕ) (script : List Step) (before now : ReaderState) (first : Kept) (cache cache_now : CacheState) (replies : List Reply) (k : Kept)
    → before.bytes ≡ Some file → HasBytes file first → Answering w script [] before now first cache cache_now replies k → Plays w file script cache cache_now replies
plays-is w file script before now first cache cache_now replies k told bytes h =
    let one = h.one_each in
    record {
      history = h.history;
      answers = record { steps_are = sym (append-nil (steps_of h.history)) ∙ h.split; replies_are = h.replies_are; one_each = omega (arith, one); fits = h.fits };
      leads = h.leads;
      true_of = λ t. (h.true_of file told bytes t).0;
      failed = subst (λ rs. Rises (cache_failures rs) cache.faults cache_now.faults) h.replies_are (leads-failed w cache cache_now h.history h.fits h.leads);
    }

-- no step is played
plays-nothing : (w : World) (file : List ℕ) (script : List Step) (cache : CacheState) → script ≡ [] → Plays w file script cache cache []
plays-nothing w file script cache none = record {
  history = [];
  answers = record { steps_are = sym none; replies_are = refl; one_each = sym (ap length none); fits = tt };
  leads = refl;
  true_of = λ t. tt;
  failed = record { later = omega arith; risen = omega arith };
}

grew-nothing : (log : Option Log) → Grew [] log log
grew-nothing None = refl
grew-nothing (Some l) = ap Some (sym (append-nil l))

module _ (plan : Plan) (include : Bool) (file : List ℕ) (script : List Step) (start mid now : ReaderState) (cache prepared cache_now : CacheState) (p : Prepared) (h : PreparedFrom plan include file start mid cache prepared p) where
  pub served-is : (replies : List Reply) → (plays : Plays (world_of plan p.footer.content (settings_of start)) file script prepared cache_now replies)
      → Grew (asked_for replies) mid.log now.log → Rises (bad_replies replies) mid.faults now.faults
      → ServedFrom plan include file script start now cache cache_now (record { footer = p.footer; metadata = p.metadata; opening = p.opening; replies = replies })
  served-is replies plays grew rises =
      let put = leads-put (world_of plan p.footer.content (settings_of start)) prepared cache_now plays.history plays.answers.fits plays.leads in
      record {
        serves = record {
          prepared = prepared;
          prepares = h.prepares;
          plays = plays;
          true_of = λ t. plays.true_of (h.slices t);
          puts = record {
            driven = h.driven ++ put.driven;
            numbers = ids-append h.driven put.driven ∙ ap (λ l. l ++ numbers_of put.driven) h.numbers ∙ ap (λ l. h.prepares.numbers ++ l) put.are;
            gains = subst (λ puts. Gains puts cache cache_now) (append_assoc (covered_by plan file p.footer.content) h.driven put.driven)
                (gains-then (covered_by plan file p.footer.content ++ h.driven) put.driven cache prepared cache_now h.gains put.gains);
          };
        };
        asked = grew-then (opened plan.ranges ++ asked_by h.prepares.spans) (asked_for replies) start.log mid.log now.log h.asked grew;
        bad = rises-then (bad_spans h.prepares.spans) (bad_replies replies) start.faults mid.faults now.faults h.bad rises;
      }

  -- memory ran out while the script was answered
  pub serving-stops : Stops (world_of plan p.footer.content (settings_of start)) script mid.log now.log → StopsServing plan script start now
  serving-stops stop = record {
    footer = p.footer.content;
    grammar = h.prepares.footer_is;
    spans = h.prepares.spans;
    between = mid.log;
    prepared = h.asked;
    stops = stop;
  }

-- a file was opened, and nothing else was to be done
pub served-unasked : (plan : Plan) (include : Bool) (file : List ℕ) (script : List Step) (start mid : ReaderState) (cache prepared : CacheState) (p : Prepared) (h : PreparedFrom plan include file start mid cache prepared p) (replies : List Reply)
    → script ≡ [] → replies ≡ [] → ServedFrom plan include file script start mid cache prepared (record { footer = p.footer; metadata = p.metadata; opening = p.opening; replies = replies })
served-unasked plan include file script start mid cache prepared p h replies none empty =
    rw empty (served-is plan include file script start mid mid cache prepared prepared p h [] (plays-nothing (world_of plan p.footer.content (settings_of start)) file script prepared none) (grew-nothing mid.log)
    (record { later = omega arith; risen = omega arith }))

-- a file was not prepared
pub prepare-refused : (plan : Plan) (include : Bool) (file : List ℕ) (script : List Step) (start mid : ReaderState) (cache cache_now : CacheState) (e : ServeError) → PrepareCause plan include file start mid cache cache_now (Err e)
    → CauseBy plan include file script start mid cache cache_now (Err e)
prepare-refused plan include file script start mid cache cache_now (Open e) h = h
prepare-refused plan include file script start mid cache cache_now (FaultOf fault) h = h
prepare-refused plan include file script start mid cache cache_now CacheFault h = h
prepare-refused plan include file script start mid cache cache_now OutOfMemory h = elim h [ inl opening ↦ inl opening | inr metadata ↦ inr (inl metadata) ]

pub prepare-rose : (e : ServeError) (before now : ReaderState) (cache cache_now : CacheState) → (let answer : Result Prepared ServeError = Err e in FaultRose before now cache cache_now answer)
    → (let answer : Result Served ServeError = Err e in FaultRose before now cache cache_now answer)
prepare-rose (Open e) before now cache cache_now h = tt
prepare-rose (FaultOf fault) before now cache cache_now h = h
prepare-rose CacheFault before now cache cache_now h = h
prepare-rose OutOfMemory before now cache cache_now h = tt

-- the session of the script, over the tail that was read
module _ (plan : Plan) (file : List ℕ) (p : Prepared) where
  pub own-world : (start mid : ReaderState) → IsTailAt file plan.start p.tail → settings_of mid ≡ settings_of start → (segments : List SegmentSpec) → segments ≡ segment_table p.footer.content → (k : Kept)
      → Stands (table_world segments (settings_of mid) (tail_start p.tail)) [] k → Stands (world_of plan p.footer.content (settings_of start)) [] k
  own-world start mid tail settings segments same k stands =
      subst (λ s. Stands (table_world (segment_table p.footer.content) s plan.start) [] k) settings
      (subst (λ t. Stands (table_world (segment_table p.footer.content) (settings_of mid) t) [] k) (tail-start file plan.start p.tail tail)
      (subst (λ ts. Stands (table_world ts (settings_of mid) (tail_start p.tail)) [] k) same stands))

  pub own-bytes : IsTailAt file plan.start p.tail → (k : Kept) → ((file : List ℕ) → IsEnd file p.tail → HasBytes file k) → HasBytes file k
  own-bytes tail k bytes = bytes file (tail-end file plan.start p.tail tail)
