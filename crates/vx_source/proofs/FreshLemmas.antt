-- A session without requests.
use Rattle.std.proofs.Common.{◌≡◌, ℕ, ◌+◌, ◌^◌, ◌<◌, Bool, true, false, List, [], ◌∷◌, ◌++◌, length, Option, Some, None, refl, ap, ◌∙◌, subst, arith, ◌==◌}
use Rattle.std.specs.Prelude.{slice_get}
use Rattle.std.proofs.lemmas.Bool.{eqb-true, eqb-false}
use Rattle.vx_base.specs.declared.segment.SegmentSpec.{SegmentSpec}
use Rattle.vx_sched.specs.Scheduling.{Scheduler}
use Rattle.vx_sched.specs.Law.{idle}
use Rattle.vx_sched.proofs.LawRuns.{idle-sound}
use Rattle.vx_source.specs.Events.{no_metrics}
use Rattle.vx_source.specs.Fits.{World}
use Rattle.vx_source.specs.Kept.{IsBlank, flatten, latest_at, tail_start}
use Rattle.vx_source.specs.Stands.{IsIdle, Stands}
use Rattle.vx_source.specs.declared.tail.Tail.{Tail}
use Rattle.vx_source.proofs.SlotLemmas.{get-push_last, get-push_other}

pub blank-push : (xs : List (Option ℕ)) → IsBlank xs → IsBlank (xs ++ None ∷ [])
blank-push xs h s = at (s == length xs) refl
  where
    at : (b : Bool) → (s == length xs) ≡ b → latest_at (xs ++ None ∷ []) s ≡ None
    at true e = ap (latest_at (xs ++ None ∷ [])) (eqb-true s (length xs) e) ∙ ap flatten (get-push_last xs None)
    at false e = ap flatten (get-push_other xs None s (eqb-false s (length xs) e)) ∙ h s

-- nothing was registered yet
pub fresh : (w : World) (table : List SegmentSpec) (tail : Option Tail) (latest : List (Option ℕ)) → (distance limit : Option ℕ) (alignment concurrency : ℕ)
    → table ≡ w.table → tail_start tail ≡ w.start → idle distance limit alignment concurrency ≡ w.idle → length latest ≡ length w.table → IsBlank latest
    → ((s : ℕ) (spec : SegmentSpec) → slice_get w.table s ≡ Some spec → spec.offset + spec.length < 2 ^ 64)
    → Stands w [] (record { table = table; tail = tail; idle = idle distance limit alignment concurrency; core = idle distance limit alignment concurrency; requests = []; reads = []; latest = latest; metrics = no_metrics })
fresh w table tail latest distance limit alignment concurrency t s i l blank ends = record {
  table = t;
  start = s;
  idle = i;
  rested = subst IsIdle i (record { reads = refl; next = refl });
  core = i;
  legal = tt;
  ties = record {
    waiting = λ q. refl;
    due = λ q. refl;
    settings = record {
      distance = ap (λ (x : Scheduler). x.distance) i;
      limit = ap (λ (x : Scheduler). x.limit) i;
      alignment = ap (λ (x : Scheduler). x.alignment) i;
      concurrency = ap (λ (x : Scheduler). x.concurrency) i;
    };
    next = omega arith;
    rests = refl;
    sound = idle-sound distance limit alignment concurrency;
  };
  known = record { known = λ n q e. cc; held = λ n q e. cc; shared = λ n r q e h. cc; newest = λ q r e. cc; joined = λ n r s l read segment fine. cc };
  count = refl;
  places = refl;
  segments = l;
  standing = λ n. refl;
  segment = λ n. refl;
  users = λ r. refl;
  polled = λ r o. refl;
  outcome = λ r. refl;
  bytes = λ r u g. absurd (omega arith);
  latest = blank;
  metrics = refl;
  ends = ends;
}
