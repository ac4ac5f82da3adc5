-- The law of calls.
use Rattle.std.proofs.Common.{◌≡◌, ℕ, List, [], ◌∷◌, ◌++◌, map, Option, refl, ap, sym, ◌∙◌, subst, arith}
use Rattle.vx_sched.specs.Span.{Span}
use Rattle.vx_sched.specs.Scheduling.{Scheduler, MayHappen, IsLegal, stepped, after_event, resolved, all_taken, all_resolved, replay}
use Rattle.vx_sched.specs.Law.{IsSound, idle}
use Rattle.vx_sched.specs.Calls.{Call, told, refused, took, gave, gave_none, resolves, settles, IsCall, AreCalls, IsReplay, event_of, events_of, all_events}
use Rattle.vx_sched.proofs.LawRuns.{sound-run, idle-sound, keeps}
use Rattle.vx_sched.proofs.SoundLemmas.{sound-all_taken}
use Rattle.vx_sched.proofs.ChainLemmas.{may-take, all-fly, turn-apart}
use Rattle.vx_sched.proofs.ChainLemmas.{resolves as resolves-legal}
use Rattle.vx_sched.specs.declared.event.ReadEvent.{ReadEvent}
use Rattle.vx_sched.specs.declared.event.ReadEvent.TheVariants as asked
use Rattle.vx_sched.specs.declared.event.Event.{Event}
use Rattle.vx_sched.specs.declared.event.Event.TheVariants as event

replay-append : (s : Scheduler) (xs ys : List Event) → replay s (xs ++ ys) ≡ replay (replay s xs) ys
replay-append s [] ys = refl
replay-append s (e ∷ xs) ys = replay-append (after_event s e) xs ys

legal-append : (s : Scheduler) (xs ys : List Event) → IsLegal s xs → IsLegal (replay s xs) ys → IsLegal s (xs ++ ys)
legal-append s [] ys a b = b
legal-append s (e ∷ xs) ys a b = (a.0, legal-append (after_event s e) xs ys a.1 b)

replay-resolves : (s : Scheduler) (spans : List Span) → replay s (map event.Resolve spans) ≡ all_resolved s spans
replay-resolves s [] = refl
replay-resolves s (span ∷ rest) = replay-resolves (resolved s span) rest

-- the events of a call are legal, and their replay is its state
pub record Steps (s : Scheduler) (events : List Event) (t : Scheduler) : Type 0 where
  pub legal : IsLegal s events
  pub state : t ≡ replay s events

told-steps : (e : ReadEvent) (s t : Scheduler) → MayHappen s e → t ≡ stepped s e → Steps s (event_of e ∷ []) t
told-steps (asked.Request r) s t m h = record { legal = (m, tt); state = h }
told-steps (asked.Polled id) s t m h = record { legal = (m, tt); state = h }
told-steps (asked.Dropped id) s t m h = record { legal = (m, tt); state = h }

call-steps : (c : Call) (s t : Scheduler) → IsSound s → IsCall c s t → Steps s (events_of c) t
call-steps (told e) s t h k = told-steps e s t k.0 k.1
call-steps refused s t h k = record { legal = tt; state = k }
call-steps (took spans) s t h k = record { legal = (k.0, tt); state = k.1 }
call-steps (gave span) s t h k =
    let fits = k.0 in
    record { legal = (may-take s (span ∷ []) 1 h (k.1, tt) (omega arith) (omega (arith, fits)) (omega arith), tt); state = k.2 }
call-steps gave_none s t h k = record { legal = tt; state = k }
call-steps (resolves span) s t h k = record { legal = (k.0, tt); state = k.1 }
call-steps (settles spans) s t h k =
    record {
      legal = (k.0, resolves-legal (all_taken s spans) spans (sound-all_taken s spans h k.0.merge) (all-fly s spans h k.0.merge) (turn-apart s spans h k.0.merge));
      state = k.1 ∙ sym (replay-resolves (all_taken s spans) spans);
    }

calls-step : (calls : List Call) (s t : Scheduler) → IsSound s → AreCalls calls s t → Steps s (all_events calls) t
calls-step [] s t h k = record { legal = tt; state = k }
calls-step (c ∷ rest) s t h k =
    let one = call-steps c s k.0 h k.1.0 in
    let sound = subst IsSound (sym one.state) (sound-run (events_of c) s h one.legal) in
    let more = calls-step rest k.0 t sound k.1.1 in
    record {
      legal = legal-append s (events_of c) (all_events rest) one.legal (subst (λ (m : Scheduler). IsLegal m (all_events rest)) one.state more.legal);
      state = more.state ∙ ap (λ (m : Scheduler). replay m (all_events rest)) one.state ∙ sym (replay-append s (events_of c) (all_events rest));
    }

pub calls-replay : (distance limit : Option ℕ) (alignment concurrency : ℕ) (calls : List Call) (t : Scheduler)
    → AreCalls calls (idle distance limit alignment concurrency) t → IsReplay (idle distance limit alignment concurrency) (all_events calls) t
calls-replay distance limit alignment concurrency calls t k =
    let steps = calls-step calls (idle distance limit alignment concurrency) t (idle-sound distance limit alignment concurrency) k in
    record { legal = steps.legal; state = steps.state; keeps = keeps distance limit alignment concurrency (all_events calls) steps.legal }
