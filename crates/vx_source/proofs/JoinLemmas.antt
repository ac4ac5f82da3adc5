-- Laws of the histories that a session stands for.
use Rattle.std.proofs.Common.{◌≡◌, ℕ, ◌≤◌, Bool, true, false, cond, not, List, [], Option, Some, None, refl, sym, ap, ◌∙◌, subst, arith, ◌&&◌}
use Rattle.std.specs.Prelude.{slice_get, nat_le, option_and_then}
use Rattle.std.specs.Option.{option_map}
use Rattle.std.proofs.lemmas.Bool.{eqb-true, le-leb, leb-true, and_parts}
use Rattle.vx_sched.specs.Law.{Keeps, idle}
use Rattle.vx_sched.specs.Reads.{Reads}
use Rattle.vx_sched.specs.Scheduling.{Scheduler, IsLegal}
use Rattle.vx_sched.proofs.LawRuns.{keeps}
use Rattle.vx_source.specs.Events.{events}
use Rattle.vx_source.specs.Fits.{World}
use Rattle.vx_source.specs.History.{Moment, is_live, is_that, read_of, segment_of, outcome_of, is_bad, joins, if_open, joinable, users, uses}
use Rattle.vx_source.specs.Kept.{Kept}
use Rattle.vx_source.specs.Stands.{Stands, words}
use Rattle.vx_source.specs.Requests.{Request}
use Rattle.vx_source.proofs.SlotLemmas.{get-within}
use Rattle.vx_source.proofs.TallyLemmas.{count-found}
use Rattle.vx_source.proofs.WordLemmas.{live-used}

module _ (w : World) (past : List Moment) (k : Kept) (st : Stands w past k) where
  -- the settings, without reads
  idle-is : w.idle ≡ idle w.idle.distance w.idle.limit w.idle.alignment w.idle.concurrency
  idle-is = ap (λ (rs : Reads). record w.idle { reads = rs }) st.rested.reads ∙ ap (λ n. record w.idle { reads = []; next = n }) st.rested.next

  pub keeps-law : Keeps w.idle (events w past)
  keeps-law = subst (λ (s : Scheduler). Keeps s (events w past)) (sym idle-is)
      (keeps w.idle.distance w.idle.limit w.idle.alignment w.idle.concurrency (events w past) (subst (λ (s : Scheduler). IsLegal s (events w past)) idle-is st.legal))

  pub joins-law : (n r s : ℕ) → is_live past n ≡ true → read_of past n ≡ Some r → segment_of past n ≡ Some s → is_bad (outcome_of past r) ≡ false → joinable past s ≡ Some r
  joins-law n r s live read segment fine =
      ap (option_and_then (if_open (joins past) past)) (st.known.joined n r s live read segment fine)
      ∙ ap (λ b. cond (b && not (is_bad (outcome_of past r))) (Some r) None) (le-leb 1 (users past r) (live-used w (words w past) k st n r live read))
      ∙ ap (λ b. cond (true && not b) (Some r) None) fine

  open-parts : (b c : Bool) (q r : ℕ) → cond (b && not c) (Some q) None ≡ Some r → (q ≡ r) × (b ≡ true) × (c ≡ false)
  open-parts true false q r e = let same : q ≡ r = cc in (same, refl, refl)
  open-parts true true q r e = cc
  open-parts false c q r e = cc

  opened : (o : Option ℕ) (r : ℕ) → option_and_then (if_open (joins past) past) o ≡ Some r → (o ≡ Some r) × (1 ≤ users past r) × (is_bad (outcome_of past r) ≡ false)
  opened None r e = cc
  opened (Some q) r e =
      let parts = open-parts (nat_le 1 (users past q)) (is_bad (outcome_of past q)) q r e in
      (ap (λ n. Some n) parts.0, leb-true 1 (users past r) (subst (λ n. nat_le 1 (users past n) ≡ true) parts.0 parts.1), subst (λ n. is_bad (outcome_of past n) ≡ false) parts.0 parts.2)

  that-is : (r : ℕ) (o : Option ℕ) → is_that r o ≡ true → o ≡ Some r
  that-is r None e = cc
  that-is r (Some q) e = ap (λ n. Some n) (eqb-true q r e)

  pub others-law : (r s : ℕ) → joinable past s ≡ Some r
      → (n : ℕ) × ((is_live past n ≡ true) × (read_of past n ≡ Some r) × (segment_of past n ≡ Some s) × (is_bad (outcome_of past r) ≡ false))
  others-law r s e =
      let parts = opened ((words w past).latest s) r e in
      let user = count-found (words w past).made (uses (words w past).live (words w past).read r) parts.1 in
      let n = user.0 in
      let both = and_parts (is_live past n) (is_that r (read_of past n)) user.1.1 in
      let read = that-is r (read_of past n) both.1 in
      let count = st.count in
      let below = user.1.0 in
      let there = get-within k.requests n (slice_get k.requests n) refl (omega (arith, count, below)) in
      let segment : segment_of past n ≡ Some there.0.segment = sym (st.segment n) ∙ ap (option_map (λ (q : Request). q.segment)) there.1 in
      let mine : segment_of past r ≡ Some there.0.segment = st.known.shared n r there.0.segment read segment in
      let newest : segment_of past r ≡ Some s = st.known.newest s r parts.0 in
      let same : Some there.0.segment ≡ Some s = sym mine ∙ newest in
      (n, (both.0, read, segment ∙ same, parts.2))
