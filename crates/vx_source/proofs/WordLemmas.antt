-- What the words of a history say one of another.
use Rattle.std.proofs.Common.{◌≡◌, ℕ, ◌<◌, ◌≤◌, Bool, true, false, cond, List, [], ◌∷◌, ◌++◌, length, Option, Some, None, refl, sym, ap, ◌∙◌, arith, ◌==◌, ◌&&◌}
use Rattle.std.specs.Prelude.{slice_get, is_some, option_and_then}
use Rattle.std.specs.Option.{option_map}
use Rattle.std.proofs.lemmas.Bool.{eq-eqb}
use Rattle.vx_sched.specs.Scheduling.{Scheduler, IsLegal, replay, after_event}
use Rattle.vx_sched.specs.declared.event.Event.{Event}
use Rattle.vx_source.specs.Fits.{World, read_request}
use Rattle.vx_source.specs.History.{is_that}
use Rattle.vx_source.specs.Kept.{Kept, standing_in, standing_at, users_in}
use Rattle.vx_source.specs.Stands.{Words, HasWords, users_of, request_of}
use Rattle.vx_source.specs.Requests.{Request, SharedRead}
use Rattle.vx_source.proofs.SlotLemmas.{get-some, get-past, get-within}
use Rattle.vx_source.proofs.TallyLemmas.{count-some}

pub eq-self : (n : ℕ) → (n == n) ≡ true
eq-self n = eq-eqb n n refl

pub that-self : (r : ℕ) → is_that r (Some r) ≡ true
that-self r = eq-self r

-- ---- events

pub replay-append : (s : Scheduler) (xs ys : List Event) → replay s (xs ++ ys) ≡ replay (replay s xs) ys
replay-append s [] ys = refl
replay-append s (e ∷ xs) ys = replay-append (after_event s e) xs ys

pub legal-append : (s : Scheduler) (xs ys : List Event) → IsLegal s xs → IsLegal (replay s xs) ys → IsLegal s (xs ++ ys)
legal-append s [] ys a b = b
legal-append s (e ∷ xs) ys a b = (a.0, legal-append (after_event s e) xs ys a.1 b)

-- ---- numbers

standing-parts : (b : Bool) (o x : Option ℕ) → cond b (Some o) None ≡ Some x → (b ≡ true) × (o ≡ x)
standing-parts true o x e = (refl, cc)
standing-parts false o x e = cc

module _ (w : World) (v : Words) (k : Kept) (st : HasWords w v k) where
  -- a number that stands is live and has its read
  pub live-of : (n : ℕ) (x : Option ℕ) → standing_at k.requests n ≡ Some x → (v.live n ≡ true) × (v.read n ≡ x)
  live-of n x e = standing-parts (v.live n) (v.read n) x (sym (st.standing n) ∙ e)

  found-within : (n : ℕ) (o : Option Request) (x : Option ℕ) → slice_get k.requests n ≡ o → standing_in o ≡ Some x → n < length k.requests
  found-within n None x e h = cc
  found-within n (Some q) x e h = get-some k.requests n q e

  -- it was made
  pub within-of : (n : ℕ) (x : Option ℕ) → standing_at k.requests n ≡ Some x → n < v.made
  within-of n x e =
      let l = found-within n (slice_get k.requests n) x refl e in
      let count = st.count in
      omega (arith, l, count)

  -- its read has a live number
  pub used-of : (n r : ℕ) → standing_at k.requests n ≡ Some (Some r) → 1 ≤ users_of v r
  used-of n r e =
      let h = live-of n (Some r) e in
      count-some v.made n (λ i. v.live i && is_that r (v.read i)) (within-of n (Some r) e)
      (ap (λ b. b && is_that r (v.read n)) h.0 ∙ ap (λ o. true && is_that r o) h.1 ∙ that-self r)

  users-found : (o : Option SharedRead) → 1 ≤ users_in o → (x : SharedRead) × (o ≡ Some x)
  users-found None h = absurd (omega arith)
  users-found (Some x) h = (x, refl)

  -- a read with a live number has its place
  pub read-found : (r : ℕ) → 1 ≤ users_of v r → (x : SharedRead) × (slice_get k.reads r ≡ Some x)
  read-found r h = users-found (slice_get k.reads r) (let e = st.users r in omega (arith, e))

  -- a number that was not made is not live
  unlive : (b : Bool) (o : Option ℕ) → cond b (Some o) None ≡ None → b ≡ false
  unlive true o e = cc
  unlive false o e = refl

  pub not-live : (n : ℕ) → standing_at k.requests n ≡ None → v.live n ≡ false
  not-live n e = unlive (v.live n) (v.read n) (sym (st.standing n) ∙ e)

  pub unmade-live : (n : ℕ) → v.made ≤ n → v.live n ≡ false
  unmade-live n h =
      let count = st.count in
      unlive (v.live n) (v.read n) (sym (st.standing n) ∙ ap standing_in (get-past k.requests n (omega (arith, count))))

  -- a read with a live number asks for its segment
  pub request-some : (r : ℕ) → 1 ≤ users_of v r → is_some (request_of w v r) ≡ true
  request-some r h =
      let x = read-found r h in
      let l = get-some k.reads r x.0 x.1 in
      let places = st.places in
      let count = st.count in
      let q = get-within k.requests r (slice_get k.requests r) refl (omega (arith, l, places, count)) in
      let segment : v.segment r ≡ Some q.0.segment = sym (st.segment r) ∙ ap (λ o. option_map (λ (y : Request). y.segment) o) q.1 in
      let spec = get-within w.table q.0.segment (slice_get w.table q.0.segment) refl (st.known.known r q.0.segment segment) in
      ap (λ o. is_some (option_map (read_request r) (option_and_then (slice_get w.table) o))) segment
      ∙ ap (λ o. is_some (option_map (read_request r) o)) spec.1

  -- the read of a live number has one
  pub live-used : (n r : ℕ) → v.live n ≡ true → v.read n ≡ Some r → 1 ≤ users_of v r
  live-used n r live read = used-of n r (st.standing n ∙ ap (λ b. cond b (Some (v.read n)) None) live ∙ ap (λ o. Some o) read)
