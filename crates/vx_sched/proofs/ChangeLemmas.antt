-- Reads in order of their numbers, and what changes of some leave of them.
use Rattle.std.proofs.Common.{◌≡◌, ℕ, ◌+◌, ◌<◌, ◌≤◌, ◌==◌, ◌∷◌, ◌++◌, Bool, true, false, cond, [], Option, Some, None, unwrap_or, ◌⊎◌, inl, inr, refl, ap, sym, ◌∙◌, arith}
use Rattle.std.proofs.lemmas.Bool.{cases_lt}
use Rattle.std.proofs.lemmas.Bool.Decides.{nat_tests}
use Rattle.vx_sched.specs.Reads.{Known, Reads, read_at, Rise, keep, change, register_read}
use Rattle.vx_sched.specs.declared.request.ReadRequest.{ReadRequest}

-- a bound below the numbers
pub rise-less : (m n : ℕ) (reads : Reads) → n ≤ m → Rise m reads → Rise n reads
rise-less m n [] h r = tt
rise-less m n (x ∷ rest) h r = (let a = r.0 in omega arith, r.1)

-- no read has a number below the bound
pub rise-none : (n : ℕ) (reads : Reads) (q : ℕ) → Rise n reads → q < n → read_at reads q ≡ None
rise-none n [] q r h = refl
rise-none n (x ∷ rest) q r h =
    let a = r.0 in
    let apart : (x.request.id == q) ≡ false = grind (arith, nat_tests) in
    let past : q < x.request.id + 1 = omega arith in
    ap (λ b. cond b (Some x) (read_at rest q)) apart ∙ rise-none (x.request.id + 1) rest q r.1 past

none-some : {A : Type 0} (x : A) → None ≡ Some x → ⊥
none-some x h = cc

same-head : (x y : Known) (a b : Reads) (c : Bool) → (x.request.id == y.request.id) ≡ c → Rise (x.request.id + 1) a → Rise (y.request.id + 1) b
    → ((q : ℕ) → read_at (x ∷ a) q ≡ read_at (y ∷ b) q) → (x ≡ y) × ((q : ℕ) → read_at a q ≡ read_at b q)
same-head x y a b true e ra rb h =
    let same : x.request.id ≡ y.request.id = grind (arith, nat_tests) in
    let here : (x.request.id == x.request.id) ≡ true = grind (arith, nat_tests) in
    let there : (y.request.id == x.request.id) ≡ true = grind (arith, nat_tests) in
    let one : Some x ≡ Some y = sym (ap (λ t. cond t (Some x) (read_at a x.request.id)) here) ∙ h x.request.id ∙ ap (λ t. cond t (Some y) (read_at b x.request.id)) there in
    (ap (λ (o : Option Known). unwrap_or o x) one, λ q. tails q (x.request.id == q) refl)
  where
    tails : (q : ℕ) (t : Bool) → (x.request.id == q) ≡ t → read_at a q ≡ read_at b q
    tails q true k =
        let low : q < x.request.id + 1 = grind (arith, nat_tests) in
        let also : q < y.request.id + 1 = grind (arith, nat_tests) in
        rise-none (x.request.id + 1) a q ra low ∙ sym (rise-none (y.request.id + 1) b q rb also)
    tails q false k =
        let other : (y.request.id == q) ≡ false = grind (arith, nat_tests) in
        sym (ap (λ t. cond t (Some x) (read_at a q)) k) ∙ h q ∙ ap (λ t. cond t (Some y) (read_at b q)) other
same-head x y a b false e ra rb h = absurd (clash (cases_lt x.request.id y.request.id))
  where
    selfish : (n : ℕ) → (n == n) ≡ true
    selfish n = grind (arith, nat_tests)

    clash : (x.request.id < y.request.id) ⊎ (y.request.id ≤ x.request.id) → ⊥
    clash (inl l) =
        let apart : (y.request.id == x.request.id) ≡ false = grind (arith, nat_tests) in
        let past : x.request.id < y.request.id + 1 = omega arith in
        none-some x (sym (rise-none (y.request.id + 1) b x.request.id rb past) ∙ sym (ap (λ t. cond t (Some y) (read_at b x.request.id)) apart)
        ∙ sym (h x.request.id) ∙ ap (λ t. cond t (Some x) (read_at a x.request.id)) (selfish x.request.id))
    clash (inr l) =
        let past : y.request.id < x.request.id + 1 = omega arith in
        none-some y (sym (rise-none (x.request.id + 1) a y.request.id ra past) ∙ sym (ap (λ t. cond t (Some x) (read_at a y.request.id)) e)
        ∙ h y.request.id ∙ ap (λ t. cond t (Some y) (read_at b y.request.id)) (selfish y.request.id))

-- reads are told by their look-ups
pub same-reads : (m n : ℕ) (a b : Reads) → Rise m a → Rise n b → ((q : ℕ) → read_at a q ≡ read_at b q) → a ≡ b
same-reads m n [] [] ra rb h = refl
same-reads m n [] (y ∷ b) ra rb h =
    let self : (y.request.id == y.request.id) ≡ true = grind (arith, nat_tests) in
    absurd (none-some y (h y.request.id ∙ ap (λ t. cond t (Some y) (read_at b y.request.id)) self))
same-reads m n (x ∷ a) [] ra rb h =
    let self : (x.request.id == x.request.id) ≡ true = grind (arith, nat_tests) in
    absurd (none-some x (sym (h x.request.id) ∙ ap (λ t. cond t (Some x) (read_at a x.request.id)) self))
same-reads m n (x ∷ a) (y ∷ b) ra rb h =
    let parts = same-head x y a b (x.request.id == y.request.id) refl ra.1 rb.1 h in
    let rest = same-reads (x.request.id + 1) (y.request.id + 1) a b ra.1 rb.1 parts.1 in
    ap (λ z. z ∷ a) parts.0 ∙ ap (λ zs. y ∷ zs) rest

-- what a change makes of a look-up
abbrev pub step : (Known → Option Known) → Option Known → Option Known
step made None = None
step made (Some x) = made x

-- a change keeps numbers
abbrev pub KeepsNumbers : (Known → Option Known) → Type 0
KeepsNumbers made = (x y : Known) → made x ≡ Some y → y.request.id ≡ x.request.id

made-number : (among : ℕ → Bool) (made : Known → Option Known) (x y : Known) → KeepsNumbers made → cond (among x.request.id) (made x) (Some x) ≡ Some y → y.request.id ≡ x.request.id
made-number among made x y k h = at (among x.request.id) h
  where
    at : (b : Bool) → cond b (made x) (Some x) ≡ Some y → y.request.id ≡ x.request.id
    at true h = k x y h
    at false h = ap (λ (o : Option Known). (unwrap_or o x).request.id) (sym h)

step-none : (made : Known → Option Known) (b : Bool) → cond b (step made None) None ≡ None
step-none made true = refl
step-none made false = refl

-- a look-up after a change
pub change-at : (among : ℕ → Bool) (made : Known → Option Known) (n : ℕ) (reads : Reads) (q : ℕ) → KeepsNumbers made → Rise n reads
    → read_at (change among made reads) q ≡ cond (among q) (step made (read_at reads q)) (read_at reads q)
change-at among made n [] q k r = sym (step-none made (among q))
change-at among made n (x ∷ rest) q k r =
    kept (cond (among x.request.id) (made x) (Some x)) refl (change-at among made (x.request.id + 1) rest q k r.1)
  where
    kept : (o : Option Known) → cond (among x.request.id) (made x) (Some x) ≡ o
        → read_at (change among made rest) q ≡ cond (among q) (step made (read_at rest q)) (read_at rest q)
        → read_at (keep o (change among made rest)) q ≡ cond (among q) (step made (read_at (x ∷ rest) q)) (read_at (x ∷ rest) q)
    kept None e ih = at (x.request.id == q) refl
      where
        at : (b : Bool) → (x.request.id == q) ≡ b → read_at (change among made rest) q ≡ cond (among q) (step made (cond (x.request.id == q) (Some x) (read_at rest q))) (cond (x.request.id == q) (Some x) (read_at rest q))
        at true h =
            let same : x.request.id ≡ q = grind (arith, nat_tests) in
            let low : q < x.request.id + 1 = omega arith in
            let none = rise-none (x.request.id + 1) rest q r.1 low in
            ih ∙ ap (λ z. cond (among q) (step made z) z) none ∙ step-none made (among q) ∙ sym e
            ∙ ap (λ m. cond (among m) (made x) (Some x)) same ∙ sym (ap (λ t. cond (among q) (step made (cond t (Some x) (read_at rest q))) (cond t (Some x) (read_at rest q))) h)
        at false h = ih ∙ sym (ap (λ t. cond (among q) (step made (cond t (Some x) (read_at rest q))) (cond t (Some x) (read_at rest q))) h)
    kept (Some y) e ih = at (x.request.id == q) refl
      where
        number : y.request.id ≡ x.request.id
        number = made-number among made x y k e

        at : (b : Bool) → (x.request.id == q) ≡ b → cond (y.request.id == q) (Some y) (read_at (change among made rest) q)
            ≡ cond (among q) (step made (cond (x.request.id == q) (Some x) (read_at rest q))) (cond (x.request.id == q) (Some x) (read_at rest q))
        at true h =
            let same : x.request.id ≡ q = grind (arith, nat_tests) in
            ap (λ m. cond (m == q) (Some y) (read_at (change among made rest) q)) number
            ∙ ap (λ t. cond t (Some y) (read_at (change among made rest) q)) h ∙ sym e
            ∙ ap (λ m. cond (among m) (made x) (Some x)) same ∙ sym (ap (λ t. cond (among q) (step made (cond t (Some x) (read_at rest q))) (cond t (Some x) (read_at rest q))) h)
        at false h =
            ap (λ m. cond (m == q) (Some y) (read_at (change among made rest) q)) number
            ∙ ap (λ t. cond t (Some y) (read_at (change among made rest) q)) h ∙ ih
            ∙ sym (ap (λ t. cond (among q) (step made (cond t (Some x) (read_at rest q))) (cond t (Some x) (read_at rest q))) h)

-- the numbers rise after a change
pub change-rise : (among : ℕ → Bool) (made : Known → Option Known) (n : ℕ) (reads : Reads) → KeepsNumbers made → Rise n reads → Rise n (change among made reads)
change-rise among made n [] k r = tt
change-rise among made n (x ∷ rest) k r = kept (cond (among x.request.id) (made x) (Some x)) refl (change-rise among made (x.request.id + 1) rest k r.1)
  where
    kept : (o : Option Known) → cond (among x.request.id) (made x) (Some x) ≡ o → Rise (x.request.id + 1) (change among made rest) → Rise n (keep o (change among made rest))
    kept None e m = let a = r.0 in rise-less (x.request.id + 1) n (change among made rest) (omega arith) m
    kept (Some y) e m = rw (made-number among made x y k e) (r.0, m)

-- a look-up after a read was added
pub added-at : (reads : Reads) (r : ReadRequest) (q : ℕ) → read_at reads r.id ≡ None
    → read_at (reads ++ register_read r ∷ []) q ≡ cond (r.id == q) (Some (register_read r)) (read_at reads q)
added-at [] r q h = refl
added-at (x ∷ rest) r q h = head (x.request.id == r.id) refl h (added-at rest r q)
  where
    head : (t : Bool) → (x.request.id == r.id) ≡ t → cond t (Some x) (read_at rest r.id) ≡ None
        → (read_at rest r.id ≡ None → read_at (rest ++ register_read r ∷ []) q ≡ cond (r.id == q) (Some (register_read r)) (read_at rest q))
        → cond (x.request.id == q) (Some x) (read_at (rest ++ register_read r ∷ []) q) ≡ cond (r.id == q) (Some (register_read r)) (cond (x.request.id == q) (Some x) (read_at rest q))
    head true e k more = cc
    head false e k more = at (x.request.id == q) refl (more k)
      where
        at : (b : Bool) → (x.request.id == q) ≡ b → read_at (rest ++ register_read r ∷ []) q ≡ cond (r.id == q) (Some (register_read r)) (read_at rest q)
            → cond b (Some x) (read_at (rest ++ register_read r ∷ []) q) ≡ cond (r.id == q) (Some (register_read r)) (cond b (Some x) (read_at rest q))
        at true g ih =
            let apart : (r.id == q) ≡ false = grind (arith, nat_tests) in
            sym (ap (λ t. cond t (Some (register_read r)) (Some x)) apart)
        at false g ih = ih

-- the numbers rise after a read was added above them
pub added-rise : (n : ℕ) (reads : Reads) (r : ReadRequest) → n ≤ r.id → Rise n reads → ((q : ℕ) → r.id ≤ q → read_at reads q ≡ None) → Rise n (reads ++ register_read r ∷ [])
added-rise n [] r h s none = (h, tt)
added-rise n (x ∷ rest) r h s none =
    let self : (x.request.id == x.request.id) ≡ true = grind (arith, nat_tests) in
    let below : x.request.id + 1 ≤ r.id = under (cases_lt x.request.id r.id) self in
    (s.0, added-rise (x.request.id + 1) rest r below s.1 (λ q l. past q l (x.request.id == q) refl (none q l)))
  where
    under : (x.request.id < r.id) ⊎ (r.id ≤ x.request.id) → (x.request.id == x.request.id) ≡ true → x.request.id + 1 ≤ r.id
    under (inl l) self = omega arith
    under (inr l) self = absurd (none-some x (sym (none x.request.id l) ∙ ap (λ t. cond t (Some x) (read_at rest x.request.id)) self))

    past : (q : ℕ) → r.id ≤ q → (t : Bool) → (x.request.id == q) ≡ t → cond t (Some x) (read_at rest q) ≡ None → read_at rest q ≡ None
    past q l true e k = cc
    past q l false e k = k
