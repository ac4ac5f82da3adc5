-- The reads in flight in a span, as a list in order.
use Rattle.std.proofs.Common.{◌≡◌, ℕ, ◌≤◌, ◌==◌, ◌||◌, Bool, true, false, cond, List, [], ◌∷◌, length, Option, Some, None, unwrap_or, refl, ap, sym, ◌∙◌, subst, arith}
use Rattle.std.specs.Prelude.{is_some}
use Rattle.std.proofs.lemmas.Bool.Decides.{nat_tests}
use Rattle.std.proofs.lemmas.Map.Keys.{sorted_head, sorted_tail}
use Rattle.std.specs.List.{AllByRecursion}
use Rattle.std.specs.List.Sorted.{IsStrictlySortedBy}
use Rattle.std.specs.Map.{keys_of}
use Rattle.std.specs.BTreeMap.{is_at}
use Rattle.std.specs.Ordering.{nat_cmp}
use Rattle.std.specs.declared.cmp.Ordering.TheVariants.{Less}
use Rattle.vx_sched.specs.Merging.{is_before, is_in_order, is_in_order_after, is_listed}
use Rattle.vx_sched.specs.Insert.{insert_read}
use Rattle.vx_sched.specs.Entries.{Entries, entry_at, flies_under, group}
use Rattle.vx_sched.proofs.InsertLemmas.{and-true, insert-order, insert-all, is_listed-insert}
use Rattle.vx_sched.proofs.EntriesLemmas.{above-none}
use Rattle.vx_sched.specs.declared.request.ReadRequest.{ReadRequest}
use Rattle.vx_sched.specs.Stored.{Read}

-- each of some reads is the one of its number
abbrev pub AreThose : (ℕ → Option ReadRequest) → List ReadRequest → Type 0
AreThose w reads = AllByRecursion (λ r. w r.id ≡ Some r) reads

before-past : (a b c : ReadRequest) → is_before a b ≡ true → is_before b c ≡ true → is_before a c ≡ true
before-past a b c h k = grind (arith, nat_tests)

before-both : (a b : ReadRequest) → is_before a b ≡ true → is_before b a ≡ true → ⊥
before-both a b h k = grind (arith, nat_tests)

one-of : (w : ℕ → Option ReadRequest) (a b : ReadRequest) → w a.id ≡ Some a → w b.id ≡ Some b → (a.id == b.id) ≡ true → a ≡ b
one-of w a b h k e =
    let same : a.id ≡ b.id = grind (arith, nat_tests) in
    ap (λ (o : Option ReadRequest). unwrap_or o a) (sym h ∙ ap w same ∙ k)

order-tail : (r : ReadRequest) (reads : List ReadRequest) → is_in_order_after r reads ≡ true → is_in_order reads ≡ true
order-tail r [] h = refl
order-tail r (s ∷ rest) h = (and-true (is_before r s) (is_in_order_after s rest) h).1

-- what is listed after a read comes after it
listed-before : (w : ℕ → Option ReadRequest) (a : ReadRequest) (rest : List ReadRequest) (b : ReadRequest) → is_in_order_after a rest ≡ true → AreThose w rest
    → w b.id ≡ Some b → is_listed rest b.id ≡ true → is_before a b ≡ true
listed-before w a [] b o d h l = cc
listed-before w a (s ∷ rest) b o d h l =
    let parts = and-true (is_before a s) (is_in_order_after s rest) o in
    at (s.id == b.id) refl parts.0 l (listed-before w s rest b parts.1 d.1 h)
  where
    at : (t : Bool) → (s.id == b.id) ≡ t → is_before a s ≡ true → (t || is_listed rest b.id) ≡ true → (is_listed rest b.id ≡ true → is_before s b ≡ true) → is_before a b ≡ true
    at true e p k step = subst (λ z. is_before a z ≡ true) (one-of w s b d.0 h e) p
    at false e p k step = before-past a s b p (step k)

or-right : (a b : Bool) → b ≡ true → (a || b) ≡ true
or-right true b h = refl
or-right false b h = h

-- some reads are among others, and are those where they are as many
abbrev pub Fits : List ReadRequest → List ReadRequest → Type 0
Fits xs ys = (length xs ≤ length ys) × (length xs ≡ length ys → xs ≡ ys)

pub among : (w : ℕ → Option ReadRequest) (xs ys : List ReadRequest) → is_in_order xs ≡ true → is_in_order ys ≡ true → AreThose w xs → AreThose w ys
    → ((q : ℕ) → is_listed xs q ≡ true → is_listed ys q ≡ true) → Fits xs ys
among w [] [] oa ob da db h = (omega arith, λ _. refl)
among w [] (b ∷ ys) oa ob da db h = (omega arith, λ e. absurd (omega arith))
among w (a ∷ xs) [] oa ob da db h =
    let self : (a.id == a.id) ≡ true = grind (arith, nat_tests) in
    absurd (cc (h a.id (ap (λ t. t || is_listed xs a.id) self)))
among w (a ∷ xs) (b ∷ ys) oa ob da db h =
    at (b.id == a.id) refl (among w xs ys (order-tail a xs oa) (order-tail b ys ob) da.1 db.1) (among w (a ∷ xs) ys oa (order-tail b ys ob) da db.1)
  where
    self : (a.id == a.id) ≡ true
    self = grind (arith, nat_tests)

    at : (t : Bool) → (b.id == a.id) ≡ t → (((q : ℕ) → is_listed xs q ≡ true → is_listed ys q ≡ true) → Fits xs ys)
        → (((q : ℕ) → is_listed (a ∷ xs) q ≡ true → is_listed ys q ≡ true) → Fits (a ∷ xs) ys) → Fits (a ∷ xs) (b ∷ ys)
    at true e both one =
        let step = both (λ q l. inner q (b.id == q) refl l (h q (or-right (a.id == q) (is_listed xs q) l))) in
        (let n = step.0 in omega arith, λ k. ap (λ z. z ∷ xs) (sym (one-of w b a db.0 da.0 e)) ∙ ap (λ zs. b ∷ zs) (step.1 (omega arith)))
      where
        inner : (q : ℕ) (t : Bool) → (b.id == q) ≡ t → is_listed xs q ≡ true → (t || is_listed ys q) ≡ true → is_listed ys q ≡ true
        inner q true k l m =
            let same : q ≡ a.id = grind (arith, nat_tests) in
            let twice = listed-before w a xs a oa da.1 da.0 (subst (λ n. is_listed xs n ≡ true) same l) in
            absurd (before-both a a twice twice)
        inner q false k l m = m
    at false e both one =
        let step = one (λ q l. inner q (b.id == q) refl l (h q l)) in
        (let n = step.0 in omega arith, λ k. absurd (let n = step.0 in omega arith))
      where
        later : is_listed ys a.id ≡ true
        later = subst (λ t. (t || is_listed ys a.id) ≡ true) e (h a.id (ap (λ t. t || is_listed xs a.id) self))

        first : (t : Bool) → (a.id == b.id) ≡ t → (t || is_listed xs b.id) ≡ true → is_listed xs b.id ≡ true
        first true k l =
            let clash : (b.id == a.id) ≡ true = grind (arith, nat_tests) in
            cc (sym e ∙ clash)
        first false k l = l

        inner : (q : ℕ) (t : Bool) → (b.id == q) ≡ t → is_listed (a ∷ xs) q ≡ true → (t || is_listed ys q) ≡ true → is_listed ys q ≡ true
        inner q true k l m =
            let same : q ≡ b.id = grind (arith, nat_tests) in
            let listed = first (a.id == b.id) refl (subst (λ n. is_listed (a ∷ xs) n ≡ true) same l) in
            absurd (before-both a b (listed-before w a xs b oa da.1 db.0 listed) (listed-before w b ys a ob db.1 da.0 later))
        inner q false k l m = m

-- ---- the group of a number

-- the read of an entry that is in flight in the span of a number
abbrev pub flight : ℕ → Option Read → Option ReadRequest
flight n None = None
flight n (Some x) = cond (flies_under n x.stage) (Some x.request) None

-- each entry stands under its number
abbrev pub AreKeyed : Entries → Type 0
AreKeyed es = AllByRecursion (λ (e : ℕ × Read). e.1.request.id ≡ e.0) es

pub entry-skip : (e : ℕ × Read) (rest : Entries) (q : ℕ) (x : Read) → AllByRecursion (λ y. nat_cmp e.0 y ≡ Less) (keys_of rest) → entry_at rest q ≡ Some x → entry_at (e ∷ rest) q ≡ Some x
entry-skip e rest q x h k = at (is_at (nat_cmp q) e.0) refl
  where
    at : (b : Bool) → is_at (nat_cmp q) e.0 ≡ b → cond (is_at (nat_cmp q) e.0) (Some e.1) (entry_at rest q) ≡ Some x
    at true m =
        let same : q ≡ e.0 = grind (arith, nat_tests) in
        cc (sym (subst (λ n. entry_at rest n ≡ None) (sym same) (above-none e.0 rest h)) ∙ k)
    at false m = ap (λ b. cond b (Some e.1) (entry_at rest q)) m ∙ k

pub keyed-all : (es : Entries) → IsStrictlySortedBy nat_cmp (keys_of es) → ((q : ℕ) (x : Read) → entry_at es q ≡ Some x → x.request.id ≡ q) → AreKeyed es
keyed-all [] s h = tt
keyed-all (e ∷ rest) s h =
    let self : is_at (nat_cmp e.0) e.0 ≡ true = grind (arith, nat_tests) in
    let head = sorted_head nat_cmp e.0 (keys_of rest) s in (
      h e.0 e.1 (ap (λ b. cond b (Some e.1) (entry_at rest e.0)) self),
      keyed-all rest (sorted_tail nat_cmp e.0 (keys_of rest) s) (λ q x k. h q x (entry-skip e rest q x head k)),
    )

-- a look-up behind the first entry
behind : (e : ℕ × Read) (rest : Entries) (q : ℕ) → (e.0 == q) ≡ false → entry_at (e ∷ rest) q ≡ entry_at rest q
behind e rest q h =
    let apart : is_at (nat_cmp q) e.0 ≡ false = grind (arith, nat_tests) in
    ap (λ b. cond b (Some e.1) (entry_at rest q)) apart

-- a look-up of the first entry
here : (e : ℕ × Read) (rest : Entries) (q : ℕ) → (e.0 == q) ≡ true → entry_at (e ∷ rest) q ≡ Some e.1
here e rest q h =
    let same : is_at (nat_cmp q) e.0 ≡ true = grind (arith, nat_tests) in
    ap (λ b. cond b (Some e.1) (entry_at rest q)) same

gone-behind : (e : ℕ × Read) (rest : Entries) (q : ℕ) → AllByRecursion (λ y. nat_cmp e.0 y ≡ Less) (keys_of rest) → (e.0 == q) ≡ true → entry_at rest q ≡ None
gone-behind e rest q h k =
    let same : e.0 ≡ q = grind (arith, nat_tests) in
    subst (λ n. entry_at rest n ≡ None) same (above-none e.0 rest h)

-- which reads are in the group
pub group-listed : (n : ℕ) (es : Entries) (q : ℕ) → IsStrictlySortedBy nat_cmp (keys_of es) → AreKeyed es → is_listed (group n es) q ≡ is_some (flight n (entry_at es q))
group-listed n [] q s k = refl
group-listed n (e ∷ rest) q s k =
    at (e.0 == q) refl (flies_under n e.1.stage) refl (group-listed n rest q (sorted_tail nat_cmp e.0 (keys_of rest) s) k.1)
  where
    head : AllByRecursion (λ y. nat_cmp e.0 y ≡ Less) (keys_of rest)
    head = sorted_head nat_cmp e.0 (keys_of rest) s

    or-nil : (a : Bool) → (a || false) ≡ a
    or-nil true = refl
    or-nil false = refl

    or-all : (a : Bool) → (a || true) ≡ true
    or-all true = refl
    or-all false = refl

    at : (b : Bool) → (e.0 == q) ≡ b → (f : Bool) → flies_under n e.1.stage ≡ f → is_listed (group n rest) q ≡ is_some (flight n (entry_at rest q))
        → is_listed (cond f (insert_read e.1.request (group n rest)) (group n rest)) q ≡ is_some (flight n (entry_at (e ∷ rest) q))
    at true h true f ih =
        is_listed-insert e.1.request (group n rest) q
        ∙ ap (λ m. is_listed (group n rest) q || (m == q)) k.0 ∙ ap (λ b. is_listed (group n rest) q || b) h ∙ or-all (is_listed (group n rest) q)
        ∙ sym (ap (λ o. is_some (flight n o)) (here e rest q h) ∙ ap (λ b. is_some (cond b (Some e.1.request) None)) f)
    at true h false f ih =
        ih ∙ ap (λ o. is_some (flight n o)) (gone-behind e rest q head h)
        ∙ sym (ap (λ o. is_some (flight n o)) (here e rest q h) ∙ ap (λ b. is_some (cond b (Some e.1.request) None)) f)
    at false h true f ih =
        is_listed-insert e.1.request (group n rest) q
        ∙ ap (λ m. is_listed (group n rest) q || (m == q)) k.0 ∙ ap (λ b. is_listed (group n rest) q || b) h ∙ or-nil (is_listed (group n rest) q)
        ∙ ih ∙ sym (ap (λ o. is_some (flight n o)) (behind e rest q h))
    at false h false f ih = ih ∙ sym (ap (λ o. is_some (flight n o)) (behind e rest q h))

-- the group is in order
pub group-order : (n : ℕ) (es : Entries) → IsStrictlySortedBy nat_cmp (keys_of es) → AreKeyed es → is_in_order (group n es) ≡ true
group-order n [] s k = refl
group-order n (e ∷ rest) s k =
    at (flies_under n e.1.stage) (group-order n rest (sorted_tail nat_cmp e.0 (keys_of rest) s) k.1)
  where
    new : is_listed (group n rest) e.1.request.id ≡ false
    new = group-listed n rest e.1.request.id (sorted_tail nat_cmp e.0 (keys_of rest) s) k.1
        ∙ ap (λ o. is_some (flight n o)) (subst (λ m. entry_at rest m ≡ None) (sym k.0) (above-none e.0 rest (sorted_head nat_cmp e.0 (keys_of rest) s)))

    at : (f : Bool) → is_in_order (group n rest) ≡ true → is_in_order (cond f (insert_read e.1.request (group n rest)) (group n rest)) ≡ true
    at true ih = insert-order e.1.request (group n rest) ih new
    at false ih = ih

-- what holds of the flights of a list's rest holds of them in the whole
those-more : (n : ℕ) (e : ℕ × Read) (rest : Entries) (rs : List ReadRequest) → AllByRecursion (λ y. nat_cmp e.0 y ≡ Less) (keys_of rest)
    → AreThose (λ q. flight n (entry_at rest q)) rs → AreThose (λ q. flight n (entry_at (e ∷ rest) q)) rs
those-more n e rest [] h d = tt
those-more n e rest (r ∷ rs) h d = (at (e.0 == r.id) refl, those-more n e rest rs h d.1)
  where
    at : (b : Bool) → (e.0 == r.id) ≡ b → flight n (entry_at (e ∷ rest) r.id) ≡ Some r
    at true k = cc (sym (ap (flight n) (gone-behind e rest r.id h k)) ∙ d.0)
    at false k = ap (flight n) (behind e rest r.id k) ∙ d.0

-- the reads of the group are those in flight
pub group-those : (n : ℕ) (es : Entries) → IsStrictlySortedBy nat_cmp (keys_of es) → AreKeyed es → AreThose (λ q. flight n (entry_at es q)) (group n es)
group-those n [] s k = tt
group-those n (e ∷ rest) s k =
    at (flies_under n e.1.stage) refl
    (those-more n e rest (group n rest) (sorted_head nat_cmp e.0 (keys_of rest) s) (group-those n rest (sorted_tail nat_cmp e.0 (keys_of rest) s) k.1))
  where
    same : (e.0 == e.1.request.id) ≡ true
    same = let number = k.0 in grind (arith, nat_tests)

    at : (f : Bool) → flies_under n e.1.stage ≡ f → AreThose (λ q. flight n (entry_at (e ∷ rest) q)) (group n rest)
        → AreThose (λ q. flight n (entry_at (e ∷ rest) q)) (cond f (insert_read e.1.request (group n rest)) (group n rest))
    at true f ih =
        insert-all (λ r. flight n (entry_at (e ∷ rest) r.id) ≡ Some r) e.1.request (group n rest)
        (ap (flight n) (here e rest e.1.request.id same) ∙ ap (λ b. cond b (Some e.1.request) None) f) ih
    at false f ih = ih

pub listed-some : (w : ℕ → Option ReadRequest) (rs : List ReadRequest) (q : ℕ) → AreThose w rs → is_listed rs q ≡ true → is_some (w q) ≡ true
listed-some w [] q d h = cc
listed-some w (r ∷ rs) q d h = at (r.id == q) refl h (listed-some w rs q d.1)
  where
    at : (b : Bool) → (r.id == q) ≡ b → (b || is_listed rs q) ≡ true → (is_listed rs q ≡ true → is_some (w q) ≡ true) → is_some (w q) ≡ true
    at true e k step =
        let same : r.id ≡ q = grind (arith, nat_tests) in
        ap is_some (subst (λ n. w n ≡ Some r) same d.0)
    at false e k step = step k

-- reads in order that are those in flight are the group
pub group-is : (n : ℕ) (es : Entries) (rs : List ReadRequest) → IsStrictlySortedBy nat_cmp (keys_of es) → AreKeyed es → is_in_order rs ≡ true
    → AreThose (λ q. flight n (entry_at es q)) rs → ((q : ℕ) → is_some (flight n (entry_at es q)) ≡ true → is_listed rs q ≡ true) → group n es ≡ rs
group-is n es rs s k o d all =
    let order = group-order n es s k in
    let those = group-those n es s k in
    let less = among (λ q. flight n (entry_at es q)) (group n es) rs order o those d (λ q l. all q (sym (group-listed n es q s k) ∙ l)) in
    let more = among (λ q. flight n (entry_at es q)) rs (group n es) o order d those (λ q l. group-listed n es q s k ∙ listed-some (λ p. flight n (entry_at es p)) rs q d l) in
    less.1 (let a = less.0 in let b = more.0 in omega arith)

along-those : (f g : ℕ → Option ReadRequest) (rs : List ReadRequest) → ((q : ℕ) → g q ≡ f q) → AreThose f rs → AreThose g rs
along-those f g [] h d = tt
along-those f g (r ∷ rs) h d = (h r.id ∙ d.0, along-those f g rs h d.1)

-- a group is told by what is in flight
pub group-same : (n : ℕ) (es es' : Entries) → IsStrictlySortedBy nat_cmp (keys_of es) → AreKeyed es → IsStrictlySortedBy nat_cmp (keys_of es') → AreKeyed es'
    → ((q : ℕ) → flight n (entry_at es' q) ≡ flight n (entry_at es q)) → group n es' ≡ group n es
group-same n es es' s k s' k' h =
    group-is n es' (group n es) s' k' (group-order n es s k)
    (along-those (λ q. flight n (entry_at es q)) (λ q. flight n (entry_at es' q)) (group n es) h (group-those n es s k))
    (λ q l. group-listed n es q s k ∙ ap is_some (sym (h q)) ∙ l)
