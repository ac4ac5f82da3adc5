-- Values with keys, of which no two are equal.
use Rattle.std.proofs.Common.{◌≡◌, ℕ, zero, suc, ◌+◌, ◌<◌, ◌≤◌, Bool, true, false, List, [], ◌∷◌, ◌++◌, length, map, take, drop, get_or, refl, sym, ap, subst, ◌∙◌, arith, add-one, drop-cons, append_assoc}
use Rattle.std.specs.Prelude.{◌&&◌, ◌||◌, not, slice_set, if◌then◌else◌, String, string_bytes}
use Rattle.std.specs.Global.{Global}
use Rattle.std.specs.List.{list_any}
use Rattle.std.specs.Str.{bytes_eq}
use Rattle.std.proofs.lemmas.Slice.Eq.{bytes_eq-Decides}
use Rattle.vx_base.specs.Buffer.{Buffer}
use Rattle.vx_footer.specs.Serializing.{values_view, are_distinct}
use Rattle.vx_write.specs.Options.{with_value, with_values, keys_of}

abbrev Value : Type 0
Value = List ℕ × Buffer

-- ---- a place

-- no value before a place has the key
abbrev pub NoneBefore : ℕ → List Value → List ℕ → Type 0
NoneBefore zero xs key = Unit {0}
NoneBefore (suc n) [] key = Unit {0}
NoneBefore (suc n) (x ∷ xs) key = (bytes_eq x.0 key ≡ false) × NoneBefore n xs key

put-at : (n : ℕ) (xs : List Value) (d : Value) (key : List ℕ) (b : Buffer) → NoneBefore n xs key → n < length xs → bytes_eq (get_or xs n d).0 key ≡ true → slice_set xs n (key, b) ≡ with_value xs (key, b)
put-at n [] d key b h lt is = absurd (omega (arith, lt))
put-at zero (x ∷ xs) d key b h lt is = sym (ap (λ t. if t then (key, b) ∷ xs else x ∷ with_value xs (key, b)) is)
put-at (suc n) (x ∷ xs) d key b h lt is =
    ap (λ ys. x ∷ ys) (put-at n xs d key b h.1 (omega (arith, lt)) is) ∙ sym (ap (λ t. if t then (key, b) ∷ xs else x ∷ with_value xs (key, b)) h.0)

put-past : (n : ℕ) (xs : List Value) (key : List ℕ) (b : Buffer) → NoneBefore n xs key → length xs ≤ n → xs ++ (key, b) ∷ [] ≡ with_value xs (key, b)
put-past n [] key b h le = refl
put-past zero (x ∷ xs) key b h le = absurd (omega (arith, le))
put-past (suc n) (x ∷ xs) key b h le =
    ap (λ ys. x ∷ ys) (put-past n xs key b h.1 (omega (arith, le))) ∙ sym (ap (λ t. if t then (key, b) ∷ xs else x ∷ with_value xs (key, b)) h.0)

none-more : (n : ℕ) (xs : List Value) (d : Value) (key : List ℕ) → NoneBefore n xs key → bytes_eq (get_or xs n d).0 key ≡ false → NoneBefore (n + 1) xs key
none-more n xs d key h is = subst (λ k. NoneBefore k xs key) (sym (add-one n)) (more n xs h is)
  where
    more : (k : ℕ) (ys : List Value) → NoneBefore k ys key → bytes_eq (get_or ys k d).0 key ≡ false → NoneBefore (suc k) ys key
    more k [] h is = tt
    more zero (y ∷ ys) h is = (is, tt)
    more (suc k) (y ∷ ys) h is = (h.0, more k ys h.1 is)

abbrev Pair : Type 0
Pair = String Global × Buffer

view : Pair → Value
view v = (string_bytes v.0, v.1)

seen-at : (vs : List Pair) (n : ℕ) (v : Pair) → n < length vs → v ≡ get_or vs n v → get_or (values_view vs) n (string_bytes v.0, v.1) ≡ (string_bytes v.0, v.1)
seen-at [] n v lt is = absurd (omega (arith, lt))
seen-at (w ∷ vs) zero v lt is = ap (λ (x : Pair). (string_bytes x.0, x.1)) (sym is)
seen-at (w ∷ vs) (suc n) v lt is = seen-at vs n v (omega (arith, lt)) is

view-long : (vs : List Pair) → length (values_view vs) ≡ length vs
view-long [] = refl
view-long (v ∷ vs) = ap suc (view-long vs)

pub next_value : (vs : List Pair) (n : ℕ) (v : Pair) (key : List ℕ) → n < length vs → v ≡ get_or vs n v → NoneBefore n (values_view vs) key → bytes_eq (string_bytes v.0) key ≡ false → NoneBefore (n + 1) (values_view vs) key
next_value vs n v key lt is h other = none-more n (values_view vs) (string_bytes v.0, v.1) key h (ap (λ (x : Value). bytes_eq x.0 key) (seen-at vs n v lt is) ∙ other)

pub put_here : (vs : List Pair) (n : ℕ) (v : Pair) (key : List ℕ) (b : Buffer) → n < length vs → v ≡ get_or vs n v → NoneBefore n (values_view vs) key → bytes_eq (string_bytes v.0) key ≡ true
    → slice_set (values_view vs) n (key, b) ≡ with_value (values_view vs) (key, b)
put_here vs n v key b lt is h same =
    put-at n (values_view vs) (string_bytes v.0, v.1) key b h (omega (arith, lt, view-long vs)) (ap (λ (x : Value). bytes_eq x.0 key) (seen-at vs n v lt is) ∙ same)

pub put_behind : (vs : List Pair) (n : ℕ) (key : List ℕ) (b : Buffer) → NoneBefore n (values_view vs) key → length vs ≤ n → values_view vs ++ (key, b) ∷ [] ≡ with_value (values_view vs) (key, b)
put_behind vs n key b h le = put-past n (values_view vs) key b h (omega (arith, le, view-long vs))

pub view_set : (vs : List Pair) (n : ℕ) (v : Pair) → values_view (slice_set vs n v) ≡ slice_set (values_view vs) n (string_bytes v.0, v.1)
view_set [] n v = refl
view_set (w ∷ vs) zero v = refl
view_set (w ∷ vs) (suc n) v = ap (λ xs. (string_bytes w.0, w.1) ∷ xs) (view_set vs n v)

pub view_push : (vs : List Pair) (v : Pair) → values_view (vs ++ v ∷ []) ≡ values_view vs ++ (string_bytes v.0, v.1) ∷ []
view_push [] v = refl
view_push (w ∷ vs) v = ap (λ xs. (string_bytes w.0, w.1) ∷ xs) (view_push vs v)

-- ---- keys that are distinct

or-false : (a : Bool) → (a || false) ≡ a
or-false true = refl
or-false false = refl

or-again : (a r : Bool) → (a || r) ≡ ((a || r) || a)
or-again true r = refl
or-again false r = sym (or-false r)

or-assoc : (a r c : Bool) → (a || (r || c)) ≡ ((a || r) || c)
or-assoc true r c = refl
or-assoc false r c = refl

same-key : (k l : List ℕ) → bytes_eq k l ≡ true → k ≡ l
same-key k l h = (bytes_eq-Decides k l).0 h

any-by : (k : List ℕ) (x : Value) (xs : List Value) (v : Value) (t : Bool) → bytes_eq x.0 v.0 ≡ t
    → list_any (bytes_eq k) (keys_of (with_value xs v)) ≡ (list_any (bytes_eq k) (keys_of xs) || bytes_eq k v.0)
    → list_any (bytes_eq k) (keys_of (if t then v ∷ xs else x ∷ with_value xs v)) ≡ ((bytes_eq k x.0 || list_any (bytes_eq k) (keys_of xs)) || bytes_eq k v.0)
any-by k x xs v true is more =
    let same = same-key x.0 v.0 is in
    or-again (bytes_eq k v.0) (list_any (bytes_eq k) (keys_of xs)) ∙ sym (ap (λ l. (bytes_eq k l || list_any (bytes_eq k) (keys_of xs)) || bytes_eq k v.0) same)
any-by k x xs v false is more = ap (λ t. bytes_eq k x.0 || t) more ∙ or-assoc (bytes_eq k x.0) (list_any (bytes_eq k) (keys_of xs)) (bytes_eq k v.0)

any-with : (k : List ℕ) (xs : List Value) (v : Value) → list_any (bytes_eq k) (keys_of (with_value xs v)) ≡ (list_any (bytes_eq k) (keys_of xs) || bytes_eq k v.0)
any-with k [] v = or-false (bytes_eq k v.0)
any-with k (x ∷ xs) v = any-by k x xs v (bytes_eq x.0 v.0) refl (any-with k xs v)

and-parts : (a b : Bool) → (a && b) ≡ true → (a ≡ true) × (b ≡ true)
and-parts true true h = (refl, refl)
and-parts true false h = absurd cc
and-parts false b h = absurd cc

and-true : (a b : Bool) → a ≡ true → b ≡ true → (a && b) ≡ true
and-true a b h k = ap (λ x. x && b) h ∙ k

distinct-by : (x : Value) (xs : List Value) (v : Value) (t : Bool) → bytes_eq x.0 v.0 ≡ t → are_distinct (keys_of (x ∷ xs)) ≡ true
    → (are_distinct (keys_of xs) ≡ true → are_distinct (keys_of (with_value xs v)) ≡ true) → are_distinct (keys_of (if t then v ∷ xs else x ∷ with_value xs v)) ≡ true
distinct-by x xs v true is h more = sym (ap (λ l. not (list_any (bytes_eq l) (keys_of xs)) && are_distinct (keys_of xs)) (same-key x.0 v.0 is)) ∙ h
distinct-by x xs v false is h more =
    let parts = and-parts (not (list_any (bytes_eq x.0) (keys_of xs))) (are_distinct (keys_of xs)) h in
    and-true (not (list_any (bytes_eq x.0) (keys_of (with_value xs v)))) (are_distinct (keys_of (with_value xs v)))
    (ap not (any-with x.0 xs v ∙ ap (λ t. list_any (bytes_eq x.0) (keys_of xs) || t) is ∙ or-false (list_any (bytes_eq x.0) (keys_of xs))) ∙ parts.0)
    (more parts.1)

pub still_distinct : (xs : List Value) (v : Value) → are_distinct (keys_of xs) ≡ true → are_distinct (keys_of (with_value xs v)) ≡ true
still_distinct [] v h = refl
still_distinct (x ∷ xs) v h = distinct-by x xs v (bytes_eq x.0 v.0) refl h (λ k. still_distinct xs v k)

pub still_all_distinct : (xs vs : List Value) → are_distinct (keys_of xs) ≡ true → are_distinct (keys_of (with_values xs vs)) ≡ true
still_all_distinct xs [] h = h
still_all_distinct xs (v ∷ vs) h = still_all_distinct (with_value xs v) vs (still_distinct xs v h)
