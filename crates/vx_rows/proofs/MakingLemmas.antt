-- The rows of columns that are made of values.
use Rattle.std.proofs.Common.{◌≡◌, ℕ, zero, suc, ◌+◌, ◌<◌, Bool, true, false, cond, List, [], ◌∷◌, map, length, Option, Some, None, is_some, unwrap_or, refl, ap, sym, ◌∙◌, subst, arith}
use Rattle.std.specs.Prelude.{slice_index_or, replicate, ◌||◌, not}
use Rattle.std.specs.List.{list_all}
use Rattle.vx_rows.specs.Span.{span, every}
use Rattle.vx_rows.specs.Bits.{bit, present_at}
use Rattle.vx_rows.specs.Columns.{bool_row, is_false_row, may_hold, are_there}
use Rattle.vx_rows.specs.Arrays.{is_false}
use Rattle.vx_rows.proofs.SpanLemmas.{length_span, get_or_span, span_same, every_all, every_holds}

-- a list by its places
pub span_list : {A : Type 0} → (d : A) (xs : List A) → span (λ i. slice_index_or xs i d) 0 (length xs) ≡ xs
span_list d [] = refl
span_list d (x ∷ xs) = ap (λ ys. x ∷ ys) (shifted 0 (length xs) ∙ span_list d xs)
  where
    shifted : (k n : ℕ) → span (λ i. slice_index_or (x ∷ xs) i d) (k + 1) n ≡ span (λ i. slice_index_or xs i d) k n
    shifted k zero = refl
    shifted k (suc n) =
        let e : k + 1 ≡ suc k = omega arith in
        ap (λ y. y ∷ span (λ i. slice_index_or (x ∷ xs) i d) (k + 1 + 1) n) (ap (λ j. slice_index_or (x ∷ xs) j d) e) ∙ ap (λ ys. slice_index_or xs k d ∷ ys) (shifted (k + 1) n)

-- without bits each row is there
pub all_there : (present : Option (List Bool)) (k n : ℕ) → present ≡ None → span (present_at present) k n ≡ replicate n true
all_there present k n e = ap (λ p. span (present_at p) k n) e ∙ each k n
  where
    each : (k n : ℕ) → span (present_at None) k n ≡ replicate n true
    each k zero = refl
    each k (suc n) = ap (λ xs. true ∷ xs) (each (k + 1) n)

pub map_long : {A B : Type 0} → (f : A → B) (xs : List A) → length (map f xs) ≡ length xs
map_long f [] = refl
map_long f (x ∷ xs) = ap suc (map_long f xs)

pub map_at : {A B : Type 0} → (f : A → B) (xs : List A) (i : ℕ) (d : A) (e : B) → i < length xs → slice_index_or (map f xs) i e ≡ f (slice_index_or xs i d)
map_at f [] i d e l = absurd (omega arith)
map_at f (x ∷ xs) zero d e l = refl
map_at f (x ∷ xs) (suc i) d e l = map_at f xs i d e (omega arith)

-- ---- which rows are not null

-- these are the rows that have a value
abbrev pub IsPresence : {A : Type 0} → Option (List Bool) → List (Option A) → Type 0
IsPresence present rows = (i : ℕ) → i < length rows → present_at present i ≡ is_some (slice_index_or rows i None)

pub presence_all : {A : Type 0} → (vs : List (Option A)) → list_all is_some vs ≡ true → IsPresence None vs
presence_all [] h i l = absurd (omega arith)
presence_all (None ∷ vs) h i l = cc
presence_all (Some v ∷ vs) h zero l = refl
presence_all (Some v ∷ vs) h (suc i) l = presence_all vs h i (omega arith)

pub presence_flags : {A : Type 0} → (vs : List (Option A)) → IsPresence (Some (map is_some vs)) vs
presence_flags vs i l = map_at is_some vs i None true l

pub presence_made : {A : Type 0} → (nullable : Bool) (vs : List (Option A)) (present : Option (List Bool)) → may_hold nullable vs ≡ true → present ≡ cond nullable (Some (map is_some vs)) None → IsPresence present vs
presence_made true vs present h p = subst (λ q. IsPresence q vs) (sym p) (presence_flags vs)
presence_made false vs present h p = subst (λ q. IsPresence q vs) (sym p) (presence_all vs h)

-- ---- truth values

bool-again : (v : Option Bool) → cond (is_some v) (Some (unwrap_or v false)) None ≡ v
bool-again None = refl
bool-again (Some b) = refl

bool-clear : (v : Option Bool) → (is_some v || not (unwrap_or v false)) ≡ true
bool-clear None = refl
bool-clear (Some b) = refl

bool-at : (vs : List (Option Bool)) (present : Option (List Bool)) (i : ℕ) → IsPresence present vs → i < length vs → bool_row present (map (λ v. unwrap_or v false) vs) i ≡ slice_index_or vs i None
bool-at vs present i p l =
    ap (λ b. cond b (Some (slice_index_or (map (λ v. unwrap_or v false) vs) i true)) None) (p i l)
    ∙ ap (λ b. cond (is_some (slice_index_or vs i None)) (Some b) None) (map_at (λ v. unwrap_or v false) vs i None true l)
    ∙ bool-again (slice_index_or vs i None)

false-at : (vs : List (Option Bool)) (present : Option (List Bool)) (i : ℕ) → IsPresence present vs → i < length vs → is_false_row present (map (λ v. unwrap_or v false) vs) i ≡ true
false-at vs present i p l =
    ap (λ b. b || not (slice_index_or (map (λ v. unwrap_or v false) vs) i true)) (p i l)
    ∙ ap (λ b. is_some (slice_index_or vs i None) || not b) (map_at (λ v. unwrap_or v false) vs i None true l)
    ∙ bool-clear (slice_index_or vs i None)

pub bools_rows : (vs : List (Option Bool)) (present : Option (List Bool)) → IsPresence present vs → span (bool_row present (map (λ v. unwrap_or v false) vs)) 0 (length vs) ≡ vs
bools_rows vs present p = span_same _ (λ i. slice_index_or vs i None) 0 (length vs) (λ i l u. bool-at vs present i p (omega arith)) ∙ span_list None vs

pub bools_made : (nullable : Bool) (vs : List (Option Bool)) (present : Option (List Bool)) (bits : List Bool) → may_hold nullable vs ≡ true → present ≡ cond nullable (Some (map is_some vs)) None
    → bits ≡ map (λ (v : Option Bool). unwrap_or v false) vs → span (bool_row present bits) 0 (length bits) ≡ vs
bools_made nullable vs present bits h p b =
    ap (λ bs. span (bool_row present bs) 0 (length bs)) b
    ∙ ap (span (bool_row present (map (λ (v : Option Bool). unwrap_or v false) vs)) 0) (map_long (λ (v : Option Bool). unwrap_or v false) vs)
    ∙ bools_rows vs present (presence_made nullable vs present h p)

pub bools_clear : (nullable : Bool) (vs : List (Option Bool)) (present : Option (List Bool)) (bits : List Bool) → may_hold nullable vs ≡ true → present ≡ cond nullable (Some (map is_some vs)) None
    → bits ≡ map (λ (v : Option Bool). unwrap_or v false) vs → every (is_false_row present bits) 0 (length bits) ≡ true
bools_clear nullable vs present bits h p b =
    let long = map_long (λ (v : Option Bool). unwrap_or v false) vs in
    ap (λ bs. every (is_false_row present bs) 0 (length bs)) b
    ∙ every_holds (is_false_row present (map (λ (v : Option Bool). unwrap_or v false) vs)) 0 _ (λ i l u. false-at vs present i (presence_made nullable vs present h p) (omega (arith, long, u)))

-- the same of a bitmap that holds the values
pub bits_clear : (vs : List (Option Bool)) (present : Option (List Bool)) (b : List ℕ) (at : ℕ) → IsPresence present vs → span (bit b at) 0 (length vs) ≡ map (λ v. unwrap_or v false) vs
    → every (is_false present b at) 0 (length vs) ≡ true
bits_clear vs present b at p e = every_holds (is_false present b at) 0 (length vs) (λ i l u.
    let here : i < length vs = omega (arith, u) in
    let index : 0 + i ≡ i = omega arith in
    let value : bit b at i ≡ slice_index_or (map (λ v. unwrap_or v false) vs) i true =
    sym (get_or_span (bit b at) 0 (length vs) i true here ∙ ap (bit b at) index) ∙ ap (λ bs. slice_index_or bs i true) e in
    ap (λ v. present_at present i || not v) value ∙ false-at vs present i p here)

-- the same of a bitmap that was read
pub false_rows : (present : Option (List Bool)) (b : List ℕ) (at n : ℕ) (bits : List Bool) → bits ≡ span (bit b at) 0 n → every (is_false present b at) 0 n ≡ true
    → every (is_false_row present bits) 0 (length bits) ≡ true
false_rows present b at n bits e h =
    let long = length_span (bit b at) 0 n in
    ap (λ bs. every (is_false_row present bs) 0 (length bs)) e
    ∙ every_holds (is_false_row present (span (bit b at) 0 n)) 0 _ (λ i l u.
    ap (λ v. present_at present i || not v) (get_or_span (bit b at) 0 n i true (omega (arith, long, u)))
    ∙ ap (λ j. present_at present i || not (bit b at j)) (omega arith) ∙ ap (is_false present b at) (omega arith)
    ∙ every_all (is_false present b at) 0 n h i (omega (arith, long, u)))

-- ---- structs

all-there : (ps : List Bool) (i : ℕ) → list_all (λ b. b) ps ≡ true → i < length ps → true ≡ slice_index_or ps i true
all-there [] i h l = absurd (omega arith)
all-there (true ∷ ps) zero h l = refl
all-there (true ∷ ps) (suc i) h l = all-there ps i h (omega arith)
all-there (false ∷ ps) i h l = cc

pub structs_all : (ps : List Bool) → list_all (λ b. b) ps ≡ true → span (present_at None) 0 (length ps) ≡ ps
structs_all ps h = span_same (present_at None) (λ i. slice_index_or ps i true) 0 (length ps) (λ i l u. all-there ps i h (omega arith)) ∙ span_list true ps

made-structs : (nullable : Bool) (ps : List Bool) → are_there nullable ps ≡ true → span (present_at (cond nullable (Some ps) None)) 0 (length ps) ≡ ps
made-structs true ps h = span_list true ps
made-structs false ps h = structs_all ps h

pub structs_made : (nullable : Bool) (ps : List Bool) (present : Option (List Bool)) → are_there nullable ps ≡ true → present ≡ cond nullable (Some ps) None → span (present_at present) 0 (length ps) ≡ ps
structs_made nullable ps present h p = rw p (made-structs nullable ps h)
