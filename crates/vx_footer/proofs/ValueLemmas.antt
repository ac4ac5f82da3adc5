-- Metadata values: their order, and where they lie.
use Rattle.std.proofs.Common.{◌≡◌, ℕ, ◌+◌, ◌*◌, ◌^◌, ◌<◌, ◌≤◌, Bool, true, false, List, [], ◌∷◌, ◌++◌, length, map, take, drop, get_or, refl, sym, ap, ◌∙◌, arith, add-one, drop-cons, append_assoc}
use Rattle.std.specs.Prelude.{◌&&◌, not, ◌==◌, nat_le, sum_by, Result, Ok, String, string_bytes}
use Rattle.std.specs.Global.{Global}
use Rattle.std.specs.List.{insert, list_all}
use Rattle.std.proofs.lemmas.Bool.Decides.{nat_tests}
use Rattle.std.proofs.lemmas.List.{map-append, drop_all, take_more}
use Rattle.std.proofs.lemmas.List.Sums.{sum_by-cons}
use Rattle.vx_base.specs.Buffer.{Buffer}
use Rattle.vx_base.specs.Checks.{◌>>=◌, ◌unless◌}
use Rattle.vx_footer.specs.declared.version.FileVersion.{FileVersion}
use Rattle.vx_footer.specs.declared.version.FileVersion.TheVariants.{V1, V2}
use Rattle.vx_footer.specs.declared.postscript.PostscriptMetadata.{PostscriptMetadata}
use Rattle.vx_footer.specs.declared.write_error.WriteError.{WriteError}
use Rattle.vx_footer.specs.declared.write_error.WriteError.TheVariants.{TooManyMetadata, EmptyKey, LongKey}
use Rattle.vx_footer.specs.Footers.{entries_size}
use Rattle.vx_footer.specs.Opening.{most_entries, longest_key}
use Rattle.vx_footer.specs.Serializing.{is_before, put_value, values_view, is_short, entry_at, placed_entries, entries_by, keys_by, value_end, values_end, lengths_checks, metadata_checks}

abbrev pub Held : Type 0
Held = String Global × Buffer

abbrev pub seen : Held → List ℕ × Buffer
seen v = (string_bytes v.0, v.1)

-- the values from a place on
pub next : (vs : List Held) (i : ℕ) (v : Held) → i < length vs → v ≡ get_or vs i v → values_view (drop i vs) ≡ seen v ∷ values_view (drop (i + 1) vs)
next vs i v lt is = let step : drop i vs ≡ v ∷ drop (i + 1) vs = rw (add-one, drop-cons vs i v, ← is) refl in ap values_view step

-- ---- order

pub insert_view : (vs : List Held) (i : ℕ) (v : Held) → values_view (insert vs i v) ≡ values_view (take i vs) ++ seen v ∷ values_view (drop i vs)
insert_view vs i v = map-append seen (take i vs) (v ∷ drop i vs)

pub put_here : (vs : List Held) (i : ℕ) (v : Held) (key : List ℕ) (b : Buffer) → i < length vs → v ≡ get_or vs i v → is_before key (string_bytes v.0) ≡ true
    → (key, b) ∷ values_view (drop i vs) ≡ put_value (key, b) (values_view (drop i vs))
put_here vs i v key b lt is before =
    let whole = next vs i v lt is in
    let first : put_value (key, b) (seen v ∷ values_view (drop (i + 1) vs)) ≡ (key, b) ∷ seen v ∷ values_view (drop (i + 1) vs) = rw before refl in
    sym (ap (put_value (key, b)) whole ∙ first ∙ ap (λ xs. (key, b) ∷ xs) (sym whole))

pub put_next : (vs : List Held) (i : ℕ) (v : Held) (key : List ℕ) (b : Buffer) → i < length vs → v ≡ get_or vs i v → is_before key (string_bytes v.0) ≡ false
    → values_view (take (i + 1) vs) ++ put_value (key, b) (values_view (drop (i + 1) vs)) ≡ values_view (take i vs) ++ put_value (key, b) (values_view (drop i vs))
put_next vs i v key b lt is behind =
    let rest = put_value (key, b) (values_view (drop (i + 1) vs)) in
    let more : take (i + 1) vs ≡ take i vs ++ v ∷ [] = take_more vs i v lt ∙ ap (λ w. take i vs ++ w ∷ []) (sym is) in
    let front : values_view (take (i + 1) vs) ≡ values_view (take i vs) ++ seen v ∷ [] = ap values_view more ∙ map-append seen (take i vs) (v ∷ []) in
    let step : put_value (key, b) (seen v ∷ values_view (drop (i + 1) vs)) ≡ seen v ∷ rest = rw behind refl in
    ap (λ xs. xs ++ rest) front ∙ append_assoc (values_view (take i vs)) (seen v ∷ []) rest ∙ ap (λ xs. values_view (take i vs) ++ xs) (sym (ap (put_value (key, b)) (next vs i v lt is) ∙ step))

pub put_end : (vs : List Held) (i : ℕ) (key : List ℕ) (b : Buffer) → length vs ≤ i → (key, b) ∷ values_view (drop i vs) ≡ put_value (key, b) (values_view (drop i vs))
put_end vs i key b le = let none : drop i vs ≡ [] = drop_all i vs le in ap (λ xs. (key, b) ∷ values_view xs) none ∙ sym (ap (λ xs. put_value (key, b) (values_view xs)) none)

-- ---- lengths of keys

pub next_lengths : (version : FileVersion) (vs : List Held) (i : ℕ) (v : Held) → i < length vs → v ≡ get_or vs i v
    → lengths_checks version (map (λ w. w.0) (values_view (drop i vs))) ≡ lengths_checks version (string_bytes v.0 ∷ map (λ w. w.0) (values_view (drop (i + 1) vs)))
next_lengths version vs i v lt is = ap (λ ws. lengths_checks version (map (λ w. w.0) ws)) (next vs i v lt is)

pub next_entry_lengths : (version : FileVersion) (ms : List PostscriptMetadata) (i : ℕ) (m : PostscriptMetadata) → i < length ms → m ≡ get_or ms i m
    → lengths_checks version (map (λ n. n.key) (drop i ms)) ≡ lengths_checks version (m.key ∷ map (λ n. n.key) (drop (i + 1) ms))
next_entry_lengths version ms i m lt is =
    let step : drop i ms ≡ m ∷ drop (i + 1) ms = rw (add-one, drop-cons ms i m, ← is) refl in
    ap (λ ns. lengths_checks version (map (λ n. n.key) ns)) step

-- keys that pass are short
longest : (version : FileVersion) → longest_key version ≤ 256
longest V1 = omega arith
longest V2 = omega arith

most : (version : FileVersion) → most_entries version ≤ 64
most V1 = omega arith
most V2 = omega arith

passed : (a b : Bool) (r : Result (Unit {0}) WriteError) → (EmptyKey unless a >>= λ _. LongKey unless b >>= λ _. r) ≡ Ok tt → (b ≡ true) × (r ≡ Ok tt)
passed true true r h = (refl, h)
passed true false r h = absurd cc
passed false b r h = absurd cc

abbrev keys_size : List (List ℕ) → ℕ
keys_size ks = sum_by (λ k. 16 + length k) ks

key_short : (version : FileVersion) (n : ℕ) → nat_le n (longest_key version) ≡ true → n ≤ 256
key_short version n h = let bound = longest version in grind (arith, nat_tests)

keys_short : (version : FileVersion) (ks : List (List ℕ)) → lengths_checks version ks ≡ Ok tt → keys_size ks ≤ 272 * length ks
keys_short version [] h = omega arith
keys_short version (k ∷ ks) h =
    let p = passed (not (length k == 0)) (nat_le (length k) (longest_key version)) (lengths_checks version ks) h in
    omega (arith, key_short version (length k) p.0, keys_short version ks p.1, sum_by-cons (λ (x : List ℕ). 16 + length x) k ks)

own_size : (ms : List PostscriptMetadata) → entries_size ms ≡ keys_size (map (λ m. m.key) ms)
own_size [] = refl
own_size (m ∷ ms) =
    omega (arith, own_size ms, sum_by-cons (λ (x : List ℕ). 16 + length x) m.key (map (λ n. n.key) ms), sum_by-cons (λ (n : PostscriptMetadata). 16 + length n.key) m ms)

placed_size : (at : ℕ) (vs : List (List ℕ × Buffer)) → entries_size (placed_entries at vs) ≡ keys_size (map (λ v. v.0) vs)
placed_size at [] = refl
placed_size at (v ∷ vs) =
    omega (
      arith,
      placed_size (value_end at v.1) vs,
      sum_by-cons (λ (x : List ℕ). 16 + length x) v.0 (map (λ w. w.0) vs),
      sum_by-cons (λ (n : PostscriptMetadata). 16 + length n.key) (entry_at at v) (placed_entries (value_end at v.1) vs),
    )

entries_are_keys : (own : List PostscriptMetadata) (at : ℕ) (vs : List (List ℕ × Buffer)) → entries_size (entries_by own at vs) ≡ keys_size (keys_by own vs)
entries_are_keys own at [] = own_size own
entries_are_keys own at (v ∷ vs) = placed_size at (v ∷ vs)

is_few : (version : FileVersion) (n : ℕ) → nat_le n (most_entries version) ≡ true → n ≤ 64
is_few version n h = let bound = most version in grind (arith, nat_tests)

pub entries_small : (version : FileVersion) (own : List PostscriptMetadata) (at : ℕ) (vs : List (List ℕ × Buffer)) → nat_le (length (keys_by own vs)) (most_entries version) ≡ true
    → lengths_checks version (keys_by own vs) ≡ Ok tt → entries_size (entries_by own at vs) ≤ 17408
entries_small version own at vs few h = omega (arith, is_few version (length (keys_by own vs)) few, keys_short version (keys_by own vs) h, entries_are_keys own at vs)

placed_count : (at : ℕ) (vs : List (List ℕ × Buffer)) → length (placed_entries at vs) ≡ length (map (λ v. v.0) vs)
placed_count at [] = refl
placed_count at (v ∷ vs) = omega (arith, placed_count (value_end at v.1) vs)

own_count : (ms : List PostscriptMetadata) → length ms ≡ length (map (λ m. m.key) ms)
own_count [] = refl
own_count (m ∷ ms) = omega (arith, own_count ms)

entries_count : (own : List PostscriptMetadata) (at : ℕ) (vs : List (List ℕ × Buffer)) → length (entries_by own at vs) ≡ length (keys_by own vs)
entries_count own at [] = own_count own
entries_count own at (v ∷ vs) = placed_count at (v ∷ vs)

pub entries_few : (version : FileVersion) (own : List PostscriptMetadata) (at : ℕ) (vs : List (List ℕ × Buffer)) → nat_le (length (keys_by own vs)) (most_entries version) ≡ true
    → length (entries_by own at vs) ≤ 64
entries_few version own at vs few = omega (arith, is_few version (length (keys_by own vs)) few, entries_count own at vs)

-- ---- places

pub next_end : (at : ℕ) (vs : List Held) (i : ℕ) (v : Held) → i < length vs → v ≡ get_or vs i v → values_end at (values_view (drop i vs)) ≡ values_end (value_end at v.1) (values_view (drop (i + 1) vs))
next_end at vs i v lt is = ap (values_end at) (next vs i v lt is)

pub end_past : (at : ℕ) (vs : List (List ℕ × Buffer)) → at ≤ values_end at vs
end_past at [] = omega arith
end_past at (v ∷ vs) = omega (arith, end_past (value_end at v.1) vs)

pub next_short : (vs : List Held) (i : ℕ) (v : Held) → i < length vs → v ≡ get_or vs i v
    → list_all (λ w. is_short w.1.bytes) (values_view (drop i vs)) ≡ (is_short v.1.bytes && list_all (λ w. is_short w.1.bytes) (values_view (drop (i + 1) vs)))
next_short vs i v lt is = ap (λ ws. list_all (λ w. is_short w.1.bytes) ws) (next vs i v lt is)

pub next_placed : (at : ℕ) (vs : List Held) (i : ℕ) (v : Held) → i < length vs → v ≡ get_or vs i v
    → placed_entries at (values_view (drop i vs)) ≡ entry_at at (seen v) ∷ placed_entries (value_end at v.1) (values_view (drop (i + 1) vs))
next_placed at vs i v lt is = ap (placed_entries at) (next vs i v lt is)

is_zero : (n : ℕ) → (n == 0) ≡ true → n ≡ 0
is_zero n h = grind (arith, nat_tests)

pub some_values : (own : List PostscriptMetadata) (at : ℕ) (vs : List Held) → (length vs == 0) ≡ false → entries_by own at (values_view vs) ≡ placed_entries at (values_view vs)
some_values own at [] some = cc
some_values own at (v ∷ vs) some = refl

pub no_values : (own : List PostscriptMetadata) (at : ℕ) (vs : List Held) → (length vs == 0) ≡ true → entries_by own at (values_view vs) ≡ own
no_values own at [] none = refl
no_values own at (v ∷ vs) none = absurd (omega (arith, is_zero (length (v ∷ vs)) none))

pub some_keys : (own : List PostscriptMetadata) (vs : List Held) → (length vs == 0) ≡ false → keys_by own (values_view vs) ≡ map (λ w. w.0) (values_view vs)
some_keys own [] some = cc
some_keys own (v ∷ vs) some = refl

pub no_keys : (own : List PostscriptMetadata) (vs : List Held) → (length vs == 0) ≡ true → keys_by own (values_view vs) ≡ map (λ m. m.key) own
no_keys own [] none = refl
no_keys own (v ∷ vs) none = absurd (omega (arith, is_zero (length (v ∷ vs)) none))

pub metadata_few : (version : FileVersion) (ks : List (List ℕ)) → metadata_checks version ks ≡ Ok tt → nat_le (length ks) (most_entries version) ≡ true
metadata_few version ks h = by (nat_le (length ks) (most_entries version)) refl h
  where
    by : (b : Bool) → nat_le (length ks) (most_entries version) ≡ b → (TooManyMetadata unless b >>= λ _. lengths_checks version ks) ≡ Ok tt → nat_le (length ks) (most_entries version) ≡ true
    by true e h = e
    by false e h = absurd cc

pub metadata_lengths : (version : FileVersion) (ks : List (List ℕ)) → metadata_checks version ks ≡ Ok tt → lengths_checks version ks ≡ Ok tt
metadata_lengths version ks h = by (nat_le (length ks) (most_entries version)) h
  where
    by : (b : Bool) → (TooManyMetadata unless b >>= λ _. lengths_checks version ks) ≡ Ok tt → lengths_checks version ks ≡ Ok tt
    by true h = h
    by false h = absurd cc

pub ruleset metadata_passed = (metadata_few, metadata_lengths)

-- where one value ends too far, all do
pub end_beyond : (at : ℕ) (vs : List Held) (i : ℕ) (v : Held) → i < length vs → v ≡ get_or vs i v → 2 ^ 64 ≤ value_end at v.1 → 2 ^ 64 ≤ values_end at (values_view (drop i vs))
end_beyond at vs i v lt is far = omega (arith, far, next_end at vs i v lt is, end_past (value_end at v.1) (values_view (drop (i + 1) vs)))

-- where all end within, one does
pub end_within : (at end : ℕ) (vs : List Held) (i : ℕ) (v : Held) → i < length vs → v ≡ get_or vs i v → values_end at (values_view (drop i vs)) ≡ end → end < 2 ^ 64 → value_end at v.1 < 2 ^ 64
end_within at end vs i v lt is all low = omega (arith, low, all, next_end at vs i v lt is, end_past (value_end at v.1) (values_view (drop (i + 1) vs)))
