-- Metadata values as they are sorted and placed: their keys stay distinct, and they lie in the file.
use Rattle.std.proofs.Common.{◌≡◌, ℕ, ◌+◌, ◌%◌, ◌<◌, ◌≤◌, ◌^◌, Bool, true, false, List, [], ◌∷◌, ◌++◌, length, map, Ok, refl, ap, ◌∙◌, arith, length-append}
use Rattle.std.specs.Prelude.{◌&&◌, ◌||◌, not, ◌==◌, nat_le, if◌then◌else◌, replicate, Result}
use Rattle.std.specs.List.{AllByRecursion, list_all, list_any, flat_map}
use Rattle.std.specs.Str.{bytes_eq}
use Rattle.std.proofs.lemmas.Bool.{le-leb}
use Rattle.std.proofs.lemmas.List.{length-replicate}
use Rattle.std.proofs.lemmas.Bool.Decides.{nat_tests}
use Rattle.std.proofs.lemmas.Slice.Eq.{bytes_eq-Decides}
use Rattle.vx_base.specs.Buffer.{Buffer}
use Rattle.vx_base.specs.Checks.{◌>>=◌, ◌unless◌}
use Rattle.vx_footer.specs.declared.version.FileVersion.{FileVersion}
use Rattle.vx_footer.specs.declared.postscript.PostscriptMetadata.{PostscriptMetadata}
use Rattle.vx_footer.specs.declared.write_error.WriteError.{WriteError}
use Rattle.vx_footer.specs.declared.write_error.WriteError.TheVariants.{EmptyKey, LongKey, DuplicateKey}
use Rattle.vx_footer.specs.Footers.{metadata_specs}
use Rattle.vx_footer.specs.Opening.{longest_key, has_key, is_placed, ends_within}
use Rattle.vx_footer.specs.Placing.{padding}
use Rattle.vx_footer.specs.PostscriptWritten.{key_checks, keys_checks, IsEntry}
use Rattle.vx_footer.specs.Serializing.{is_before, put_value, put_values, value_end, values_end, entry_at, placed_entries, value_parts, entries_by, keys_by, are_distinct, lengths_checks, is_short}
use Rattle.vx_footer.specs.ReadAgain.{IsPlaced, IsValue}
use Rattle.vx_footer.proofs.PaddingLemmas.{padded}
use Rattle.vx_footer.proofs.ValueLemmas.{end_past}

abbrev Value : Type 0
Value = List ℕ × Buffer

abbrev keys : List Value → List (List ℕ)
keys vs = map (λ v. v.0) vs

-- whether a key is among others
abbrev among : List ℕ → List (List ℕ) → Bool
among k ks = list_any (bytes_eq k) ks

and_parts : (a b : Bool) → (a && b) ≡ true → (a ≡ true) × (b ≡ true)
and_parts true true h = (refl, refl)
and_parts true false h = absurd cc
and_parts false b h = absurd cc

and_true : (a b : Bool) → a ≡ true → b ≡ true → (a && b) ≡ true
and_true a b h k = ap (λ x. x && b) h ∙ k

or_parts : (a b : Bool) → (a || b) ≡ false → (a ≡ false) × (b ≡ false)
or_parts false false h = (refl, refl)
or_parts false true h = absurd cc
or_parts true b h = absurd cc

or_false : (a b : Bool) → a ≡ false → b ≡ false → (a || b) ≡ false
or_false a b h k = ap (λ x. x || b) h ∙ k

not_true : (a : Bool) → not a ≡ true → a ≡ false
not_true false h = refl
not_true true h = absurd cc

same_key : (k l : List ℕ) → bytes_eq k l ≡ true → k ≡ l
same_key k l h = (bytes_eq-Decides k l).0 h

turned : (k l : List ℕ) → bytes_eq k l ≡ false → bytes_eq l k ≡ false
turned k l h = by (bytes_eq l k) refl
  where
    by : (b : Bool) → bytes_eq l k ≡ b → bytes_eq l k ≡ false
    by false e = e
    by true e =
        let same : bytes_eq k l ≡ true = ap (bytes_eq k) (same_key l k e) ∙ (bytes_eq-Decides k k).1 refl in
        absurd cc

-- ---- values that are put in order

put_all : (v : Value) (xs : List Value) → IsValue v → AllByRecursion IsValue xs → AllByRecursion IsValue (put_value v xs)
put_all v [] here h = (here, tt)
put_all v (x ∷ xs) here h = by (is_before v.0 x.0) (put_all v xs here h.1)
  where
    by : (b : Bool) → AllByRecursion IsValue (put_value v xs) → AllByRecursion IsValue (if b then v ∷ x ∷ xs else x ∷ put_value v xs)
    by true rest = (here, h)
    by false rest = (h.0, rest)

puts_all : (xs vs : List Value) → AllByRecursion IsValue xs → AllByRecursion IsValue vs → AllByRecursion IsValue (put_values xs vs)
puts_all xs [] h k = h
puts_all xs (v ∷ vs) h k = puts_all (put_value v xs) vs (put_all v xs k.0 h) k.1

pub sorted_all : (vs : List Value) → AllByRecursion IsValue vs → AllByRecursion IsValue (put_values [] vs)
sorted_all vs h = puts_all [] vs tt h

-- a key that is not among others
put_other : (k : List ℕ) (v : Value) (xs : List Value) → bytes_eq k v.0 ≡ false → among k (keys xs) ≡ false → among k (keys (put_value v xs)) ≡ false
put_other k v [] new h = or_false (bytes_eq k v.0) false new refl
put_other k v (x ∷ xs) new h = by (is_before v.0 x.0) (put_other k v xs new (or_parts (bytes_eq k x.0) (among k (keys xs)) h).1)
  where
    by : (b : Bool) → among k (keys (put_value v xs)) ≡ false → among k (keys (if b then v ∷ x ∷ xs else x ∷ put_value v xs)) ≡ false
    by true rest = or_false (bytes_eq k v.0) (among k (keys (x ∷ xs))) new h
    by false rest = or_false (bytes_eq k x.0) (among k (keys (put_value v xs))) (or_parts (bytes_eq k x.0) (among k (keys xs)) h).0 rest

put_distinct : (v : Value) (xs : List Value) → among v.0 (keys xs) ≡ false → are_distinct (keys xs) ≡ true → are_distinct (keys (put_value v xs)) ≡ true
put_distinct v [] new h = refl
put_distinct v (x ∷ xs) new h =
    let parts = or_parts (bytes_eq v.0 x.0) (among v.0 (keys xs)) new in
    let own = and_parts (not (among x.0 (keys xs))) (are_distinct (keys xs)) h in
    let other = put_other x.0 v xs (turned v.0 x.0 parts.0) (not_true (among x.0 (keys xs)) own.0) in
    by (is_before v.0 x.0) other (put_distinct v xs parts.1 own.1)
  where
    by : (b : Bool) → among x.0 (keys (put_value v xs)) ≡ false → are_distinct (keys (put_value v xs)) ≡ true → are_distinct (keys (if b then v ∷ x ∷ xs else x ∷ put_value v xs)) ≡ true
    by true other rest = and_true (not (among v.0 (keys (x ∷ xs)))) (are_distinct (keys (x ∷ xs))) (ap not new) h
    by false other rest = and_true (not (among x.0 (keys (put_value v xs)))) (are_distinct (keys (put_value v xs))) (ap not other) rest

-- values of which none has a key among those in order
abbrev AreNew : List Value → List Value → Type 0
AreNew xs vs = AllByRecursion (λ (w : Value). among w.0 (keys xs) ≡ false) vs

still_new : (xs : List Value) (v : Value) (ws : List Value) → among v.0 (keys ws) ≡ false → AreNew xs ws → AreNew (put_value v xs) ws
still_new xs v [] other h = tt
still_new xs v (w ∷ ws) other h =
    let parts = or_parts (bytes_eq v.0 w.0) (among v.0 (keys ws)) other in
    (put_other w.0 v xs (turned v.0 w.0 parts.0) h.0, still_new xs v ws parts.1 h.1)

puts_distinct : (xs vs : List Value) → AreNew xs vs → are_distinct (keys xs) ≡ true → are_distinct (keys vs) ≡ true → are_distinct (keys (put_values xs vs)) ≡ true
puts_distinct xs [] new h k = h
puts_distinct xs (v ∷ vs) new h k =
    let own = and_parts (not (among v.0 (keys vs))) (are_distinct (keys vs)) k in
    puts_distinct (put_value v xs) vs (still_new xs v vs (not_true (among v.0 (keys vs)) own.0) new.1) (put_distinct v xs new.0 h) own.1

none_new : (vs : List Value) → AreNew [] vs
none_new [] = tt
none_new (v ∷ vs) = (refl, none_new vs)

-- values that were put in order are some where there were some
some_put : (v : Value) (xs : List Value) → (put_value v xs ≡ [] → ⊥)
some_put v [] e = absurd cc
some_put v (x ∷ xs) e = by (is_before v.0 x.0) e
  where
    by : (b : Bool) → (if b then v ∷ x ∷ xs else x ∷ put_value v xs) ≡ [] → ⊥
    by true e = cc
    by false e = cc

some_puts : (xs vs : List Value) → (xs ≡ [] → ⊥) → (put_values xs vs ≡ [] → ⊥)
some_puts xs [] some e = some e
some_puts xs (v ∷ vs) some e = some_puts (put_value v xs) vs (some_put v xs) e

keys_some : (own : List PostscriptMetadata) (vs : List Value) → (vs ≡ [] → ⊥) → keys_by own vs ≡ keys vs
keys_some own [] some = absurd (some refl)
keys_some own (v ∷ vs) some = refl

pub sorted_distinct : (own : List PostscriptMetadata) (vs : List Value) → are_distinct (keys_by own vs) ≡ true → are_distinct (keys_by own (put_values [] vs)) ≡ true
sorted_distinct own [] h = h
sorted_distinct own (v ∷ vs) h =
    let all = v ∷ vs in
    ap are_distinct (keys_some own (put_values [] all) (some_puts (put_value v []) vs (some_put v []))) ∙ puts_distinct [] all (none_new all) refl h

-- ---- keys that pass

passed : (a b : Bool) (r : Result (Unit {0}) WriteError) → (EmptyKey unless a >>= λ _. LongKey unless b >>= λ _. r) ≡ Ok tt → (a ≡ true) × (b ≡ true) × (r ≡ Ok tt)
passed true true r h = (refl, refl, h)
passed true false r h = absurd cc
passed false b r h = absurd cc

pass : (a b c : Bool) (r : Result (Unit {0}) WriteError) → a ≡ true → b ≡ true → c ≡ true → (((EmptyKey unless a >>= λ _. LongKey unless b >>= λ _. DuplicateKey unless c)) >>= λ _. r) ≡ r
pass a b c r ha hb hc = rw (ha, hb, hc) refl

abbrev entry_keys : List PostscriptMetadata → List (List ℕ)
entry_keys ms = map (λ m. m.key) ms

has_push : (es : List PostscriptMetadata) (m : PostscriptMetadata) (k : List ℕ) → has_key es k ≡ false → bytes_eq m.key k ≡ false → has_key (es ++ m ∷ []) k ≡ false
has_push [] m k h new = or_false (bytes_eq m.key k) false new refl
has_push (e ∷ es) m k h new =
    let parts = or_parts (bytes_eq e.key k) (has_key es k) h in
    or_false (bytes_eq e.key k) (has_key (es ++ m ∷ []) k) parts.0 (has_push es m k parts.1 new)

abbrev AreOther : List PostscriptMetadata → List PostscriptMetadata → Type 0
AreOther es ms = AllByRecursion (λ (m : PostscriptMetadata). has_key es m.key ≡ false) ms

still_other : (es : List PostscriptMetadata) (m : PostscriptMetadata) (ms : List PostscriptMetadata) → among m.key (entry_keys ms) ≡ false → AreOther es ms → AreOther (es ++ m ∷ []) ms
still_other es m [] new h = tt
still_other es m (n ∷ ms) new h =
    let parts = or_parts (bytes_eq m.key n.key) (among m.key (entry_keys ms)) new in
    (has_push es m n.key h.0 parts.0, still_other es m ms parts.1 h.1)

keys_pass : (version : FileVersion) (es ms : List PostscriptMetadata) → lengths_checks version (entry_keys ms) ≡ Ok tt → are_distinct (entry_keys ms) ≡ true → AreOther es ms → keys_checks version es ms ≡ Ok tt
unfolding keys_checks key_checks
keys_pass version es [] h d other = refl
keys_pass version es (m ∷ ms) h d other =
    let p = passed (not (length m.key == 0)) (nat_le (length m.key) (longest_key version)) (lengths_checks version (entry_keys ms)) h in
    let own = and_parts (not (among m.key (entry_keys ms))) (are_distinct (entry_keys ms)) d in
    let rest = keys_pass version (es ++ m ∷ []) ms p.2 own.1 (still_other es m ms (not_true (among m.key (entry_keys ms)) own.0) other.1) in
    pass (not (length m.key == 0)) (nat_le (length m.key) (longest_key version)) (not (has_key es m.key)) (keys_checks version (es ++ m ∷ []) ms) p.0 p.1 (ap not other.0) ∙ rest

none_other : (ms : List PostscriptMetadata) → AreOther [] ms
none_other [] = tt
none_other (m ∷ ms) = (refl, none_other ms)

placed_keys : (at : ℕ) (vs : List Value) → entry_keys (placed_entries at vs) ≡ keys vs
placed_keys at [] = refl
placed_keys at (v ∷ vs) = ap (λ ks. v.0 ∷ ks) (placed_keys (value_end at v.1) vs)

pub entry_keys_are : (own : List PostscriptMetadata) (at : ℕ) (vs : List Value) → entry_keys (entries_by own at vs) ≡ keys_by own vs
entry_keys_are own at [] = refl
entry_keys_are own at (v ∷ vs) = placed_keys at (v ∷ vs)

pub entries_pass : (version : FileVersion) (own : List PostscriptMetadata) (at : ℕ) (vs : List Value) → lengths_checks version (keys_by own vs) ≡ Ok tt → are_distinct (keys_by own vs) ≡ true
    → keys_checks version [] (entries_by own at vs) ≡ Ok tt
entries_pass version own at vs h d =
    let same = entry_keys_are own at vs in
    keys_pass version [] (entries_by own at vs) (ap (lengths_checks version) same ∙ h) (ap are_distinct same ∙ d) (none_other (entries_by own at vs))

-- ---- where values lie

is_low : (bytes : List ℕ) → is_short bytes ≡ true → length bytes < 2 ^ 32
is_low bytes h = grind (arith, nat_tests)

placed_all : (at size : ℕ) (vs : List Value) → AllByRecursion IsValue vs → list_all (λ v. is_short v.1.bytes) vs ≡ true → values_end at vs ≤ size → values_end at vs < 2 ^ 64 → AllByRecursion (IsPlaced size) (placed_entries at vs)
placed_all at size [] h short inside low = tt
placed_all at size (v ∷ vs) h short inside low =
    let parts = and_parts (is_short v.1.bytes) (list_all (λ w. is_short w.1.bytes) vs) short in
    let past = end_past (value_end at v.1) vs in
    let first : IsPlaced size (entry_at at v) = record {
      entry = record { text = h.0.key; segment = record { offset = omega (arith, past, low); size = is_low v.1.bytes parts.0; exponent = h.0.aligned } };
      aligned = padded v.1.alignment at;
      inside = omega (arith, past, inside);
    } in
    (first, placed_all (value_end at v.1) size vs h.1 parts.1 inside low)

pub entries_placed : (own : List PostscriptMetadata) (at size : ℕ) (vs : List Value) → AllByRecursion (IsPlaced size) own → AllByRecursion IsValue vs → list_all (λ v. is_short v.1.bytes) vs ≡ true
    → values_end at vs ≤ size → values_end at vs < 2 ^ 64 → AllByRecursion (IsPlaced size) (entries_by own at vs)
entries_placed own at size [] o h short inside low = o
entries_placed own at size (v ∷ vs) o h short inside low = placed_all at size (v ∷ vs) h short inside low

pub are_entries : (size : ℕ) (ms : List PostscriptMetadata) → AllByRecursion (IsPlaced size) ms → AllByRecursion IsEntry ms
are_entries size [] h = tt
are_entries size (m ∷ ms) h = (h.0.entry, are_entries size ms h.1)

equal : (n : ℕ) → n ≡ 0 → (n == 0) ≡ true
equal n e = grind (arith, nat_tests)

pub are_placed : (size : ℕ) (ms : List PostscriptMetadata) → AllByRecursion (IsPlaced size) ms → list_all is_placed ms ≡ true
are_placed size [] h = refl
are_placed size (m ∷ ms) h = and_true (is_placed m) (list_all is_placed ms) (equal (m.segment.offset % 2 ^ m.segment.alignment) h.0.aligned) (are_placed size ms h.1)

pub end_within : (size : ℕ) (ms : List PostscriptMetadata) → AllByRecursion (IsPlaced size) ms → list_all (ends_within size) (metadata_specs ms) ≡ true
end_within size [] h = refl
end_within size (m ∷ ms) h = and_true (nat_le (m.segment.offset + m.segment.length) size) (list_all (ends_within size) (metadata_specs ms)) (le-leb _ _ h.0.inside) (end_within size ms h.1)

-- how many bytes the values take
pub values_long : (at : ℕ) (vs : List Value) → at + length (flat_map (λ part. part) (value_parts at vs)) ≡ values_end at vs
values_long at [] = omega arith
values_long at (v ∷ vs) =
    let zeros : List ℕ = replicate (padding v.1.alignment at) 0 in
    let rest = flat_map (λ part. part) (value_parts (value_end at v.1) vs) in
    omega (arith, values_long (value_end at v.1) vs, length-append zeros (v.1.bytes ++ rest), length-append v.1.bytes rest, length-replicate {A = ℕ} (padding v.1.alignment at) 0)
