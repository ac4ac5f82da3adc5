-- What a sink takes, turn by turn and piece by piece.
use Rattle.std.proofs.Common.{◌≡◌, ℕ, true, zero, suc, ◌+◌, ◌-◌, ◌<◌, ◌≤◌, List, [], ◌∷◌, ◌++◌, length, take, drop, get_or, Option, Some, None, refl, sym, ap, subst, ◌∙◌, arith, append_assoc, length-drop, drop-cons, add-one, min, inl, inr}
use Rattle.std.specs.Prelude.{Result, Ok, Err, OnErr}
use Rattle.std.specs.List.{flat_map}
use Rattle.std.specs.Option.{option_map}
use Rattle.std.proofs.lemmas.Bool.{cases_lt}
use Rattle.std.proofs.lemmas.List.{drop-drop, drop_all, append-nil, take-append-drop, take-append-le}
use Rattle.std.proofs.Math.Seq.{take-add, take-append-add}
use Rattle.vx_base.specs.Counts.{Rises}
use Rattle.vx_base.specs.Streams.{Took, TookPrefix, SinkState, SameSink, RefusalCause, WritesAll}
use Rattle.vx_base.specs.declared.fault.SinkError.{SinkError}

-- ---- one turn of writing

took-more : (bytes : List ℕ) (k n : ℕ) (before now next : Option (List ℕ)) → Took (take k bytes) before now → next ≡ option_map (λ g. g ++ take n (drop k bytes)) now → Took (take (k + n) bytes) before next
took-more bytes k n None now next h e = e ∙ ap (option_map (λ g. g ++ take n (drop k bytes))) h
took-more bytes k n (Some gained) now next h e =
    e ∙ ap (option_map (λ g. g ++ take n (drop k bytes))) h ∙ ap Some (append_assoc gained (take k bytes) (take n (drop k bytes)) ∙ ap (λ x. gained ++ x) (sym (take-add k n bytes)))

take-whole : (bytes : List ℕ) → take (length bytes) bytes ≡ bytes
take-whole bytes = sym (append-nil (take (length bytes) bytes)) ∙ sym (ap (λ x. take (length bytes) bytes ++ x) (drop_all (length bytes) bytes (omega arith))) ∙ take-append-drop (length bytes) bytes

pub took-prefix : (bytes : List ℕ) (before now : Option (List ℕ)) → Took bytes before now → TookPrefix bytes before now
took-prefix bytes before now h = record { count = length bytes; took = subst (λ x. Took x before now) (sym (take-whole bytes)) h }

pub took-whole : (bytes : List ℕ) (k : ℕ) (before now : Option (List ℕ)) → k ≡ length bytes → Took (take k bytes) before now → Took bytes before now
took-whole bytes k before now e h = subst (λ x. Took x before now) (ap (λ m. take m bytes) e ∙ take-whole bytes) h

pub nothing-took : (gained : Option (List ℕ)) → Took [] gained gained
nothing-took None = refl
nothing-took (Some g) = ap Some (sym (append-nil g))

pub took-nothing : (bytes : List ℕ) (gained : Option (List ℕ)) → Took (take 0 bytes) gained gained
took-nothing bytes gained = nothing-took gained

pub prefix-kept : (bytes : List ℕ) (k : ℕ) (before now next : Option (List ℕ)) → Took (take k bytes) before now → next ≡ now → TookPrefix bytes before next
prefix-kept bytes k before now next h e = record { count = k; took = e ∙ h }

-- the bytes behind the first ones are still to be written
pub record Written (bytes left : List ℕ) (before now : Option (List ℕ)) : Type 0 where
  pub rest : left ≡ drop (length bytes - length left) bytes
  pub fewer : length left ≤ length bytes
  pub took : Took (take (length bytes - length left) bytes) before now

pub write-turn : (bytes rest rest' : List ℕ) (n : ℕ) (before now next : Option (List ℕ)) → rest ≡ drop (length bytes - length rest) bytes → length rest ≤ length bytes → Took (take (length bytes - length rest) bytes) before now
    → n ≤ length rest → rest' ≡ drop n rest → next ≡ option_map (λ g. g ++ take n rest) now → Written bytes rest' before next
write-turn bytes rest rest' n before now next is fewer took le moved taken =
    let k = length bytes - length rest in
    let size : length rest' ≡ length rest - n = ap length moved ∙ length-drop n rest in
    let place : k + n ≡ length bytes - length rest' = omega (arith, size) in
    record {
      rest = moved ∙ ap (drop n) is ∙ drop-drop n k bytes ∙ ap (λ m. drop m bytes) place;
      fewer = omega (arith, size);
      took = subst (λ m. Took (take m bytes) before next) place (took-more bytes k n before now next took (taken ∙ ap (λ x. option_map (λ g. g ++ take n x) now) is));
    }

-- ---- piece by piece

pub took-both : (a b : List ℕ) (before now next : Option (List ℕ)) → Took a before now → Took b now next → Took (a ++ b) before next
took-both a b None now next h k = k ∙ ap (option_map (λ g. g ++ b)) h
took-both a b (Some gained) now next h k = k ∙ ap (option_map (λ g. g ++ b)) h ∙ ap Some (append_assoc gained a b)

pub took-then : (a b : List ℕ) (before now next : Option (List ℕ)) → Took a before now → TookPrefix b now next → TookPrefix (a ++ b) before next
took-then a b before now next h k = record {
  count = length a + k.count;
  took = subst (λ x. Took x before next) (sym (take-append-add a b k.count)) (took-both a (take k.count b) before now next h k.took);
}

take-first : (a b : List ℕ) (n : ℕ) → take (min n (length a)) (a ++ b) ≡ take n a
take-first a b n = elim (cases_lt n (length a)) [
  | inl less ↦ ap (λ m. take m (a ++ b)) (let low : min n (length a) ≡ n = omega arith in low) ∙ take-append-le n a b (omega arith)
  | inr more ↦ ap (λ m. take m (a ++ b)) (let all : min n (length a) ≡ length a = omega arith in all) ∙ take-append-le (length a) a b (omega arith) ∙ take-past a n (omega arith)
]
  where
    take-past : (xs : List ℕ) (m : ℕ) → length xs ≤ m → take (length xs) xs ≡ take m xs
    take-past [] zero h = refl
    take-past [] (suc m) h = refl
    take-past (x ∷ xs) zero h = absurd (omega (arith, h))
    take-past (x ∷ xs) (suc m) h = ap (λ l. x ∷ l) (take-past xs m (omega arith))

pub took-first : (a b : List ℕ) (before now : Option (List ℕ)) → TookPrefix a before now → TookPrefix (a ++ b) before now
took-first a b before now h = record { count = min h.count (length a); took = subst (λ x. Took x before now) (sym (take-first a b h.count)) h.took }

-- the pieces from a place on begin with the one there
pub pieces-at : {X : Type 0} (f : X → List ℕ) (xs : List X) (i : ℕ) (d : X) → i < length xs → flat_map f (drop i xs) ≡ f (get_or xs i d) ++ flat_map f (drop (i + 1) xs)
pieces-at f xs i d h = ap (flat_map f) (drop-cons xs i d h ∙ ap (λ n. get_or xs i d ∷ drop n xs) (sym (add-one i)))

pub pieces-end : {X : Type 0} (f : X → List ℕ) (xs : List X) (i : ℕ) → length xs ≤ i → flat_map f (drop i xs) ≡ []
pieces-end f xs i h = ap (flat_map f) (drop_all i xs h)

-- a count that rose in a later part rose in all
pub rises-later : (start before now : ℕ) → start ≤ before → Rises 1 before now → Rises 1 start now
rises-later start before now le h = record { later = omega (arith, h.later); risen = omega (arith, h.risen) }

-- what holds whatever the result is holds after an error
pub on-err : {X E : Type 0} (r : Result X E) (P : Type 0) → P → OnErr r P
on-err (Ok x) P h = tt
on-err (Err e) P h = h

-- pieces up to one that was cut short
pub pieces-cut : {X : Type 0} (f : X → List ℕ) (xs : List X) (i : ℕ) (d : X) (start now next : Option (List ℕ)) → i < length xs
    → ((final : Option (List ℕ)) → TookPrefix (flat_map f (drop i xs)) now final → TookPrefix (flat_map f xs) start final) → TookPrefix (f (get_or xs i d)) now next → TookPrefix (flat_map f xs) start next
pieces-cut f xs i d start now next lt before h = before next (subst (λ x. TookPrefix x now next) (sym (pieces-at f xs i d lt)) (took-first (f (get_or xs i d)) (flat_map f (drop (i + 1) xs)) now next h))

-- pieces up to one that was taken whole
pub pieces-taken : {X : Type 0} (f : X → List ℕ) (xs : List X) (i : ℕ) (d : X) (start now next : Option (List ℕ)) → i < length xs → Took (f (get_or xs i d)) now next
    → ((final : Option (List ℕ)) → Took (flat_map f (drop i xs)) now final → Took (flat_map f xs) start final) → (final : Option (List ℕ)) → Took (flat_map f (drop (i + 1) xs)) next final → Took (flat_map f xs) start final
pieces-taken f xs i d start now next lt h before final k =
    before final (subst (λ x. Took x now final) (sym (pieces-at f xs i d lt)) (took-both (f (get_or xs i d)) (flat_map f (drop (i + 1) xs)) now next final h k))

pub pieces-prefix : {X : Type 0} (f : X → List ℕ) (xs : List X) (i : ℕ) (d : X) (start now next : Option (List ℕ)) → i < length xs → Took (f (get_or xs i d)) now next
    → ((final : Option (List ℕ)) → TookPrefix (flat_map f (drop i xs)) now final → TookPrefix (flat_map f xs) start final) → (final : Option (List ℕ)) → TookPrefix (flat_map f (drop (i + 1) xs)) next final → TookPrefix (flat_map f xs) start final
pieces-prefix f xs i d start now next lt h before final k =
    before final (subst (λ x. TookPrefix x now final) (sym (pieces-at f xs i d lt)) (took-then (f (get_or xs i d)) (flat_map f (drop (i + 1) xs)) now next final h k))

pub pieces-done : {X : Type 0} (f : X → List ℕ) (xs : List X) (i : ℕ) (start now : Option (List ℕ)) → length xs ≤ i
    → ((final : Option (List ℕ)) → Took (flat_map f (drop i xs)) now final → Took (flat_map f xs) start final) → Took (flat_map f xs) start now
pieces-done f xs i start now le before = before now (subst (λ x. Took x now now) (sym (pieces-end f xs i le)) (nothing-took now))

-- ---- calls of a sink, one behind the other

-- a sink that never fails had no fault
abbrev pub Faultless : SinkState → SinkState → Type 0
Faultless before now = before.never_fails ≡ true → now.faults ≡ before.faults

pub faultless-then : (a b c : SinkState) → SameSink a b → Faultless a b → Faultless b c → Faultless a c
faultless-then a b c same h k sound = k (same.never_fails ∙ sound) ∙ h sound

-- a call that is refused after others
pub refused-then : {A B : Type 0} (a b c : SinkState) (r : Result A SinkError) (s : Result B SinkError) → SameSink a b → Faultless a b → ((e : SinkError) → s ≡ Err e → r ≡ Err e) → RefusalCause b c r → RefusalCause a c s
refused-then a b c r s same still leads h = record {
  failed = λ e. rises-later _ _ _ same.never_falls (h.failed (leads _ e));
  memory = λ e. rises-later _ _ _ same.memory_never_falls (h.memory (leads _ e));
  sound = λ sound. let k = h.sound (same.never_fails ∙ sound) in (λ e. k.0 (leads _ e), k.1 ∙ still sound);
}

-- bytes behind others that were taken whole
pub written-then : (a b : List ℕ) (s t u : SinkState) (r : Result (Unit {0}) SinkError) → Took a s.gained t.gained → SameSink s t → Faultless s t → WritesAll b t u r → WritesAll (a ++ b) s u r
written-then a b s t u (Ok x) took same still w = record {
  took = took-both a b s.gained t.gained u.gained took w.took;
  prefix = tt;
  refused = refused-then s t u (Ok x) (Ok x) same still (λ e h. h) w.refused;
}
written-then a b s t u (Err x) took same still w = record {
  took = tt;
  prefix = took-then a b s.gained t.gained u.gained took w.prefix;
  refused = refused-then s t u (Err x) (Err x) same still (λ e h. h) w.refused;
}

-- pieces up to one that was refused
pub pieces-refused : {X : Type 0} (f : X → List ℕ) (xs : List X) (i : ℕ) (d : X) (s t u : SinkState) (e : SinkError) (r : Result (Unit {0}) SinkError) → i < length xs → r ≡ Err e
    → ((final : Option (List ℕ)) → TookPrefix (flat_map f (drop i xs)) t.gained final → TookPrefix (flat_map f xs) s.gained final) → SameSink s t → Faultless s t → WritesAll (f (get_or xs i d)) t u (Err e) → WritesAll (flat_map f xs) s u r
pieces-refused f xs i d s t u e r lt is before same still w = rw is (record {
  took = tt;
  prefix = pieces-cut f xs i d s.gained t.gained u.gained lt before w.prefix;
  refused = refused-then s t u (Err e) (Err e) same still (λ e h. h) w.refused;
})

-- all pieces
pub pieces-written : {X : Type 0} (f : X → List ℕ) (xs : List X) (i : ℕ) (s t : SinkState) → length xs ≤ i
    → ((final : Option (List ℕ)) → Took (flat_map f (drop i xs)) t.gained final → Took (flat_map f xs) s.gained final) → Faultless s t → WritesAll (flat_map f xs) s t (Ok tt)
pieces-written f xs i s t le before still = record {
  took = pieces-done f xs i s.gained t.gained le before;
  prefix = tt;
  refused = record { failed = λ e. cc; memory = λ e. cc; sound = λ sound. (λ e. cc, still sound) };
}
