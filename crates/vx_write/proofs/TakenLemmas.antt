-- What a sink took, turn by turn and piece by piece, with the count of it.
use Rattle.std.proofs.Common.{◌≡◌, ℕ, true, ◌+◌, ◌<◌, ◌≤◌, List, [], ◌∷◌, ◌++◌, length, take, drop, get_or, Option, Err, refl, sym, ap, subst, ◌∙◌, arith, append_assoc, length-append, length-drop, drop-cons, add-one}
use Rattle.std.specs.Prelude.{Result}
use Rattle.std.specs.List.{flat_map}
use Rattle.std.proofs.lemmas.List.{append-nil, drop_all, take-append-drop, take-append-le}
use Rattle.std.proofs.Math.Seq.{take-append-add}
use Rattle.vx_base.specs.Streams.{SinkState, SameSink, same_sink-then, Took}
use Rattle.vx_base.proofs.TakingLemmas.{nothing-took, took-both, rises-later}
use Rattle.vx_footer.specs.declared.write_error.WriteError.{WriteError}
use Rattle.vx_footer.specs.declared.write_error.WriteError.TheVariants.{WriteFault}
use Rattle.vx_write.specs.Taken.{TookAll, TookPart, Sent, SinkCause}

-- ---- all of some bytes, or the first ones

pub nothing_taken : (g : Option (List ℕ)) (n : ℕ) → TookAll [] g g n n
nothing_taken g n = record { took = nothing-took g; counted = omega arith }

pub no_part : (bytes : List ℕ) (g : Option (List ℕ)) (n : ℕ) → TookPart bytes g g n n
no_part bytes g n = record { count = 0; inside = omega arith; took = nothing-took g; counted = omega arith }

pub all_both : (a b : List ℕ) (g h k : Option (List ℕ)) (l m n : ℕ) → TookAll a g h l m → TookAll b h k m n → TookAll (a ++ b) g k l n
all_both a b g h k l m n x y = record { took = took-both a b g h k x.took y.took; counted = omega (arith, x.counted, y.counted, length-append a b) }

pub all_part : (a b : List ℕ) (g h k : Option (List ℕ)) (l m n : ℕ) → TookAll a g h l m → TookPart b h k m n → TookPart (a ++ b) g k l n
all_part a b g h k l m n x y = record {
  count = length a + y.count;
  inside = omega (arith, y.inside, length-append a b);
  took = subst (λ t. Took t g k) (sym (take-append-add a b y.count)) (took-both a (take y.count b) g h k x.took y.took);
  counted = omega (arith, x.counted, y.counted);
}

take-whole : (bytes : List ℕ) → take (length bytes) bytes ≡ bytes
take-whole bytes = sym (append-nil (take (length bytes) bytes)) ∙ sym (ap (λ x. take (length bytes) bytes ++ x) (drop_all (length bytes) bytes (omega arith))) ∙ take-append-drop (length bytes) bytes

pub whole_part : (a : List ℕ) (g h : Option (List ℕ)) (l m : ℕ) → TookAll a g h l m → TookPart a g h l m
whole_part a g h l m x = record { count = length a; inside = omega arith; took = subst (λ t. Took t g h) (sym (take-whole a)) x.took; counted = x.counted }

pub part_first : (a b : List ℕ) (g h : Option (List ℕ)) (l m : ℕ) → TookPart a g h l m → TookPart (a ++ b) g h l m
part_first a b g h l m x = record {
  count = x.count;
  inside = omega (arith, x.inside, length-append a b);
  took = subst (λ t. Took t g h) (sym (take-append-le x.count a b x.inside)) x.took;
  counted = x.counted;
}

-- ---- bytes before others that are still to come

pub sent_start : (all : List ℕ) (g : Option (List ℕ)) (n : ℕ) → Sent all all g g n n
sent_start all g n = record { front = []; split = refl; took = nothing_taken g n }

pub sent_step : (all piece rest : List ℕ) (g h k : Option (List ℕ)) (l m n : ℕ) → Sent all (piece ++ rest) g h l m → TookAll piece h k m n → Sent all rest g k l n
sent_step all piece rest g h k l m n s x = record {
  front = s.front ++ piece;
  split = s.split ∙ sym (append_assoc s.front piece rest);
  took = all_both s.front piece g h k l m n s.took x;
}

pub sent_cut : (all piece rest : List ℕ) (g h k : Option (List ℕ)) (l m n : ℕ) → Sent all (piece ++ rest) g h l m → TookPart piece h k m n → TookPart all g k l n
sent_cut all piece rest g h k l m n s x = subst (λ t. TookPart t g k l n) (sym s.split) (all_part s.front (piece ++ rest) g h k l m n s.took (part_first piece rest h k m n x))

pub sent_part : (all rest : List ℕ) (g h : Option (List ℕ)) (l m : ℕ) → Sent all rest g h l m → TookPart all g h l m
sent_part all rest g h l m s = subst (λ t. TookPart t g h l m) (sym s.split) (part_first s.front rest g h l m (whole_part s.front g h l m s.took))

pub sent_end : (all rest : List ℕ) (g h : Option (List ℕ)) (l m : ℕ) → Sent all rest g h l m → rest ≡ [] → TookAll all g h l m
sent_end all rest g h l m s none = subst (λ t. TookAll t g h l m) (sym (s.split ∙ ap (λ r. s.front ++ r) none ∙ append-nil s.front)) s.took

-- so many bytes are still to come
pub sent_size : (all rest : List ℕ) (g h : Option (List ℕ)) (l m : ℕ) → Sent all rest g h l m → m + length rest ≡ l + length all
sent_size all rest g h l m s = omega (arith, s.took.counted, ap length s.split, length-append s.front rest)

-- a turn of a sink took the first bytes of the rest
pub sent_turn : (all rest more : List ℕ) (count : ℕ) (g h k : Option (List ℕ)) (l m : ℕ) → Sent all rest g h l m → count ≤ length rest → more ≡ drop count rest → Took (take count rest) h k → Sent all more g k l (m + count)
sent_turn all rest more count g h k l m s inside is took =
    let sum : length (take count rest) + length (drop count rest) ≡ length rest = sym (length-append (take count rest) (drop count rest)) ∙ ap length (take-append-drop count rest) in
    let size : length (take count rest) ≡ count = omega (arith, inside, sum, length-drop count rest) in
    let x : TookAll (take count rest) h k m (m + count) = record { took = took; counted = omega (arith, size) } in
    let whole : Sent all (take count rest ++ more) g h l m = subst (λ t. Sent all t g h l m) (sym (ap (λ t. take count rest ++ t) is ∙ take-append-drop count rest)) s in
    sent_step all (take count rest) more g h k l m (m + count) whole x

-- the pieces from a place on begin with the one there
pub pieces_from : {X : Type 0} (f : X → List ℕ) (xs : List X) (i : ℕ) (d : X) → i < length xs → flat_map f (drop i xs) ≡ f (get_or xs i d) ++ flat_map f (drop (i + 1) xs)
pieces_from f xs i d h = ap (flat_map f) (drop-cons xs i d h ∙ ap (λ n. get_or xs i d ∷ drop n xs) (sym (add-one i)))

-- ---- causes

-- a sink of which no call failed
pub record IsCalm (before now : SinkState) : Type 0 where
  pub same : SameSink before now
  pub sound : before.never_fails ≡ true → now.faults ≡ before.faults

pub calm_start : (s : SinkState) → IsCalm s s
calm_start s = record { same = record { never_fails = refl; never_falls = omega arith; memory_never_falls = omega arith }; sound = λ _. refl }

pub calm_step : (a b c : SinkState) → IsCalm a b → IsCalm b c → IsCalm a c
calm_step a b c h k = record {
  same = same_sink-then a b c h.same k.same;
  sound = λ sound. k.sound (h.same.never_fails ∙ sound) ∙ h.sound sound;
}

pub calm_of : {A : Type 0} (a b : SinkState) (r : Result A WriteError) → SinkCause a b r → IsCalm a b
calm_of a b r h = record { same = h.same; sound = λ sound. (h.sound sound).1 }

-- what was done calmly is caused so, whatever is answered but a fault
pub calm_cause : {A : Type 0} (a b : SinkState) (r : Result A WriteError) → IsCalm a b → (r ≡ Err WriteFault → ⊥) → SinkCause a b r
calm_cause a b r h none = record { same = h.same; fault = λ e. absurd (none e); sound = λ sound. (none, h.sound sound) }

-- a call that is refused after others
pub cause_after : {A B : Type 0} (a b c : SinkState) (r : Result A WriteError) (s : Result B WriteError) → IsCalm a b → SinkCause b c r → (s ≡ Err WriteFault → r ≡ Err WriteFault) → SinkCause a c s
cause_after a b c r s h k leads = record {
  same = same_sink-then a b c h.same k.same;
  fault = λ e. rises-later _ _ _ h.same.never_falls (k.fault (leads e));
  sound = λ sound. let then = k.sound (h.same.never_fails ∙ sound) in (λ e. then.0 (leads e), then.1 ∙ h.sound sound);
}

-- a part was taken whole, or not
pub parts_step : {X : Type 0} (f : X → List ℕ) (xs : List X) (i : ℕ) (d : X) (g h k : Option (List ℕ)) (l m n : ℕ) → i < length xs
    → Sent (flat_map f xs) (flat_map f (drop i xs)) g h l m → TookAll (f (get_or xs i d)) h k m n → Sent (flat_map f xs) (flat_map f (drop (i + 1) xs)) g k l n
parts_step f xs i d g h k l m n lt s x =
    sent_step (flat_map f xs) (f (get_or xs i d)) (flat_map f (drop (i + 1) xs)) g h k l m n (subst (λ t. Sent (flat_map f xs) t g h l m) (pieces_from f xs i d lt) s) x

pub parts_cut : {X : Type 0} (f : X → List ℕ) (xs : List X) (i : ℕ) (d : X) (g h k : Option (List ℕ)) (l m n : ℕ) → i < length xs
    → Sent (flat_map f xs) (flat_map f (drop i xs)) g h l m → TookPart (f (get_or xs i d)) h k m n → TookPart (flat_map f xs) g k l n
parts_cut f xs i d g h k l m n lt s x =
    sent_cut (flat_map f xs) (f (get_or xs i d)) (flat_map f (drop (i + 1) xs)) g h k l m n (subst (λ t. Sent (flat_map f xs) t g h l m) (pieces_from f xs i d lt) s) x
