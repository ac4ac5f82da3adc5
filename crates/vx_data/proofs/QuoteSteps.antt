-- Steps of reading quoted text.
use Rattle.std.proofs.Common.{◌≡◌, ℕ, zero, suc, ◌+◌, ◌<◌, ◌≤◌, Bool, true, false, List, [], ◌∷◌, ◌++◌, length, get_or, drop, Option, Some, None, refl, sym, ap, ◌∙◌, arith, add-one, drop-cons, append_assoc}
use Rattle.std.specs.Prelude.{◌==◌, nat_lt, if◌then◌else◌}
use Rattle.std.specs.Option.{option_map}
use Rattle.std.proofs.lemmas.Bool.Decides.{nat_tests}
use Rattle.std.proofs.lemmas.List.{drop_all}
use Rattle.vx_data.specs.declared.ptype.PType.{PType}
use Rattle.vx_data.specs.Texts.{ptype_name}
use Rattle.vx_data.specs.TextsRead.{ptype_among, with_byte, is_quote_byte, quote_length, after}

-- bytes so far before those still to come
abbrev pub bytes_before : List ℕ → Option (List ℕ) → Option (List ℕ)
bytes_before made rest = option_map (λ bytes. made ++ bytes) rest

pub next_byte : (made : List ℕ) (byte : ℕ) (rest : Option (List ℕ)) → bytes_before (made ++ byte ∷ []) rest ≡ bytes_before made (with_byte (Some byte) rest)
next_byte made byte None = refl
next_byte made byte (Some bytes) = ap (λ (bs : List ℕ). Some bs) (append_assoc made (byte ∷ []) bytes)

-- ---- how long quoted text is

-- a list from an element on
from_here : (t : List ℕ) (i : ℕ) → i < length t → drop i t ≡ get_or t i 0 ∷ drop (i + 1) t
from_here t i lt = rw (add-one, drop-cons t i 0) refl

pub one_quoted : (t : List ℕ) (i : ℕ) → i < length t → is_quote_byte (get_or t i 0) ≡ true → quote_length (drop i t) ≡ suc (quote_length (drop (i + 1) t))
unfolding quote_length
one_quoted t i lt sure = rw (from_here t i lt, sure) refl

pub none_quoted : (t : List ℕ) (i : ℕ) → i < length t → is_quote_byte (get_or t i 0) ≡ false → quote_length (drop i t) ≡ 0
unfolding quote_length
none_quoted t i lt sure = rw (from_here t i lt, sure) refl

pub end_quoted : (t : List ℕ) (i : ℕ) → length t ≤ i → quote_length (drop i t) ≡ 0
unfolding quote_length
end_quoted t i le = rw (drop_all i t le) refl

-- ---- a front

same_test : (n : ℕ) → (n == n) ≡ true
same_test n = grind (arith, nat_tests)

other_test : (m n : ℕ) → ¬ (m ≡ n) → (m == n) ≡ false
other_test m n ne = grind (arith, nat_tests)

pub after_step : (front t : List ℕ) (i : ℕ) → i < length front → i < length t → get_or t i 0 ≡ get_or front i 0
    → after (drop i front) (drop i t) ≡ after (drop (i + 1) front) (drop (i + 1) t)
after_step front t i in_front in_text same = rw (from_here front i in_front, from_here t i in_text, same, same_test (get_or front i 0)) refl

pub after_other : (front t : List ℕ) (i : ℕ) → i < length front → i < length t → ¬ (get_or t i 0 ≡ get_or front i 0) → after (drop i front) (drop i t) ≡ None
after_other front t i in_front in_text ne = rw (from_here front i in_front, from_here t i in_text, other_test _ _ ne) refl

pub after_end : (front t : List ℕ) (i : ℕ) → length front ≤ i → after (drop i front) t ≡ Some t
after_end front t i le = rw (drop_all i front le) refl

pub after_short : (front t : List ℕ) → length t < length front → after front t ≡ None
after_short [] t lt = absurd (omega arith)
after_short (c ∷ cs) [] lt = refl
after_short (c ∷ cs) (b ∷ t) lt =
    let inner : after cs t ≡ None = after_short cs t (omega arith) in
    elim (b == c) as (λ v. (if v then after cs t else None) ≡ None) [ true ↦ inner | false ↦ refl ]

-- ---- names of types

from_name : (ps : List PType) (i : ℕ) (d : PType) → i < length ps → drop i ps ≡ get_or ps i d ∷ drop (i + 1) ps
from_name ps i d lt = rw (add-one, drop-cons ps i d) refl

pub next_ptype : (ps : List PType) (i : ℕ) (t : List ℕ) (d : PType) → i < length ps → None ≡ after (ptype_name (get_or ps i d)) t
    → ptype_among (drop i ps) t ≡ ptype_among (drop (i + 1) ps) t
next_ptype ps i t d lt none = rw (from_name ps i d lt, ← none) refl

pub this_ptype : (ps : List PType) (i : ℕ) (t : List ℕ) (d : PType) (rest : List ℕ) → i < length ps → Some rest ≡ after (ptype_name (get_or ps i d)) t
    → ptype_among (drop i ps) t ≡ Some (get_or ps i d, rest)
this_ptype ps i t d rest lt some = rw (from_name ps i d lt, ← some) refl

pub end_ptypes : (ps : List PType) (i : ℕ) (t : List ℕ) → length ps ≤ i → ptype_among (drop i ps) t ≡ None
end_ptypes ps i t past = rw (drop_all i ps past) refl

pub ruleset ptype_steps = (next_ptype, this_ptype, end_ptypes)

pub ruleset length_steps = (one_quoted, none_quoted, end_quoted)

pub ruleset after_steps = (after_step, after_other, after_end, after_short)
