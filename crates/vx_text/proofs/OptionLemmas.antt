-- Options, and what stands behind their values.
use Rattle.std.proofs.Common.{◌≡◌, ℕ, zero, suc, ◌<◌, ◌≤◌, Bool, true, false, ◌&&◌, ◌||◌, not, cond, List, [], ◌∷◌, length, map, take, drop, Option, Some, None, refl, sym, ap, ◌∙◌, arith}
use Rattle.std.proofs.lemmas.List.{length-map, length-drop, drop-map, take-map}
use Rattle.std.specs.Prelude.{String, string_bytes, is_some}
use Rattle.std.specs.Global.{Global}
use Rattle.std.specs.Option.{option_map, option_map_or}
use Rattle.std.specs.Str.{bytes_eq}
use Rattle.vx_text.specs.Options.{OptionShape, shape_named, values_behind, value_count, values_after, values_of, is_option, options_after, are_options}

abbrev pub texts : List (String Global) → List (List ℕ)
texts words = map string_bytes words

-- ---- words that are passed over

values_passed : (shapes : List OptionShape) (wanted : List ℕ) (passed : ℕ) (words : List (List ℕ)) → values_after shapes wanted passed words ≡ values_of shapes wanted (drop passed words)
values_passed shapes wanted zero words = refl
values_passed shapes wanted (suc passed) [] = refl
values_passed shapes wanted (suc passed) (word ∷ words) = values_passed shapes wanted passed words

options_passed : (shapes : List OptionShape) (passed : ℕ) (words : List (List ℕ)) → passed ≤ length words → options_after shapes passed words ≡ are_options shapes (drop passed words)
options_passed shapes zero words few = refl
options_passed shapes (suc passed) [] few = absurd (omega (arith, few))
options_passed shapes (suc passed) (word ∷ words) few = options_passed shapes passed words (omega (arith, few))

options_wanting : (shapes : List OptionShape) (passed : ℕ) (words : List (List ℕ)) → length words < passed → options_after shapes passed words ≡ false
options_wanting shapes zero words many = absurd (omega (arith, many))
options_wanting shapes (suc passed) [] many = refl
options_wanting shapes (suc passed) (word ∷ words) many = options_wanting shapes passed words (omega (arith, many))

-- ---- the first of some words

-- the first of some words that are left, with how many words behind it are its values
pub record IsNext (shapes : List OptionShape) (left : List (String Global)) (word : String Global) (others : List (String Global)) (text : List ℕ) (count : ℕ) : Type 0 where
  pub left_is : left ≡ word ∷ others
  pub text_is : text ≡ string_bytes word
  pub count_is : count ≡ value_count shapes text (texts others)

pub counted : (shapes : List OptionShape) (left : List (String Global)) (word : String Global) (others : List (String Global)) (text : List ℕ) (count : ℕ) → IsNext shapes left word others text count → count ≡ value_count shapes (string_bytes word) (texts others)
counted shapes left word others text count n = n.count_is ∙ ap (λ t. value_count shapes t (texts others)) n.text_is

pub texts_behind : (shapes : List OptionShape) (left : List (String Global)) (word : String Global) (others behind : List (String Global)) (text : List ℕ) (count : ℕ) → IsNext shapes left word others text count → behind ≡ drop count others
    → texts behind ≡ drop (value_count shapes (string_bytes word) (texts others)) (texts others)
texts_behind shapes left word others behind text count n is =
    ap texts (is ∙ ap (λ k. drop k others) (counted shapes left word others text count n)) ∙ sym (drop-map string_bytes (value_count shapes (string_bytes word) (texts others)) others)

pub shorter : (left : List (String Global)) (word : String Global) (others behind : List (String Global)) (count : ℕ) → left ≡ word ∷ others → behind ≡ drop count others → length behind < length left
shorter left word others behind count left_is is = omega (arith, ap length left_is, ap length is, length-drop count others)

-- ---- the values of an option

-- behind an option of another word
pub values_next : (shapes : List OptionShape) (wanted : List ℕ) (left : List (String Global)) (word : String Global) (others behind : List (String Global)) (text : List ℕ) (count : ℕ) (words : List (String Global))
    → IsNext shapes left word others text count → bytes_eq text wanted ≡ false → behind ≡ drop count others
    → values_of shapes wanted (texts left) ≡ values_of shapes wanted (texts words) → values_of shapes wanted (texts behind) ≡ values_of shapes wanted (texts words)
values_next shapes wanted left word others behind text count words n other is so_far =
    let k = value_count shapes (string_bytes word) (texts others) in
    ap (values_of shapes wanted) (texts_behind shapes left word others behind text count n is)
    ∙ sym (values_passed shapes wanted k (texts others))
    ∙ sym (ap (λ b. cond b (Some (take k (texts others))) (values_after shapes wanted k (texts others))) (ap (λ t. bytes_eq t wanted) (sym n.text_is) ∙ other))
    ∙ ap (λ r. values_of shapes wanted (texts r)) (sym n.left_is) ∙ so_far

pub values_found : (shapes : List OptionShape) (wanted : List ℕ) (left : List (String Global)) (word : String Global) (others first : List (String Global)) (text : List ℕ) (count : ℕ) (words : List (String Global))
    → IsNext shapes left word others text count → bytes_eq text wanted ≡ true → first ≡ take count others
    → values_of shapes wanted (texts left) ≡ values_of shapes wanted (texts words) → Some (texts first) ≡ values_of shapes wanted (texts words)
values_found shapes wanted left word others first text count words n same is so_far =
    let k = value_count shapes (string_bytes word) (texts others) in
    ap (λ ws. Some (texts ws)) (is ∙ ap (λ m. take m others) (counted shapes left word others text count n))
    ∙ ap (λ ws. Some ws) (sym (take-map string_bytes k others))
    ∙ sym (ap (λ b. cond b (Some (take k (texts others))) (values_after shapes wanted k (texts others))) (ap (λ t. bytes_eq t wanted) (sym n.text_is) ∙ same))
    ∙ ap (λ r. values_of shapes wanted (texts r)) (sym n.left_is) ∙ so_far

pub values_none : (shapes : List OptionShape) (wanted : List ℕ) (left words : List (String Global)) → left ≡ [] → values_of shapes wanted (texts left) ≡ values_of shapes wanted (texts words) → None ≡ values_of shapes wanted (texts words)
values_none shapes wanted left words none so_far = ap (λ r. values_of shapes wanted (texts r)) (sym none) ∙ so_far

-- what stands behind the values of an option
pub values_behind_it : (shapes : List OptionShape) (wanted : List ℕ) (count : ℕ) (words behind : List (String Global)) → behind ≡ drop count words → values_of shapes wanted (texts behind) ≡ values_after shapes wanted count (texts words)
values_behind_it shapes wanted count words behind is =
    ap (λ r. values_of shapes wanted (texts r)) is ∙ ap (values_of shapes wanted) (sym (drop-map string_bytes count words)) ∙ sym (values_passed shapes wanted count (texts words))

-- ---- words that are options

pub is_some_map : {A B : Type 0} (f : A → B) (o : Option A) → is_some (option_map f o) ≡ is_some o
is_some_map f None = refl
is_some_map f (Some x) = refl

pub turned : (a b : Bool) → a ≡ not b → b ≡ not a
turned a true h = ap not (sym h)
turned a false h = ap not (sym h)

-- an option that is not given behind its values
pub option_once : (shapes : List OptionShape) (word : List ℕ) (words behind : List (String Global)) (s : OptionShape) (count : ℕ) (found : Option (List (List ℕ)))
    → Some s ≡ shape_named shapes word → s.repeats ≡ false → count ≡ values_behind (texts words) s → behind ≡ drop count words → found ≡ values_of shapes word (texts behind)
    → not (is_some found) ≡ is_option shapes word (texts words)
option_once shapes word words behind s count found named single counted_is is given =
    ap (λ o. not (is_some o)) (given ∙ values_behind_it shapes word count words behind is ∙ ap (λ n. values_after shapes word n (texts words)) counted_is)
    ∙ sym (ap (λ b. b || not (is_some (values_after shapes word (values_behind (texts words) s) (texts words)))) single)
    ∙ ap (λ o. option_map_or (λ x. x.repeats || not (is_some (values_after shapes word (values_behind (texts words) x) (texts words)))) o false) named

both_false : (b : Bool) → (b && false) ≡ false
both_false true = refl
both_false false = refl

-- an option with all its values
pub options_next : (shapes : List OptionShape) (left : List (String Global)) (word : String Global) (others behind : List (String Global)) (text : List ℕ) (count : ℕ) (words : List (String Global))
    → IsNext shapes left word others text count → is_option shapes text (texts others) ≡ true → count ≤ length others → behind ≡ drop count others
    → are_options shapes (texts left) ≡ are_options shapes (texts words) → are_options shapes (texts behind) ≡ are_options shapes (texts words)
options_next shapes left word others behind text count words n named few is so_far =
    let k = value_count shapes (string_bytes word) (texts others) in
    let enough : k ≤ length (texts others) = omega (arith, few, counted shapes left word others text count n, length-map others string_bytes) in
    ap (are_options shapes) (texts_behind shapes left word others behind text count n is)
    ∙ sym (options_passed shapes k (texts others) enough)
    ∙ sym (ap (λ b. b && options_after shapes k (texts others)) (ap (λ t. is_option shapes t (texts others)) (sym n.text_is) ∙ named))
    ∙ ap (λ r. are_options shapes (texts r)) (sym n.left_is) ∙ so_far

-- a word that is no option
pub options_other : (shapes : List OptionShape) (left : List (String Global)) (word : String Global) (others : List (String Global)) (text : List ℕ) (count : ℕ) (words : List (String Global))
    → IsNext shapes left word others text count → is_option shapes text (texts others) ≡ false
    → are_options shapes (texts left) ≡ are_options shapes (texts words) → false ≡ are_options shapes (texts words)
options_other shapes left word others text count words n other so_far =
    let k = value_count shapes (string_bytes word) (texts others) in
    sym (ap (λ b. b && options_after shapes k (texts others)) (ap (λ t. is_option shapes t (texts others)) (sym n.text_is) ∙ other))
    ∙ ap (λ r. are_options shapes (texts r)) (sym n.left_is) ∙ so_far

-- an option whose values are wanting
pub options_short : (shapes : List OptionShape) (left : List (String Global)) (word : String Global) (others : List (String Global)) (text : List ℕ) (count : ℕ) (words : List (String Global))
    → IsNext shapes left word others text count → length others < count
    → are_options shapes (texts left) ≡ are_options shapes (texts words) → false ≡ are_options shapes (texts words)
options_short shapes left word others text count words n many so_far =
    let k = value_count shapes (string_bytes word) (texts others) in
    let wanting : length (texts others) < k = omega (arith, many, counted shapes left word others text count n, length-map others string_bytes) in
    let b = is_option shapes (string_bytes word) (texts others) in
    sym (both_false b) ∙ ap (λ t. b && t) (sym (options_wanting shapes k (texts others) wanting))
    ∙ ap (λ r. are_options shapes (texts r)) (sym n.left_is) ∙ so_far

pub options_end : (shapes : List OptionShape) (left words : List (String Global)) → left ≡ [] → are_options shapes (texts left) ≡ are_options shapes (texts words) → true ≡ are_options shapes (texts words)
options_end shapes left words none so_far = ap (λ r. are_options shapes (texts r)) (sym none) ∙ so_far
