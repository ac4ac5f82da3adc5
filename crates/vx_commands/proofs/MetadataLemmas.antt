-- The entries of metadata among options.
use Rattle.std.proofs.Common.{◌≡◌, ℕ, zero, suc, Bool, true, false, cond, List, [], ◌∷◌, ◌++◌, take, drop, Option, Some, None, Ok, Err, refl, sym, ap, ◌∙◌}
use Rattle.std.specs.Prelude.{String, string_bytes, codes, not}
use Rattle.std.specs.Global.{Global}
use Rattle.std.proofs.lemmas.List.{take-map, append_assoc, append-nil, map-append}
use Rattle.std.specs.Str.{bytes_eq}
use Rattle.vx_base.specs.Buffer.{Buffer}
use Rattle.vx_base.specs.Checks.{◌lacking◌}
use Rattle.vx_data.specs.TextsRead.{FailsToRead}
use Rattle.vx_data.specs.declared.text_error.TextError.{TextError}
use Rattle.vx_data.specs.declared.text_error.TextError.TheVariants.{BadText, OutOfMemory}
use Rattle.vx_footer.specs.Serializing.{values_view}
use Rattle.vx_commands.specs.MetadataWords.{Entry, entry_of, with_entry, after_entries, entries_after, entries_of}
use Rattle.vx_text.specs.Options.{OptionShape, value_count}
use Rattle.vx_text.proofs.OptionLemmas.{texts, IsNext, counted, texts_behind}

passed : (shapes : List OptionShape) (n : ℕ) (words : List (List ℕ)) → entries_after shapes n words ≡ entries_of shapes (drop n words)
passed shapes zero words = refl
passed shapes (suc n) [] = refl
passed shapes (suc n) (word ∷ words) = passed shapes n words

-- the entries of the words that are left, by those behind the next option
next : (shapes : List OptionShape) (left : List (String Global)) (word : String Global) (others behind first : List (String Global)) (text : List ℕ) (count : ℕ)
    → IsNext shapes left word others text count → behind ≡ drop count others → first ≡ take count others
    → entries_of shapes (texts left) ≡ cond (bytes_eq text (codes "--meta")) (with_entry (entry_of (texts first)) (entries_of shapes (texts behind))) (entries_of shapes (texts behind))
next shapes left word others behind first text count n is first_is =
    let k = value_count shapes (string_bytes word) (texts others) in
    let rest : entries_after shapes k (texts others) ≡ entries_of shapes (texts behind) =
    passed shapes k (texts others) ∙ ap (entries_of shapes) (sym (texts_behind shapes left word others behind text count n is)) in
    let front : take k (texts others) ≡ texts first =
    take-map string_bytes k others ∙ ap (λ m. texts (take m others)) (sym (counted shapes left word others text count n)) ∙ ap texts (sym first_is) in
    ap (λ r. entries_of shapes (texts r)) n.left_is
    ∙ ap (λ r. cond (bytes_eq (string_bytes word) (codes "--meta")) (with_entry (entry_of (take k (texts others))) r) r) rest
    ∙ ap (λ f. cond (bytes_eq (string_bytes word) (codes "--meta")) (with_entry (entry_of f) (entries_of shapes (texts behind))) (entries_of shapes (texts behind))) front
    ∙ ap (λ t. cond (bytes_eq t (codes "--meta")) (with_entry (entry_of (texts first)) (entries_of shapes (texts behind))) (entries_of shapes (texts behind))) (sym n.text_is)

-- an option of another word has no entry
pub entry-other : (shapes : List OptionShape) (left : List (String Global)) (word : String Global) (others behind : List (String Global)) (text : List ℕ) (count : ℕ) (made : List Entry) (all : Option (List Entry))
    → IsNext shapes left word others text count → bytes_eq text (codes "--meta") ≡ false → behind ≡ drop count others
    → after_entries made (entries_of shapes (texts left)) ≡ all → after_entries made (entries_of shapes (texts behind)) ≡ all
entry-other shapes left word others behind text count made all n other is so_far =
    let step = next shapes left word others behind (take count others) text count n is refl in
    sym (ap (after_entries made) (step ∙ ap (λ b. cond b (with_entry (entry_of (texts (take count others))) (entries_of shapes (texts behind))) (entries_of shapes (texts behind))) other)) ∙ so_far

moved : (made : List Entry) (e : Entry) (r : Option (List Entry)) → after_entries made (with_entry (Some e) r) ≡ after_entries (made ++ e ∷ []) r
moved made e None = refl
moved made e (Some es) = ap (λ (xs : List Entry). Some xs) (sym (append_assoc made (e ∷ []) es))

spelled : (o : Option Entry) (e : Entry) → (BadText lacking o) ≡ Ok e → o ≡ Some e
spelled None e h = absurd cc
spelled (Some x) e h = let same : x ≡ e = cc in ap (λ (v : Entry). Some v) same

unspelled : (o : Option Entry) → (BadText lacking o) ≡ Err BadText → o ≡ None
unspelled None h = refl
unspelled (Some x) h = absurd cc

-- the next entry was read
pub entry-read : (shapes : List OptionShape) (left : List (String Global)) (word : String Global) (others behind first : List (String Global)) (text : List ℕ) (count : ℕ)
    (made : List (String Global × Buffer)) (e : String Global × Buffer) (all : Option (List Entry))
    → IsNext shapes left word others text count → bytes_eq text (codes "--meta") ≡ true → behind ≡ drop count others → first ≡ take count others
    → (BadText lacking entry_of (texts first)) ≡ Ok (string_bytes e.0, e.1)
    → after_entries (values_view made) (entries_of shapes (texts left)) ≡ all → after_entries (values_view (made ++ e ∷ [])) (entries_of shapes (texts behind)) ≡ all
entry-read shapes left word others behind first text count made e all n same is first_is read so_far =
    let step = next shapes left word others behind first text count n is first_is in
    let here : Entry = (string_bytes e.0, e.1) in
    let found = spelled (entry_of (texts first)) here read in
    ap (λ m. after_entries m (entries_of shapes (texts behind))) (map-append (λ (v : String Global × Buffer). (string_bytes v.0, v.1)) made (e ∷ []))
    ∙ sym (moved (values_view made) here (entries_of shapes (texts behind)))
    ∙ sym (ap (after_entries (values_view made)) (step ∙ ap (λ b. cond b (with_entry (entry_of (texts first)) (entries_of shapes (texts behind))) (entries_of shapes (texts behind))) same
    ∙ ap (λ o. with_entry o (entries_of shapes (texts behind))) found))
    ∙ so_far

-- it was not
pub entry-unread : (shapes : List OptionShape) (left : List (String Global)) (word : String Global) (others behind first : List (String Global)) (text : List ℕ) (count : ℕ) (made : List Entry) (all : Option (List Entry))
    → IsNext shapes left word others text count → bytes_eq text (codes "--meta") ≡ true → behind ≡ drop count others → first ≡ take count others
    → (BadText lacking entry_of (texts first)) ≡ Err BadText → after_entries made (entries_of shapes (texts left)) ≡ all → None ≡ all
entry-unread shapes left word others behind first text count made all n same is first_is bad so_far =
    let step = next shapes left word others behind first text count n is first_is in
    sym (ap (after_entries made) (step ∙ ap (λ b. cond b (with_entry (entry_of (texts first)) (entries_of shapes (texts behind))) (entries_of shapes (texts behind))) same
    ∙ ap (λ o. with_entry o (entries_of shapes (texts behind))) (unspelled (entry_of (texts first)) bad))) ∙ so_far

pub entry-fails : (e : TextError) (shapes : List OptionShape) (left : List (String Global)) (word : String Global) (others behind first : List (String Global)) (text : List ℕ) (count : ℕ) (made : List Entry) (all : Option (List Entry))
    → IsNext shapes left word others text count → bytes_eq text (codes "--meta") ≡ true → behind ≡ drop count others → first ≡ take count others
    → FailsToRead e (BadText lacking entry_of (texts first)) → after_entries made (entries_of shapes (texts left)) ≡ all → FailsToRead e (BadText lacking all)
entry-fails BadText shapes left word others behind first text count made all n same is first_is bad so_far =
    ap (λ o. BadText lacking o) (sym (entry-unread shapes left word others behind first text count made all n same is first_is bad so_far))
entry-fails OutOfMemory shapes left word others behind first text count made all n same is first_is bad so_far = tt

pub unequal : (r b : Bool) → r ≡ not b → r ≡ true → b ≡ false
unequal r true is h = absurd cc
unequal r false is h = refl

pub equal : (r b : Bool) → r ≡ not b → r ≡ false → b ≡ true
equal r true is h = refl
equal r false is h = absurd cc

-- no word is left
pub entries_end : (shapes : List OptionShape) (left : List (String Global)) (made : List (String Global × Buffer)) (all : Option (List Entry)) → left ≡ []
    → after_entries (values_view made) (entries_of shapes (texts left)) ≡ all → Some (values_view made) ≡ all
entries_end shapes left made all none so_far =
    sym (ap (λ (xs : List Entry). Some xs) (append-nil (values_view made)))
    ∙ sym (ap (λ r. after_entries (values_view made) (entries_of shapes (texts r))) none) ∙ so_far

pub entries_begin : (r : Option (List Entry)) → after_entries [] r ≡ r
entries_begin None = refl
entries_begin (Some es) = refl
