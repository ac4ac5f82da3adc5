-- The texts of rows, one after the other.
use Rattle.std.proofs.Common.{◌≡◌, ℕ, suc, ◌+◌, ◌-◌, ◌<◌, Bool, true, false, List, [], ◌∷◌, ◌++◌, length, get_or, drop, refl, ap, sym, ◌∙◌, add-one, drop-cons, arith, append_assoc}
use Rattle.std.specs.Prelude.{◌&&◌, codes, String}
use Rattle.std.specs.List.{flat_map, list_all}
use Rattle.std.specs.Global.{Global}
use Rattle.vx_data.specs.Texts.{is_quote_plain, quoted_byte, quoted, comma}
use Rattle.vx_rows.specs.declared.column.Column.{Column}
use Rattle.vx_rows.specs.Rows.{Rows, column_view, pairs_view}
use Rattle.vx_rows.specs.ValueTexts.{value_text, fields_text, line_text, lines_from}
use Rattle.vx_rows.proofs.EncodedLemmas.{next}

plain-byte : (b : ℕ) → is_quote_plain b ≡ true → quoted_byte b ≡ b ∷ []
plain-byte b h = rw h refl

plain-bytes : (bs : List ℕ) → list_all is_quote_plain bs ≡ true → flat_map quoted_byte bs ≡ bs
plain-bytes [] h = refl
plain-bytes (b ∷ bs) h = ap (λ xs. xs ++ flat_map quoted_byte bs) (plain-byte b (first-of _ _ h)) ∙ ap (λ xs. b ∷ xs) (plain-bytes bs (second-of _ _ h))
  where
    first-of : (a b : Bool) → (a && b) ≡ true → a ≡ true
    first-of true b h = refl
    first-of false b h = h

    second-of : (a b : Bool) → (a && b) ≡ true → b ≡ true
    second-of true b h = h
    second-of false b h = cc

-- a text whose bytes all stand for themselves
pub quoted_plain : (bs : List ℕ) → 0 < length bs → list_all is_quote_plain bs ≡ true → quoted bs ≡ bs
quoted_plain [] some h = absurd (omega (arith, some))
quoted_plain (b ∷ bs) some h = plain-bytes (b ∷ bs) h

pub plain_texts : (bs : List ℕ) (i : ℕ) (b : ℕ) → i < length bs → b ≡ get_or bs i b → list_all is_quote_plain (drop i bs) ≡ (is_quote_plain b && list_all is_quote_plain (drop (i + 1) bs))
plain_texts bs i b lt is =
    let here : drop i bs ≡ b ∷ drop (i + 1) bs = rw (add-one, drop-cons bs i b, ← is) refl in
    ap (list_all is_quote_plain) here

pub next_text : (first : Bool) (cs : List (String Global × Column)) (i : ℕ) (c : String Global × Column) (row : ℕ) → i < length cs → c ≡ get_or cs i c
    → fields_text first (pairs_view (drop i cs)) row ≡ comma first ++ value_text (column_view c.1) row ++ fields_text false (pairs_view (drop (i + 1) cs)) row
next_text first cs i c row lt is = ap (λ xs. fields_text first (pairs_view xs) row) (next cs i c lt is)

pub next_line : (c : Rows) (row n : ℕ) → row < n → lines_from c row (n - row) ≡ line_text c row ++ lines_from c (row + 1) (n - (row + 1))
next_line c row n h = let e : n - row ≡ suc (n - (row + 1)) = omega arith in ap (lines_from c row) e

-- one more line
pub line_more : (c : Rows) (row n : ℕ) (old mid new : List ℕ) → row < n → mid ≡ old ++ value_text c row → new ≡ mid ++ codes "\n"
    → new ++ lines_from c (row + 1) (n - (row + 1)) ≡ old ++ lines_from c row (n - row)
line_more c row n old mid new less m e =
    ap (λ xs. xs ++ lines_from c (row + 1) (n - (row + 1))) (e ∙ ap (λ xs. xs ++ codes "\n") m ∙ append_assoc old (value_text c row) (codes "\n"))
    ∙ append_assoc old (line_text c row) (lines_from c (row + 1) (n - (row + 1))) ∙ ap (λ xs. old ++ xs) (sym (next_line c row n less))
