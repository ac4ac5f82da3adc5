-- The bytes of fields, one behind the other.
use Rattle.std.proofs.Common.{◌≡◌, ℕ, ◌+◌, ◌<◌, Bool, true, false, List, ◌∷◌, ◌++◌, length, get_or, drop, refl, ap, add-one, drop-cons}
use Rattle.std.specs.Prelude.{◌&&◌, String}
use Rattle.std.specs.Global.{Global}
use Rattle.vx_rows.specs.declared.column.Column.{Column}
use Rattle.vx_data.specs.LayoutWritten.{has_id}
use Rattle.vx_rows.specs.Columns.{Structs}
use Rattle.vx_rows.specs.Rows.{Rows, FieldRows, bools, ints, texts, structs, column_view, pairs_view}
use Rattle.vx_rows.specs.Encoded.{id_of, is_permitted, are_permitted, array_bytes, arrays_bytes}

pub next : (cs : List (String Global × Column)) (i : ℕ) (c : String Global × Column) → i < length cs → c ≡ get_or cs i c → drop i cs ≡ c ∷ drop (i + 1) cs
next cs i c lt is = rw (add-one, drop-cons cs i c, ← is) refl

pub next_permitted : (ids : List (List ℕ)) (cs : List (String Global × Column)) (i : ℕ) (c : String Global × Column) → i < length cs → c ≡ get_or cs i c
    → are_permitted ids (pairs_view (drop i cs)) ≡ (is_permitted ids (column_view c.1) && are_permitted ids (pairs_view (drop (i + 1) cs)))
next_permitted ids cs i c lt is = ap (λ xs. are_permitted ids (pairs_view xs)) (next cs i c lt is)

pub next_bytes : (ids : List (List ℕ)) (cs : List (String Global × Column)) (i : ℕ) (c : String Global × Column) → i < length cs → c ≡ get_or cs i c
    → arrays_bytes ids (pairs_view (drop i cs)) ≡ array_bytes ids (column_view c.1) ++ arrays_bytes ids (pairs_view (drop (i + 1) cs))
next_bytes ids cs i c lt is = ap (λ xs. arrays_bytes ids (pairs_view xs)) (next cs i c lt is)

pub ruleset next_array = (next_permitted, next_bytes)

-- ---- what a permitted column needs

pub id_permitted : (ids : List (List ℕ)) (c : Rows) → is_permitted ids c ≡ true → has_id ids (id_of c) ≡ true
id_permitted ids (bools c) h = h
id_permitted ids (ints c) h = h
id_permitted ids (texts c) h = h
id_permitted ids (structs c cs) h = first-of (has_id ids (id_of (structs c cs))) (are_permitted ids cs) h
  where
    first-of : (a b : Bool) → (a && b) ≡ true → a ≡ true
    first-of true b h = refl
    first-of false b h = h

pub fields_permitted : (ids : List (List ℕ)) (c : Structs) (cs : FieldRows) → is_permitted ids (structs c cs) ≡ true → are_permitted ids cs ≡ true
fields_permitted ids c cs h = second-of (has_id ids (id_of (structs c cs))) (are_permitted ids cs) h
  where
    second-of : (a b : Bool) → (a && b) ≡ true → b ≡ true
    second-of true b h = h
    second-of false b h = cc
