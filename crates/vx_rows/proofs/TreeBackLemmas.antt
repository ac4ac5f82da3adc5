-- What was written is read again: a column of any type.
use Rattle.std.proofs.Common.{◌≡◌, ℕ, suc, ◌+◌, ◌-◌, ◌<◌, ◌≤◌, ◌^◌, Bool, true, false, cond, List, [], ◌∷◌, ◌++◌, map, length, nat_le, Some, Result, Ok, Err, refl, ap, sym, ◌∙◌, arith, length-append}
use Rattle.std.specs.Prelude.{◌||◌, ◌&&◌, ◌==◌, slice_get, is_some}
use Rattle.std.proofs.lemmas.Bool.Decides.{nat_tests}
use Rattle.std.specs.List.{flat_map}
use Rattle.std.specs.Int.{w16, from_le_bytes}
use Rattle.std.specs.Str.{bytes_eq}
use Rattle.std.proofs.lemmas.Bool.{le-leb}
use Rattle.std.proofs.lemmas.Nat.{from_le_bytes-to_le_bytes_2}
use Rattle.std.proofs.lemmas.Slice.Eq.{bytes_eq-Decides}
use Rattle.vx_base.specs.Checks.{◌>>=◌}
use Rattle.vx_tables.specs.Standing.{IsAt}
use Rattle.vx_tables.proofs.Places.{at_left, at_right, at_inside, at_drop}
use Rattle.vx_data.specs.declared.ptype.PType.TheVariants.{U16}
use Rattle.vx_data.specs.LayoutWritten.{place_in, has_id}
use Rattle.vx_data.proofs.LayoutTables.{place_is_below}
use Rattle.vx_rows.specs.declared.array_error.ArrayError.{ArrayError}
use Rattle.vx_rows.specs.declared.array_error.ArrayError.TheVariants.{BadArray}
use Rattle.vx_rows.specs.declared.array_kind.ArrayKind.{ArrayKind}
use Rattle.vx_rows.specs.declared.array_kind.ArrayKind.TheVariants.{Bools as BoolKind, Integers, Texts as TextKind, Structs as StructKind}
use Rattle.vx_rows.specs.Columns.{Bools, Ints, Texts, Structs, raw_at}
use Rattle.vx_rows.specs.Rows.{Rows, FieldRows, bools, ints, texts, structs, no_columns, column, dtype_of, types_of, IsColumn, AreColumns}
use Rattle.vx_rows.specs.Arrays.{Found, bools_at, ints_at, texts_at}
use Rattle.vx_rows.specs.Trees.{kind_of, index_of, index_at, structs_at, column_at, columns_at, array}
use Rattle.vx_rows.specs.Written.{presence_bytes, length_bytes, text_bytes}
use Rattle.vx_rows.specs.Encoded.{id_of, index_bytes, is_permitted, are_permitted, body_bytes, arrays_bytes, array_bytes}
use Rattle.vx_rows.proofs.EncodedLemmas.{id_permitted, fields_permitted}
use Rattle.vx_rows.proofs.BackLemmas.{bools_back, ints_back, structs_back, both_long}
use Rattle.vx_rows.proofs.TextBackLemmas.{texts_back}
use Rattle.vx_rows.proofs.TextRowLemmas.{text_short}

first-of : (a b : Bool) → (a && b) ≡ true → a ≡ true
first-of true b h = refl
first-of false b h = h

second-of : (a b : Bool) → (a && b) ≡ true → b ≡ true
second-of true b h = h
second-of false b h = cc

behind-none : (bytes : List ℕ) → bytes ≡ [] ++ (bytes ++ [])
behind-none [] = refl
behind-none (b ∷ bytes) = ap (λ bs. b ∷ bs) (behind-none bytes)

same-number : (n : ℕ) → (n == n) ≡ true
same-number n = grind (arith, nat_tests)

-- the kind of an array
abbrev pub kind_in : Rows → ArrayKind
kind_in (bools c) = BoolKind
kind_in (ints c) = Integers
kind_in (texts c) = TextKind
kind_in (structs c cs) = StructKind

kind-by : (x : List ℕ) (xs : List (List ℕ)) (id : List ℕ) (same : Bool) → bytes_eq x id ≡ same → (same ≡ false → slice_get (map kind_of xs) (place_in xs id) ≡ Some (kind_of id))
    → slice_get (map kind_of (x ∷ xs)) (cond same 0 (1 + place_in xs id)) ≡ Some (kind_of id)
kind-by x xs id true e rest = ap (λ i. Some (kind_of i)) ((bytes_eq-Decides x id).0 e)
kind-by x xs id false e rest = let next : 1 + place_in xs id ≡ suc (place_in xs id) = omega arith in ap (slice_get (map kind_of (x ∷ xs))) next ∙ rest refl

other : (a b : Bool) → (a || b) ≡ true → a ≡ false → b ≡ true
other true b h e = cc
other false b h e = h

pub kind_there : (ids : List (List ℕ)) (id : List ℕ) → has_id ids id ≡ true → slice_get (map kind_of ids) (place_in ids id) ≡ Some (kind_of id)
kind_there [] id h = absurd cc
kind_there (x ∷ xs) id h = kind-by x xs id (bytes_eq x id) refl (λ e. kind_there xs id (other (bytes_eq x id) (has_id xs id) h e))

index-ok : (c : Rows) (after : ℕ) → index_of (kind_in c) after (Some (kind_of (id_of c))) ≡ Ok after
index-ok (bools c) after = refl
index-ok (ints c) after = refl
index-ok (texts c) after = refl
index-ok (structs c cs) after = refl

pub index_back : (ids : List (List ℕ)) (c : Rows) (b : List ℕ) (at : ℕ) → has_id ids (id_of c) ≡ true → length ids ≤ 65536 → IsAt b at (index_bytes ids (id_of c))
    → index_at (map kind_of ids) (kind_in c) b at ≡ Ok (at + length (index_bytes ids (id_of c)))
index_back ids c b at known few h =
    let below = place_is_below ids (id_of c) known in
    let inside = at_inside b at (index_bytes ids (id_of c)) h in
    let long : length (index_bytes ids (id_of c)) ≡ 2 = refl in
    let room : nat_le 2 (length b - at) ≡ true = le-leb _ _ (omega (arith, inside, long)) in
    let raw : raw_at U16 b at ≡ place_in ids (id_of c) = ap (from_le_bytes w16) (at_drop b at (index_bytes ids (id_of c)) h 2 (sym long)) ∙ from_le_bytes-to_le_bytes_2 _ (omega (arith, below, few)) in
    rw (room, raw, kind_there ids (id_of c) known) (index-ok c (at + 2) ∙ ap (λ n. Ok (at + n)) (sym long))

module _ (ids : List (List ℕ)) (few : length ids ≤ 65536) (n : ℕ) (b : List ℕ) where
  mutual
    pub body_back : (c : Rows) (at : ℕ) → IsColumn n c → is_permitted ids c ≡ true → length (body_bytes ids c) < 2 ^ 32 → IsAt b at (index_bytes ids (id_of c) ++ body_bytes ids c)
        → column_at (map kind_of ids) (dtype_of c) n b at ≡ Ok (c, at + length (index_bytes ids (id_of c) ++ body_bytes ids c))
    body_back (bools c) at is known short h =
        let index = index_back ids (bools c) b at (id_permitted ids (bools c) known) few (at_left b at (index_bytes ids (id_of (bools c))) (body_bytes ids (bools c)) h) in
        let body = bools_back c.nullable c.rows b (at + 2) is.1 (at_right b at (index_bytes ids (id_of (bools c))) (body_bytes ids (bools c)) h) in
        ap (λ (r : Result ℕ ArrayError). r >>= λ p. bools_at c.nullable n b p >>= λ x. Ok (bools x.0, x.1)) index
        ∙ ap (λ m. bools_at c.nullable m b (at + 2) >>= λ x. Ok (bools x.0, x.1)) (sym is.0)
        ∙ ap (λ (r : Found Bools). r >>= λ x. Ok (bools x.0, x.1)) body
        ∙ ap (λ m. Ok (bools c, m)) (both_long at (index_bytes ids (id_of (bools c))) (body_bytes ids (bools c)))
    body_back (ints c) at is known short h =
        let index = index_back ids (ints c) b at (id_permitted ids (ints c) known) few (at_left b at (index_bytes ids (id_of (ints c))) (body_bytes ids (ints c)) h) in
        let body = ints_back c.ptype c.nullable c.rows b (at + 2) is.1 is.2 (at_right b at (index_bytes ids (id_of (ints c))) (body_bytes ids (ints c)) h) in
        ap (λ (r : Result ℕ ArrayError). r >>= λ p. ints_at c.ptype c.nullable n b p >>= λ x. Ok (ints x.0, x.1)) index
        ∙ ap (λ m. ints_at c.ptype c.nullable m b (at + 2) >>= λ x. Ok (ints x.0, x.1)) (sym is.0)
        ∙ ap (λ (r : Found Ints). r >>= λ x. Ok (ints x.0, x.1)) body
        ∙ ap (λ m. Ok (ints c, m)) (both_long at (index_bytes ids (id_of (ints c))) (body_bytes ids (ints c)))
    body_back (texts c) at is known short h =
        let index = index_back ids (texts c) b at (id_permitted ids (texts c) known) few (at_left b at (index_bytes ids (id_of (texts c))) (body_bytes ids (texts c)) h) in
        let all = length-append (presence_bytes c.nullable (map is_some c.rows) ++ flat_map length_bytes c.rows) (flat_map text_bytes c.rows) in
        let body = texts_back c.nullable c.rows b (at + 2) is.1 is.2 (λ i l. let one = text_short c.rows i l in omega (arith, one, all, short))
        (at_right b at (index_bytes ids (id_of (texts c))) (body_bytes ids (texts c)) h) in
        ap (λ (r : Result ℕ ArrayError). r >>= λ p. texts_at c.nullable n b p >>= λ x. Ok (texts x.0, x.1)) index
        ∙ ap (λ m. texts_at c.nullable m b (at + 2) >>= λ x. Ok (texts x.0, x.1)) (sym is.0)
        ∙ ap (λ (r : Found Texts). r >>= λ x. Ok (texts x.0, x.1)) body
        ∙ ap (λ m. Ok (texts c, m)) (both_long at (index_bytes ids (id_of (texts c))) (body_bytes ids (texts c)))
    body_back (structs c cs) at is known short h =
        let index = index_back ids (structs c cs) b at (id_permitted ids (structs c cs) known) few (at_left b at (index_bytes ids (id_of (structs c cs))) (body_bytes ids (structs c cs)) h) in
        let inner = at_right b at (index_bytes ids (id_of (structs c cs))) (body_bytes ids (structs c cs)) h in
        let all = length-append (presence_bytes c.nullable c.present) (arrays_bytes ids cs) in
        let start = structs_back c.nullable c.present b (at + 2) is.1 (at_left b (at + 2) (presence_bytes c.nullable c.present) (arrays_bytes ids cs) inner) in
        let rest = fields_back cs (at + 2 + length (presence_bytes c.nullable c.present)) is.2 (fields_permitted ids c cs known) (omega (arith, all, short))
        (at_right b (at + 2) (presence_bytes c.nullable c.present) (arrays_bytes ids cs) inner) in
        ap (λ (r : Result ℕ ArrayError). r >>= λ p. structs_at c.nullable n b p >>= λ x. columns_at (map kind_of ids) (types_of cs) n b x.1 >>= λ fs. Ok (structs x.0 fs.0, fs.1)) index
        ∙ ap (λ m. structs_at c.nullable m b (at + 2) >>= λ x. columns_at (map kind_of ids) (types_of cs) n b x.1 >>= λ fs. Ok (structs x.0 fs.0, fs.1)) (sym is.0)
        ∙ ap (λ (r : Found Structs). r >>= λ x. columns_at (map kind_of ids) (types_of cs) n b x.1 >>= λ fs. Ok (structs x.0 fs.0, fs.1)) start
        ∙ ap (λ (r : Found FieldRows). r >>= λ fs. Ok (structs c fs.0, fs.1)) rest
        ∙ ap (λ m. Ok (structs c cs, m)) (both_long (at + 2) (presence_bytes c.nullable c.present) (arrays_bytes ids cs)
        ∙ both_long at (index_bytes ids (id_of (structs c cs))) (body_bytes ids (structs c cs)))

    pub fields_back : (cs : FieldRows) (at : ℕ) → AreColumns n cs → are_permitted ids cs ≡ true → length (arrays_bytes ids cs) < 2 ^ 32 → IsAt b at (arrays_bytes ids cs)
        → columns_at (map kind_of ids) (types_of cs) n b at ≡ Ok (cs, at + length (arrays_bytes ids cs))
    fields_back no_columns at is known short h = let e : at ≡ at + 0 = omega arith in ap (λ m. Ok (no_columns, m)) e
    fields_back (column name c cs) at is known short h =
        let array = index_bytes ids (id_of c) ++ body_bytes ids c in
        let long = length-append array (arrays_bytes ids cs) in
        let own = length-append (index_bytes ids (id_of c)) (body_bytes ids c) in
        let first = body_back c at is.0 (first-of (is_permitted ids c) (are_permitted ids cs) known) (omega (arith, long, own, short)) (at_left b at array (arrays_bytes ids cs) h) in
        let rest = fields_back cs (at + length array) is.1 (second-of (is_permitted ids c) (are_permitted ids cs) known) (omega (arith, long, short)) (at_right b at array (arrays_bytes ids cs) h) in
        ap (λ (r : Found Rows). r >>= λ x. columns_at (map kind_of ids) (types_of cs) n b x.1 >>= λ fs. Ok (column name x.0 fs.0, fs.1)) first
        ∙ ap (λ (r : Found FieldRows). r >>= λ fs. Ok (column name c fs.0, fs.1)) rest
        ∙ ap (λ m. Ok (column name c cs, m)) (both_long at array (arrays_bytes ids cs))

-- what was encoded is decoded to the same column
pub array_back : (ids : List (List ℕ)) (c : Rows) (n : ℕ) (b : List ℕ) → length ids ≤ 65536 → is_permitted ids c ≡ true → length (array_bytes ids c) < 2 ^ 32 → b ≡ array_bytes ids c → IsColumn n c
    → array ids (dtype_of c) n b ≡ Ok c
array_back ids c n b few known short e is =
    let own = length-append (index_bytes ids (id_of c)) (body_bytes ids c) in
    let standing : IsAt b 0 (array_bytes ids c) = record { front = []; rest = []; parts = e ∙ behind-none (array_bytes ids c); place = refl } in
    let found = body_back ids few n b c 0 is known (omega (arith, own, short)) standing in
    let long = ap length e in
    let end : 0 + length (array_bytes ids c) ≡ length b = omega (arith, long) in
    ap (λ (r : Found Rows). r >>= λ x. cond (x.1 == length b) (Ok x.0) (Err BadArray)) found
    ∙ ap (λ (m : ℕ). cond (m == length b) (Ok c) (Err BadArray)) end
    ∙ ap (λ (t : Bool). cond t (Ok c) (Err BadArray)) (same-number (length b))
