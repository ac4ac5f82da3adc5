-- What was written is read again: columns without fields.
use Rattle.std.proofs.Common.{◌≡◌, ℕ, ℤ, zero, suc, ◌+◌, ◌-◌, ◌*◌, ◌/◌, ◌%◌, ◌<◌, ◌^◌, Bool, true, false, cond, List, [], ◌∷◌, ◌++◌, map, length, nat_le, nat_lt, Option, Some, None, Result, Ok, Err, is_some, unwrap_or, refl, ap, sym, ◌∙◌, arith, length-append}
use Rattle.std.specs.Prelude.{slice_index, slice_index_or, ◌||◌, ◌&&◌, ◌==◌, IfSome}
use Rattle.std.specs.List.{flat_map, list_all, All}
use Rattle.std.specs.Int.{bit_at}
use Rattle.std.proofs.lemmas.Bool.{le-leb, lt-ltb}
use Rattle.vx_base.specs.Checks.{◌>>=◌}
use Rattle.vx_tables.specs.Standing.{IsAt}
use Rattle.vx_tables.proofs.Places.{at_left, at_right, at_inside}
use Rattle.vx_data.specs.declared.ptype.PType.{PType}
use Rattle.vx_rows.specs.declared.array_error.ArrayError.{ArrayError}
use Rattle.vx_rows.specs.declared.array_error.ArrayError.TheVariants.{BadArray}
use Rattle.vx_rows.specs.Span.{span, every}
use Rattle.vx_rows.specs.Bits.{bit, present_at, bitmap_byte, bitmap_size, bitmap}
use Rattle.vx_rows.specs.Columns.{value_size, value_place, int_row, bool_row, is_clear, may_hold, are_there}
use Rattle.vx_rows.specs.Arrays.{Found, is_padded, is_false, bitmap_end, some_present, presence_at, ints_here, ints_at, bools_here, bools_at}
use Rattle.vx_rows.specs.Trees.{structs_at}
use Rattle.vx_rows.specs.Written.{is_within, cell, presence_bytes}
use Rattle.vx_rows.proofs.SpanLemmas.{length_span, get_or_span, span_same}
use Rattle.vx_rows.proofs.MakingLemmas.{IsPresence, presence_all, presence_flags, span_list, map_long, bools_rows, bits_clear, structs_all}
use Rattle.vx_rows.proofs.BitmapLemmas.{bit_of_byte, span-index, high_zero}
use Rattle.vx_rows.proofs.ValueLemmas.{ints_rows, ints_clear, cells_long}

-- a byte of what stands at a place
pub at_index : (b : List ℕ) (at : ℕ) (x : List ℕ) → IsAt b at x → (k : ℕ) → k < length x → slice_index b (at + k) ≡ slice_index x k
at_index b at x h k l = ap (λ c. slice_index c (at + k)) h.parts ∙ ap (λ n. slice_index (h.front ++ (x ++ h.rest)) (n + k)) (sym h.place) ∙ behind h.front (x ++ h.rest) k ∙ among x h.rest k l
  where
    behind : (xs ys : List ℕ) (k : ℕ) → slice_index (xs ++ ys) (length xs + k) ≡ slice_index ys k
    behind [] ys k = ap (slice_index ys) (omega arith)
    behind (x ∷ xs) ys k = let e : length (x ∷ xs) + k ≡ suc (length xs + k) = omega arith in ap (slice_index (x ∷ (xs ++ ys))) e ∙ behind xs ys k

    among : (xs ys : List ℕ) (k : ℕ) → k < length xs → slice_index (xs ++ ys) k ≡ slice_index xs k
    among [] ys k l = absurd (omega (arith, l))
    among (x ∷ xs) ys zero l = refl
    among (x ∷ xs) ys (suc k) l = among xs ys k (omega (arith, l))

-- ---- bitmaps

bitmap-long : (flags : List Bool) (b : List ℕ) (at : ℕ) → length (bitmap flags) ≡ bitmap_size (length flags)
bitmap-long flags b at = length_span (bitmap_byte flags) 0 (bitmap_size (length flags))

byte-back : (flags : List Bool) (b : List ℕ) (at : ℕ) → IsAt b at (bitmap flags) → (k : ℕ) → k < bitmap_size (length flags) → slice_index b (at + k) ≡ bitmap_byte flags k
byte-back flags b at h k l =
    let long = bitmap-long flags b at in
    at_index b at (bitmap flags) h k (omega (arith, long, l)) ∙ get_or_span (bitmap_byte flags) 0 (bitmap_size (length flags)) k 0 l ∙ ap (bitmap_byte flags) (omega arith)

or-true : (a : Bool) → (a || true) ≡ true
or-true true = refl
or-true false = refl

padded-by : (flags : List Bool) (b : List ℕ) (at : ℕ) → IsAt b at (bitmap flags) → (r : ℕ) → length flags % 8 ≡ r → ((r == 0) || (slice_index b (at + length flags / 8) / 2 ^ r == 0)) ≡ true
padded-by flags b at h zero e = refl
padded-by flags b at h (suc r) e =
    let byte : length flags / 8 < bitmap_size (length flags) = omega (arith, e) in
    ap (λ x. (suc r == 0) || (x / 2 ^ suc r == 0)) (byte-back flags b at h (length flags / 8) byte)
    ∙ ap (λ x. (suc r == 0) || (x == 0)) (high_zero flags (length flags / 8) (suc r) (omega arith) (omega (arith, e)) (omega (arith, e)))
    ∙ or-true (suc r == 0)

module _ (flags : List Bool) (b : List ℕ) (at : ℕ) where
  pub bits_back : IsAt b at (bitmap flags) → span (bit b at) 0 (length flags) ≡ flags
  bits_back h =
      span_same (bit b at) (λ i. slice_index_or flags i false) 0 (length flags) (λ i l u.
      let byte : i / 8 < bitmap_size (length flags) = omega (arith, u) in
      ap (λ x. bit_at x (i % 8) == 1) (byte-back flags b at h (i / 8) byte) ∙ bit_of_byte flags i)
      ∙ span-index flags

  pub padded_back : IsAt b at (bitmap flags) → is_padded b at (length flags) ≡ true
  padded_back h = padded-by flags b at h (length flags % 8) refl

  pub end_back : IsAt b at (bitmap flags) → bitmap_end (length flags) b at ≡ Ok (at + bitmap_size (length flags))
  end_back h =
      let inside = at_inside b at (bitmap flags) h in
      let long = bitmap-long flags b at in
      let room : nat_le (bitmap_size (length flags)) (length b - at) ≡ true = le-leb _ _ (omega (arith, inside, long)) in
      rw (room, padded_back h) refl

-- ---- which rows are not null

every-flags : (f : ℕ → Bool) (k n : ℕ) → every f k n ≡ list_all (λ b. b) (span f k n)
every-flags f k zero = refl
every-flags f k (suc n) = ap (λ b. f k && b) (every-flags f (k + 1) n)

-- what stands for the presence of rows
abbrev pub presence_of : Bool → List Bool → Option (List Bool)
presence_of nullable flags = cond nullable (cond (list_all (λ b. b) flags) None (Some flags)) None

flagged-back : (flags : List Bool) (b : List ℕ) (at : ℕ) (all : Bool) → list_all (λ b. b) flags ≡ all → IsAt b at (cond all (0 ∷ []) (1 ∷ bitmap flags))
    → presence_at true (length flags) b at ≡ Ok (cond all None (Some flags), at + length (cond all (0 ∷ []) (1 ∷ bitmap flags)))
flagged-back flags b at true e h =
    let inside = at_inside b at (0 ∷ []) h in
    let room : nat_lt at (length b) ≡ true = lt-ltb _ _ (omega (arith, inside)) in
    let here : at ≡ at + 0 = omega arith in
    let byte : slice_index b at ≡ 0 = ap (slice_index b) here ∙ at_index b at (0 ∷ []) h 0 (omega arith) in
    rw (room, byte) refl
flagged-back flags b at false e h =
    let inside = at_inside b at (1 ∷ bitmap flags) h in
    let room : nat_lt at (length b) ≡ true = lt-ltb _ _ (omega (arith, inside)) in
    let here : at ≡ at + 0 = omega arith in
    let byte : slice_index b at ≡ 1 = ap (slice_index b) here ∙ at_index b at (1 ∷ bitmap flags) h 0 (omega arith) in
    let next : IsAt b (at + 1) (bitmap flags) = at_right b at (1 ∷ []) (bitmap flags) h in
    let bits = bits_back flags b (at + 1) next in
    let some : every (bit b (at + 1)) 0 (length flags) ≡ false = every-flags (bit b (at + 1)) 0 (length flags) ∙ ap (list_all (λ b. b)) bits ∙ e in
    let long = bitmap-long flags b (at + 1) in
    let place : at + 1 + bitmap_size (length flags) ≡ at + length (1 ∷ bitmap flags) = omega (arith, long) in
    let last : some_present (length flags) b (at + 1) ≡ Ok (Some flags, at + length (1 ∷ bitmap flags)) =
    ap (λ (r : Result ℕ ArrayError). r >>= (λ after. cond (every (bit b (at + 1)) 0 (length flags)) (Err BadArray) (Ok (Some (span (bit b (at + 1)) 0 (length flags)), after)))) (end_back flags b (at + 1) next)
    ∙ ap (λ (t : Bool). cond t (Err BadArray) (Ok (Some (span (bit b (at + 1)) 0 (length flags)), at + 1 + bitmap_size (length flags)))) some
    ∙ ap (λ (bs : List Bool). Ok (Some bs, at + 1 + bitmap_size (length flags))) bits
    ∙ ap (λ (n : ℕ). Ok (Some flags, n)) place in
    rw (room, byte) last

pub presence_back : (nullable : Bool) (flags : List Bool) (b : List ℕ) (at : ℕ) → IsAt b at (presence_bytes nullable flags)
    → presence_at nullable (length flags) b at ≡ Ok (presence_of nullable flags, at + length (presence_bytes nullable flags))
presence_back false flags b at h = let e : at ≡ at + 0 = omega arith in ap (λ (n : ℕ). Ok (None, n)) e
presence_back true flags b at h = flagged-back flags b at (list_all (λ b. b) flags) refl h

all-some : {A : Type 0} → (rows : List (Option A)) → list_all (λ b. b) (map is_some rows) ≡ list_all is_some rows
all-some [] = refl
all-some (row ∷ rows) = ap (λ b. is_some row && b) (all-some rows)

presence-by : {A : Type 0} → (rows : List (Option A)) (all : Bool) → list_all (λ b. b) (map is_some rows) ≡ all → IsPresence (cond all None (Some (map is_some rows))) rows
presence-by rows true e = presence_all rows (sym (all-some rows) ∙ e)
presence-by rows false e = presence_flags rows

pub presence_is : {A : Type 0} → (nullable : Bool) (rows : List (Option A)) → may_hold nullable rows ≡ true → IsPresence (presence_of nullable (map is_some rows)) rows
presence_is false rows h = presence_all rows h
presence_is true rows h = presence-by rows (list_all (λ b. b) (map is_some rows)) refl

-- the same, where the rows are counted
pub rows_present : {A : Type 0} → (nullable : Bool) (rows : List (Option A)) (b : List ℕ) (at : ℕ) → IsAt b at (presence_bytes nullable (map is_some rows))
    → presence_at nullable (length rows) b at ≡ Ok (presence_of nullable (map is_some rows), at + length (presence_bytes nullable (map is_some rows)))
rows_present nullable rows b at h = ap (λ n. presence_at nullable n b at) (sym (map_long is_some rows)) ∙ presence_back nullable (map is_some rows) b at h

-- ---- integers

ints-here : (p : PType) (nullable : Bool) (rows : List (Option ℤ)) (present : Option (List Bool)) (b : List ℕ) (at : ℕ) → IsPresence present rows
    → All (λ (row : Option ℤ). IfSome row (λ n. is_within p n ≡ true)) rows → IsAt b at (flat_map (cell p) rows)
    → ints_here p nullable (length rows) b (present, at) ≡ Ok (record { ptype = p; nullable = nullable; rows = rows }, at + length (flat_map (cell p) rows))
ints-here p nullable rows present b at is within h =
    let inside = at_inside b at (flat_map (cell p) rows) h in
    let long = cells_long p rows in
    let room : nat_le (value_size p * length rows) (length b - at) ≡ true = le-leb _ _ (omega (arith, inside, long)) in
    let clear : every (is_clear p present b at) 0 (length rows) ≡ true =
    ap (λ c. every (is_clear p present c at) 0 (length rows)) h.parts ∙ ap (λ n. every (is_clear p present (h.front ++ (flat_map (cell p) rows ++ h.rest)) n) 0 (length rows)) (sym h.place)
    ∙ ints_clear p rows present h.front h.rest is in
    let same : span (int_row p present b at) 0 (length rows) ≡ rows =
    ap (λ c. span (int_row p present c at) 0 (length rows)) h.parts ∙ ap (λ n. span (int_row p present (h.front ++ (flat_map (cell p) rows ++ h.rest)) n) 0 (length rows)) (sym h.place)
    ∙ ints_rows p rows present h.front h.rest is within in
    let place : value_place p at (length rows) ≡ at + length (flat_map (cell p) rows) = omega (arith, long) in
    rw (room, clear) (ap (λ (rs : List (Option ℤ)). Ok (record { ptype = p; nullable = nullable; rows = rs }, value_place p at (length rows))) same
    ∙ ap (λ (n : ℕ). Ok (record { ptype = p; nullable = nullable; rows = rows }, n)) place)

pub both_long : (at : ℕ) (x y : List ℕ) → at + length x + length y ≡ at + length (x ++ y)
both_long at x y = let e = length-append x y in omega (arith, e)

pub ints_back : (p : PType) (nullable : Bool) (rows : List (Option ℤ)) (b : List ℕ) (at : ℕ) → may_hold nullable rows ≡ true → All (λ (row : Option ℤ). IfSome row (λ n. is_within p n ≡ true)) rows
    → IsAt b at (presence_bytes nullable (map is_some rows) ++ flat_map (cell p) rows)
    → ints_at p nullable (length rows) b at ≡ Ok (record { ptype = p; nullable = nullable; rows = rows }, at + length (presence_bytes nullable (map is_some rows) ++ flat_map (cell p) rows))
ints_back p nullable rows b at may within h =
    ap (λ (r : Found (Option (List Bool))). r >>= ints_here p nullable (length rows) b) (rows_present nullable rows b at (at_left b at (presence_bytes nullable (map is_some rows)) (flat_map (cell p) rows) h))
    ∙ ints-here p nullable rows (presence_of nullable (map is_some rows)) b (at + length (presence_bytes nullable (map is_some rows))) (presence_is nullable rows may) within
    (at_right b at (presence_bytes nullable (map is_some rows)) (flat_map (cell p) rows) h)
    ∙ ap (λ (n : ℕ). Ok (record { ptype = p; nullable = nullable; rows = rows }, n)) (both_long at (presence_bytes nullable (map is_some rows)) (flat_map (cell p) rows))

-- ---- truth values

bools-here : (nullable : Bool) (rows : List (Option Bool)) (present : Option (List Bool)) (b : List ℕ) (at : ℕ) → IsPresence present rows → IsAt b at (bitmap (map (λ row. unwrap_or row false) rows))
    → bools_here nullable (length rows) b (present, at) ≡ Ok (record { nullable = nullable; rows = rows }, at + length (bitmap (map (λ row. unwrap_or row false) rows)))
bools-here nullable rows present b at is h =
    let count = map_long (λ row. unwrap_or row false) rows in
    let bits : span (bit b at) 0 (length rows) ≡ map (λ row. unwrap_or row false) rows = ap (span (bit b at) 0) (sym count) ∙ bits_back (map (λ row. unwrap_or row false) rows) b at h in
    let ends : bitmap_end (length rows) b at ≡ Ok (at + bitmap_size (length rows)) =
    ap (λ n. bitmap_end n b at) (sym count) ∙ end_back (map (λ row. unwrap_or row false) rows) b at h ∙ ap (λ n. Ok (at + bitmap_size n)) count in
    let clear : every (is_false present b at) 0 (length rows) ≡ true = bits_clear rows present b at is bits in
    let long = bitmap-long (map (λ row. unwrap_or row false) rows) b at in
    let place : at + bitmap_size (length rows) ≡ at + length (bitmap (map (λ row. unwrap_or row false) rows)) = ap (λ n. at + bitmap_size n) (sym count) ∙ ap (λ n. at + n) (sym long) in
    ap (λ (r : Result ℕ ArrayError). r >>= (λ after. cond (every (is_false present b at) 0 (length rows)) (Ok (record { nullable = nullable; rows = span (bool_row present (span (bit b at) 0 (length rows))) 0 (length rows) }, after)) (Err BadArray))) ends
    ∙ ap (λ (t : Bool). cond t (Ok (record { nullable = nullable; rows = span (bool_row present (span (bit b at) 0 (length rows))) 0 (length rows) }, at + bitmap_size (length rows))) (Err BadArray)) clear
    ∙ ap (λ (rs : List (Option Bool)). Ok (record { nullable = nullable; rows = rs }, at + bitmap_size (length rows))) (ap (λ bs. span (bool_row present bs) 0 (length rows)) bits ∙ bools_rows rows present is)
    ∙ ap (λ (n : ℕ). Ok (record { nullable = nullable; rows = rows }, n)) place

pub bools_back : (nullable : Bool) (rows : List (Option Bool)) (b : List ℕ) (at : ℕ) → may_hold nullable rows ≡ true
    → IsAt b at (presence_bytes nullable (map is_some rows) ++ bitmap (map (λ row. unwrap_or row false) rows))
    → bools_at nullable (length rows) b at ≡ Ok (record { nullable = nullable; rows = rows }, at + length (presence_bytes nullable (map is_some rows) ++ bitmap (map (λ row. unwrap_or row false) rows)))
bools_back nullable rows b at may h =
    ap (λ (r : Found (Option (List Bool))). r >>= bools_here nullable (length rows) b) (rows_present nullable rows b at (at_left b at (presence_bytes nullable (map is_some rows)) (bitmap (map (λ row. unwrap_or row false) rows)) h))
    ∙ bools-here nullable rows (presence_of nullable (map is_some rows)) b (at + length (presence_bytes nullable (map is_some rows))) (presence_is nullable rows may)
    (at_right b at (presence_bytes nullable (map is_some rows)) (bitmap (map (λ row. unwrap_or row false) rows)) h)
    ∙ ap (λ (n : ℕ). Ok (record { nullable = nullable; rows = rows }, n)) (both_long at (presence_bytes nullable (map is_some rows)) (bitmap (map (λ row. unwrap_or row false) rows)))

-- ---- structs

structs-by : (flags : List Bool) (all : Bool) → list_all (λ b. b) flags ≡ all → span (present_at (cond all None (Some flags))) 0 (length flags) ≡ flags
structs-by flags true e = structs_all flags e
structs-by flags false e = span_list true flags

structs-present : (nullable : Bool) (flags : List Bool) → are_there nullable flags ≡ true → span (present_at (presence_of nullable flags)) 0 (length flags) ≡ flags
structs-present false flags h = structs_all flags h
structs-present true flags h = structs-by flags (list_all (λ b. b) flags) refl

pub structs_back : (nullable : Bool) (flags : List Bool) (b : List ℕ) (at : ℕ) → are_there nullable flags ≡ true → IsAt b at (presence_bytes nullable flags)
    → structs_at nullable (length flags) b at ≡ Ok (record { nullable = nullable; present = flags }, at + length (presence_bytes nullable flags))
structs_back nullable flags b at may h =
    ap (λ (r : Found (Option (List Bool))). r >>= λ x. Ok (record { nullable = nullable; present = span (present_at x.0) 0 (length flags) }, x.1)) (presence_back nullable flags b at h)
    ∙ ap (λ (ps : List Bool). Ok (record { nullable = nullable; present = ps }, at + length (presence_bytes nullable flags))) (structs-present nullable flags may)
