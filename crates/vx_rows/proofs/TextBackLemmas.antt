-- What was written is read again: texts.
use Rattle.std.proofs.Common.{◌≡◌, ℕ, zero, suc, ◌+◌, ◌-◌, ◌*◌, ◌<◌, ◌≤◌, ◌^◌, Bool, true, List, [], ◌∷◌, ◌++◌, map, length, take, nat_le, Option, Some, None, Ok, is_some, refl, ap, sym, ◌∙◌, subst, arith, length-append}
use Rattle.std.specs.Prelude.{slice_index_or, ◌||◌, ◌==◌, IfSome}
use Rattle.std.specs.List.{flat_map, All}
use Rattle.std.specs.Str.{IsUtf8, is_utf8}
use Rattle.std.specs.Int.{w32, from_le_bytes}
use Rattle.std.proofs.lemmas.Bool.{le-leb}
use Rattle.std.proofs.lemmas.Str.{is_utf8-from_IsUtf8, IsUtf8-nil}
use Rattle.std.proofs.lemmas.Nat.{from_le_bytes-to_le_bytes_4}
use Rattle.vx_base.specs.Checks.{◌>>=◌}
use Rattle.vx_tables.specs.Standing.{IsAt}
use Rattle.vx_tables.proofs.Places.{at_left, at_right, at_inside}
use Rattle.vx_data.specs.declared.ptype.PType.TheVariants.{U32}
use Rattle.vx_rows.specs.Span.{every}
use Rattle.vx_rows.specs.Columns.{value_size, value_place, raw_at, is_clear, may_hold}
use Rattle.vx_rows.specs.Arrays.{Found, place_at, places_at, is_text, texts_here, texts_at}
use Rattle.vx_rows.specs.Written.{text_bytes, length_bytes, text_place, presence_bytes}
use Rattle.vx_rows.proofs.SpanLemmas.{every_holds}
use Rattle.vx_rows.proofs.MakingLemmas.{IsPresence}
use Rattle.vx_rows.proofs.CellLemmas.{value_found, values_long}
use Rattle.vx_rows.proofs.TextLemmas.{places_index}
use Rattle.vx_rows.proofs.TextRowLemmas.{Placed, place_more, text_there, texts_rows}
use Rattle.vx_rows.proofs.BackLemmas.{presence_of, presence_is, rows_present}

length-long : (row : Option (List ℕ)) → length (length_bytes row) ≡ 4
length-long row = refl

module _ (rows : List (Option (List ℕ))) (b : List ℕ) (at : ℕ) where
  -- the lengths stand at a place, and then the texts
  pub record Standing : Type 0 where
    pub lengths : IsAt b at (flat_map length_bytes rows)
    pub texts : IsAt b (value_place U32 at (length rows)) (flat_map text_bytes rows)
    pub short : (i : ℕ) → i < length rows → length (text_bytes (slice_index_or rows i None)) < 2 ^ 32

  raw-length : Standing → (i : ℕ) → i < length rows → raw_at U32 b (value_place U32 at i) ≡ length (text_bytes (slice_index_or rows i None))
  raw-length s i l =
      ap (λ c. raw_at U32 c (value_place U32 at i)) s.lengths.parts
      ∙ ap (λ n. raw_at U32 (s.lengths.front ++ (flat_map length_bytes rows ++ s.lengths.rest)) (value_place U32 n i)) (sym s.lengths.place)
      ∙ ap (from_le_bytes w32) (value_found length_bytes 4 length-long rows None s.lengths.front s.lengths.rest i l)
      ∙ from_le_bytes-to_le_bytes_4 _ (s.short i l)

  places-are : Standing → (i : ℕ) → i ≤ length rows → place_at b at (value_place U32 at (length rows)) i ≡ value_place U32 at (length rows) + text_place rows i
  places-are s zero h = omega arith
  places-are s (suc i) h =
      let e : i + 1 ≡ suc i = omega arith in
      let before = places-are s i (omega (arith, h)) in
      let raw = raw-length s i (omega (arith, h)) in
      let more = place_more rows i (omega (arith, h)) in
      let next : text_place rows (i + 1) ≡ text_place rows (suc i) = ap (text_place rows) e in
      omega (arith, before, raw, more, next)

  placed-back : (s : Standing) → Placed rows s.texts.front s.texts.rest b (places_at (length rows) b at)
  placed-back s = record {
    bytes = s.texts.parts;
    place = λ i l. places_index (length rows) b at i l ∙ places-are s i l ∙ ap (λ n. n + text_place rows i) (sym s.texts.place);
  }

  clear-row : (row : Option (List ℕ)) → (is_some row || (length (text_bytes row) == 0)) ≡ true
  clear-row None = refl
  clear-row (Some t) = refl

  text-is : (row : Option (List ℕ)) → IfSome row IsUtf8 → is_utf8 (text_bytes row) ≡ true
  text-is None h = is_utf8-from_IsUtf8 [] IsUtf8-nil
  text-is (Some t) h = is_utf8-from_IsUtf8 t h

  all-place : text_place rows (length rows) ≡ length (flat_map text_bytes rows)
  all-place = ap (λ xs. length (flat_map text_bytes xs)) (taken rows)
    where
      taken : (xs : List (Option (List ℕ))) → take (length xs) xs ≡ xs
      taken [] = refl
      taken (x ∷ xs) = ap (λ ys. x ∷ ys) (taken xs)

  pub texts_standing : (nullable : Bool) (present : Option (List Bool)) → Standing → IsPresence present rows → All (λ (row : Option (List ℕ)). IfSome row IsUtf8) rows
      → texts_here nullable (length rows) b (present, at) ≡ Ok (record { nullable = nullable; rows = rows }, value_place U32 at (length rows) + length (flat_map text_bytes rows))
  texts_standing nullable present s is valid =
      let placed = placed-back s in
      let lengths = at_inside b at (flat_map length_bytes rows) s.lengths in
      let long : length (flat_map length_bytes rows) ≡ 4 * length rows = values_long length_bytes 4 length-long rows in
      let room : nat_le (value_size U32 * length rows) (length b - at) ≡ true = le-leb _ _ (omega (arith, lengths, long)) in
      let clear : every (is_clear U32 present b at) 0 (length rows) ≡ true =
      every_holds (is_clear U32 present b at) 0 (length rows) (λ i l u.
      ap (λ h. h || (raw_at U32 b (value_place U32 at i) == 0)) (is i (omega (arith, u)))
      ∙ ap (λ n. is_some (slice_index_or rows i None) || (n == 0)) (raw-length s i (omega (arith, u)))
      ∙ clear-row (slice_index_or rows i None)) in
      let last : place_at b at (value_place U32 at (length rows)) (length rows) ≡ value_place U32 at (length rows) + length (flat_map text_bytes rows) =
      places-are s (length rows) (omega arith) ∙ ap (λ n. value_place U32 at (length rows) + n) all-place in
      let inside = at_inside b (value_place U32 at (length rows)) (flat_map text_bytes rows) s.texts in
      let ends : nat_le (place_at b at (value_place U32 at (length rows)) (length rows)) (length b) ≡ true = le-leb _ _ (omega (arith, last, inside)) in
      let texts : every (is_text b (places_at (length rows) b at)) 0 (length rows) ≡ true =
      every_holds (is_text b (places_at (length rows) b at)) 0 (length rows) (λ i l u.
      ap is_utf8 (text_there rows s.texts.front s.texts.rest b (places_at (length rows) b at) placed i (omega (arith, u))) ∙ text-is (slice_index_or rows i None) (valid i None (omega (arith, u)))) in
      rw (room, clear, ends, texts) (ap (λ (rs : List (Option (List ℕ))). Ok (record { nullable = nullable; rows = rs }, place_at b at (value_place U32 at (length rows)) (length rows)))
      (texts_rows rows s.texts.front s.texts.rest b (places_at (length rows) b at) present placed is)
      ∙ ap (λ (n : ℕ). Ok (record { nullable = nullable; rows = rows }, n)) last)

pub texts_back : (nullable : Bool) (rows : List (Option (List ℕ))) (b : List ℕ) (at : ℕ) → may_hold nullable rows ≡ true → All (λ (row : Option (List ℕ)). IfSome row IsUtf8) rows
    → ((i : ℕ) → i < length rows → length (text_bytes (slice_index_or rows i None)) < 2 ^ 32)
    → IsAt b at (presence_bytes nullable (map is_some rows) ++ flat_map length_bytes rows ++ flat_map text_bytes rows)
    → texts_at nullable (length rows) b at
    ≡ Ok (record { nullable = nullable; rows = rows }, at + length (presence_bytes nullable (map is_some rows) ++ flat_map length_bytes rows ++ flat_map text_bytes rows))
texts_back nullable rows b at may valid short h =
    let front = at_left b at (presence_bytes nullable (map is_some rows) ++ flat_map length_bytes rows) (flat_map text_bytes rows) h in
    let start = at + length (presence_bytes nullable (map is_some rows)) in
    let both = length-append (presence_bytes nullable (map is_some rows)) (flat_map length_bytes rows) in
    let all = length-append (presence_bytes nullable (map is_some rows) ++ flat_map length_bytes rows) (flat_map text_bytes rows) in
    let long : length (flat_map length_bytes rows) ≡ 4 * length rows = values_long length_bytes 4 length-long rows in
    let place : at + length (presence_bytes nullable (map is_some rows) ++ flat_map length_bytes rows) ≡ value_place U32 start (length rows) = omega (arith, both, long) in
    let end : value_place U32 start (length rows) + length (flat_map text_bytes rows)
    ≡ at + length (presence_bytes nullable (map is_some rows) ++ flat_map length_bytes rows ++ flat_map text_bytes rows) = omega (arith, both, all, long) in
    let standing : Standing rows b start = record {
      lengths = at_right b at (presence_bytes nullable (map is_some rows)) (flat_map length_bytes rows) front;
      texts = subst (λ n. IsAt b n (flat_map text_bytes rows)) place (at_right b at (presence_bytes nullable (map is_some rows) ++ flat_map length_bytes rows) (flat_map text_bytes rows) h);
      short = short;
    } in
    ap (λ (r : Found (Option (List Bool))). r >>= texts_here nullable (length rows) b) (rows_present nullable rows b at (at_left b at (presence_bytes nullable (map is_some rows)) (flat_map length_bytes rows) front))
    ∙ texts_standing rows b start nullable (presence_of nullable (map is_some rows)) standing (presence_is nullable rows may) valid
    ∙ ap (λ (n : ℕ). Ok (record { nullable = nullable; rows = rows }, n)) end
