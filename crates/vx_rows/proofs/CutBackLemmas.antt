-- Columns that grow, of which the first rows are kept, and the lengths of their texts.
use Rattle.std.proofs.Common.{◌≡◌, ℕ, ℤ, ◌+◌, ◌-◌, ◌*◌, ◌<◌, ◌≤◌, Bool, true, false, cond, List, length, map, take, drop, min, Option, Some, None, is_some, ap, sym, ◌∙◌, arith}
use Rattle.std.specs.Prelude.{slice_index, slice_index_or, slice_range, ◌||◌}
use Rattle.std.specs.List.{list_all}
use Rattle.std.proofs.lemmas.List.{length-drop, length-take-le}
use Rattle.std.proofs.Math.Nat.{min-le_right}
use Rattle.vx_data.specs.declared.ptype.PType.{PType}
use Rattle.vx_rows.specs.Span.{span, every}
use Rattle.vx_rows.specs.Bits.{present_at}
use Rattle.vx_rows.specs.Columns.{Bools, Ints, Texts, Structs, bool_row, is_false_row, int_row, is_clear, value_size, value_place, text_row, AreRanges, AreTexts, may_hold, are_there}
use Rattle.vx_rows.specs.Written.{text_bytes}
use Rattle.vx_rows.specs.Kept.{kept}
use Rattle.vx_rows.proofs.SpanLemmas.{length_span, get_or_span}
use Rattle.vx_rows.proofs.FillLemmas.{all_some}
use Rattle.vx_rows.proofs.JoinLemmas.{take_upto, bools_front, bools_front_clear, bools_front_long, ints_front, ints_front_clear, ints_front_long, texts_front, texts_front_well}

few : (n rows size : ℕ) → n ≡ min rows size → n ≤ size
few n rows size e = let l = min-le_right rows size in omega (arith, e, l)

-- so many values of a run, or all of them
front-of : {A : Type 0} → (f : ℕ → A) (n rows size : ℕ) → n ≡ min rows size → take n (span f 0 size) ≡ take rows (span f 0 size)
front-of f n rows size e =
    ap (λ k. take k (span f 0 size)) (e ∙ ap (min rows) (sym (length_span f 0 size))) ∙ take_upto rows (span f 0 size)

module _ (f g : Structs) (values values' : List Bool) (rows n : ℕ) (c : Bools) (e : record { nullable = f.nullable; rows = span (bool_row (kept f) values) 0 (length values) } ≡ c)
    (long : length f.present ≡ length values) (least : n ≡ min rows (length values)) (flag : g ≡ record { nullable = f.nullable; present = take n f.present }) (value : values' ≡ take n values) where
  pub bools_truncated : ◌≡◌ {A = Bools} (record { nullable = g.nullable; rows = span (bool_row (kept g) values') 0 (length values') }) (record { nullable = c.nullable; rows = take rows c.rows })
  bools_truncated =
      let made : ◌≡◌ {A = Bools} (record { nullable = f.nullable; rows = span (bool_row (cond f.nullable (Some (take n f.present)) None) (take n values)) 0 (length (take n values)) })
      (record { nullable = c.nullable; rows = take rows c.rows }) =
      ap (λ (xs : List (Option Bool)). record { nullable = f.nullable; rows = xs })
      (bools_front f.nullable f.present values n long (few n rows (length values) least) ∙ front-of (bool_row (kept f) values) n rows (length values) least)
      ∙ ap (λ (x : Bools). record { nullable = x.nullable; rows = take rows x.rows }) e in
      rw (flag, value) made

  pub bools_truncated_well : every (is_false_row (kept f) values) 0 (length values) ≡ true → (length g.present ≡ length values') × (every (is_false_row (kept g) values') 0 (length values') ≡ true)
  bools_truncated_well clear =
      let l = few n rows (length values) least in
      rw (flag, value) (bools_front_long f.nullable f.present values n long l, bools_front_clear f.nullable f.present values n long l clear)

module _ (p : PType) (f g : Structs) (bytes bytes' : List ℕ) (rows n : ℕ) (c : Ints)
    (e : record { ptype = p; nullable = f.nullable; rows = span (int_row p (kept f) bytes 0) 0 (length f.present) } ≡ c)
    (long : length bytes ≡ value_size p * length f.present) (least : n ≡ min rows (length f.present))
    (flag : g ≡ record { nullable = f.nullable; present = take n f.present }) (value : bytes' ≡ take (value_place p 0 n) bytes) where
  pub ints_truncated : ◌≡◌ {A = Ints} (record { ptype = p; nullable = g.nullable; rows = span (int_row p (kept g) bytes' 0) 0 (length g.present) })
      (record { ptype = c.ptype; nullable = c.nullable; rows = take rows c.rows })
  ints_truncated =
      let made : ◌≡◌ {A = Ints} (record { ptype = p; nullable = f.nullable; rows = span (int_row p (cond f.nullable (Some (take n f.present)) None) (take (value_place p 0 n) bytes) 0) 0 (length (take n f.present)) })
      (record { ptype = c.ptype; nullable = c.nullable; rows = take rows c.rows }) =
      ap (λ (xs : List (Option ℤ)). record { ptype = p; nullable = f.nullable; rows = xs })
      (ints_front p f.nullable f.present bytes n long (few n rows (length f.present) least) ∙ front-of (int_row p (kept f) bytes 0) n rows (length f.present) least)
      ∙ ap (λ (x : Ints). record { ptype = x.ptype; nullable = x.nullable; rows = take rows x.rows }) e in
      rw (flag, value) made

  pub ints_truncated_well : every (is_clear p (kept f) bytes 0) 0 (length f.present) ≡ true
      → (length bytes' ≡ value_size p * length g.present) × (every (is_clear p (kept g) bytes' 0) 0 (length g.present) ≡ true)
  ints_truncated_well clear =
      let l = few n rows (length f.present) least in
      rw (flag, value) (ints_front_long p f.nullable f.present bytes n long l, ints_front_clear p f.nullable f.present bytes n long l clear)

module _ (f g : Structs) (bytes bytes' places places' : List ℕ) (rows n : ℕ) (c : Texts)
    (e : record { nullable = f.nullable; rows = span (text_row (kept f) bytes places) 0 (length f.present) } ≡ c)
    (long : length places ≡ length f.present + 1) (end : slice_index places (length f.present) ≡ length bytes) (r : AreRanges bytes places (length f.present)) (least : n ≡ min rows (length f.present))
    (flag : g ≡ record { nullable = f.nullable; present = take n f.present }) (value : bytes' ≡ take (slice_index places n) bytes) (place : places' ≡ take (n + 1) places) where
  pub texts_truncated : ◌≡◌ {A = Texts} (record { nullable = g.nullable; rows = span (text_row (kept g) bytes' places') 0 (length g.present) }) (record { nullable = c.nullable; rows = take rows c.rows })
  texts_truncated =
      let made : ◌≡◌ {A = Texts} (record { nullable = f.nullable; rows = span (text_row (cond f.nullable (Some (take n f.present)) None) (take (slice_index places n) bytes) (take (n + 1) places)) 0 (length (take n f.present)) })
      (record { nullable = c.nullable; rows = take rows c.rows }) =
      ap (λ (xs : List (Option (List ℕ))). record { nullable = f.nullable; rows = xs })
      (texts_front f.nullable f.present bytes places n long end r (few n rows (length f.present) least) ∙ front-of (text_row (kept f) bytes places) n rows (length f.present) least)
      ∙ ap (λ (x : Texts). record { nullable = x.nullable; rows = take rows x.rows }) e in
      rw (flag, value, place) made

  pub texts_truncated_well : AreTexts bytes places (length f.present)
      → (length places' ≡ length g.present + 1) × (slice_index places' (length g.present) ≡ length bytes') × AreRanges bytes' places' (length g.present) × AreTexts bytes' places' (length g.present)
  texts_truncated_well t = rw (flag, value, place) (texts_front_well f.nullable f.present bytes places n long end r (few n rows (length f.present) least) t)

-- ---- flags

-- flags that are there where none of the rows is missing
pub held_there : {A : Type 0} → (nullable : Bool) (rows : List (Option A)) (flags : List Bool) → flags ≡ map is_some rows → may_hold nullable rows ≡ true → are_there nullable flags ≡ true
held_there nullable rows flags e h = ap (λ fs. nullable || list_all (λ b. b) fs) e ∙ ap (λ b. nullable || b) (sym (all_some rows)) ∙ h

-- ---- the length of a text

module _ (f : Structs) (bytes places : List ℕ) (row : ℕ) (c : Texts) (e : record { nullable = f.nullable; rows = span (text_row (kept f) bytes places) 0 (length f.present) } ≡ c) (l : row < length c.rows) where
  pub row_inside : row < length f.present
  row_inside =
      let size = length_span (text_row (kept f) bytes places) 0 (length f.present) in
      let same = ap (λ (x : Texts). length x.rows) e in
      omega (arith, size, same, l)

  row-text : slice_index_or c.rows row None ≡ text_row (kept f) bytes places row
  row-text =
      let z : 0 + row ≡ row = omega arith in
      ap (λ (x : Texts). slice_index_or x.rows row None) (sym e)
      ∙ get_or_span (text_row (kept f) bytes places) 0 (length f.present) row None row_inside ∙ ap (text_row (kept f) bytes places) z

  pub length_null : present_at (kept f) row ≡ false → 0 ≡ length (text_bytes (slice_index_or c.rows row None))
  length_null h = sym (ap (λ t. length (text_bytes t)) (row-text ∙ ap (λ b. cond b (Some (slice_range bytes (slice_index places row) (slice_index places (row + 1)))) None) h))

  pub length_there : AreRanges bytes places (length f.present) → present_at (kept f) row ≡ true → slice_index places (row + 1) - slice_index places row ≡ length (text_bytes (slice_index_or c.rows row None))
  length_there r h =
      let ordered = r.ordered row row_inside in
      let inside = r.inside row row_inside in
      let left = length-drop (slice_index places row) bytes in
      sym (ap (λ t. length (text_bytes t)) (row-text ∙ ap (λ b. cond b (Some (slice_range bytes (slice_index places row) (slice_index places (row + 1)))) None) h)
      ∙ length-take-le (slice_index places (row + 1) - slice_index places row) (drop (slice_index places row) bytes) (omega (arith, ordered, inside, left)))
