-- Columns that grow by a row.
use Rattle.std.proofs.Common.{◌≡◌, ℕ, ℤ, ◌+◌, ◌*◌, Bool, true, cond, List, [], ◌∷◌, ◌++◌, length, Option, Some, None, is_some, ap, sym, ◌∙◌, subst, arith}
use Rattle.std.specs.Prelude.{slice_index, ◌||◌, not, IfSome}
use Rattle.std.specs.Str.{IsUtf8}
use Rattle.vx_data.specs.declared.ptype.PType.{PType}
use Rattle.vx_rows.specs.Span.{span, every}
use Rattle.vx_rows.specs.Columns.{Bools, Ints, Texts, Structs, bool_row, is_false_row, int_row, is_clear, value_size, text_row, AreRanges, AreTexts}
use Rattle.vx_rows.specs.Written.{is_within, cell}
use Rattle.vx_rows.specs.ReadRows.{more_bools, more_ints, more_texts, more_structs}
use Rattle.vx_rows.specs.Kept.{kept}
use Rattle.vx_rows.proofs.GrowingLemmas.{one-longer, bools_grow, bools_stay_clear, ints_grow, ints_stay_clear, ints_stay_long, place_last, ranges_grow, texts_grow, text_rows_grow}

-- ---- truth values

module _ (f g : Structs) (values values' : List Bool) (b v : Bool) (c : Bools) (e : record { nullable = f.nullable; rows = span (bool_row (kept f) values) 0 (length values) } ≡ c)
    (long : length f.present ≡ length values) (allowed : (c.nullable || b) ≡ true) (flag : g ≡ more_structs f b) (value : values' ≡ values ++ v ∷ []) where
  may-be : (f.nullable || b) ≡ true
  may-be = ap (λ (x : Bools). x.nullable || b) e ∙ allowed

  pub bools_pushed : record { nullable = g.nullable; rows = span (bool_row (kept g) values') 0 (length values') } ≡ more_bools c (cond b (Some v) None)
  bools_pushed =
      rw (flag, value) (ap (λ (rows : List (Option Bool)). record { nullable = f.nullable; rows = rows }) (bools_grow f.nullable f.present values b v long may-be)
      ∙ ap (λ (x : Bools). more_bools x (cond b (Some v) None)) e)

  pub bools_kept : (b || not v) ≡ true → every (is_false_row (kept f) values) 0 (length values) ≡ true
      → (length g.present ≡ length values') × (every (is_false_row (kept g) values') 0 (length values') ≡ true)
  bools_kept clear all =
      let one = one-longer f.present b in
      let more = one-longer values v in
      rw (flag, value) (omega (arith, one, more, long), bools_stay_clear f.nullable f.present values b v long may-be clear all)

-- ---- integers

module _ (p : PType) (f g : Structs) (bytes bytes' : List ℕ) (row : Option ℤ) (c : Ints)
    (e : record { ptype = p; nullable = f.nullable; rows = span (int_row p (kept f) bytes 0) 0 (length f.present) } ≡ c)
    (long : length bytes ≡ value_size p * length f.present) (allowed : (c.nullable || is_some row) ≡ true) (flag : g ≡ more_structs f (is_some row)) (value : bytes' ≡ bytes ++ cell p row) where
  may-be-null : (f.nullable || is_some row) ≡ true
  may-be-null = ap (λ (x : Ints). x.nullable || is_some row) e ∙ allowed

  pub ints_pushed : IfSome row (λ n. is_within c.ptype n ≡ true)
      → record { ptype = p; nullable = g.nullable; rows = span (int_row p (kept g) bytes' 0) 0 (length g.present) } ≡ more_ints c row
  ints_pushed within =
      let w : IfSome row (λ n. is_within p n ≡ true) = subst (λ q. IfSome row (λ n. is_within q n ≡ true)) (sym (ap (λ (x : Ints). x.ptype) e)) within in
      rw (flag, value) (ap (λ (rows : List (Option ℤ)). record { ptype = p; nullable = f.nullable; rows = rows }) (ints_grow p f.nullable f.present bytes row long may-be-null w)
      ∙ ap (λ (x : Ints). more_ints x row) e)

  pub ints_kept : every (is_clear p (kept f) bytes 0) 0 (length f.present) ≡ true
      → (length bytes' ≡ value_size p * length g.present) × (every (is_clear p (kept g) bytes' 0) 0 (length g.present) ≡ true)
  ints_kept all = rw (flag, value) (ints_stay_long p f.nullable f.present bytes row long may-be-null, ints_stay_clear p f.nullable f.present bytes row long may-be-null all)

-- ---- texts

module _ (f g : Structs) (bytes bytes' places places' t : List ℕ) (b : Bool) (c : Texts)
    (e : record { nullable = f.nullable; rows = span (text_row (kept f) bytes places) 0 (length f.present) } ≡ c)
    (long : length places ≡ length f.present + 1) (end : slice_index places (length f.present) ≡ length bytes) (r : AreRanges bytes places (length f.present))
    (allowed : (c.nullable || b) ≡ true) (flag : g ≡ more_structs f b) (value : bytes' ≡ bytes ++ t) (place : places' ≡ places ++ length bytes' ∷ []) where
  there : (f.nullable || b) ≡ true
  there = ap (λ (x : Texts). x.nullable || b) e ∙ allowed

  pub texts_pushed : record { nullable = g.nullable; rows = span (text_row (kept g) bytes' places') 0 (length g.present) } ≡ more_texts c (cond b (Some t) None)
  texts_pushed =
      rw (flag, place, value) (ap (λ (rows : List (Option (List ℕ))). record { nullable = f.nullable; rows = rows }) (text_rows_grow f.nullable f.present bytes places t long end r b there)
      ∙ ap (λ (x : Texts). more_texts x (cond b (Some t) None)) e)

  pub texts_kept : IsUtf8 t → AreTexts bytes places (length f.present)
      → (length places' ≡ length g.present + 1) × (slice_index places' (length g.present) ≡ length bytes') × AreRanges bytes' places' (length g.present) × AreTexts bytes' places' (length g.present)
  texts_kept u x =
      let one = one-longer f.present b in
      let more = one-longer places (length (bytes ++ t)) in
      rw (flag, place, value, one) (
        omega (arith, more, long),
        place_last f.nullable f.present bytes places t long end r,
        ranges_grow f.nullable f.present bytes places t long end r,
        texts_grow f.nullable f.present bytes places t long end r u x,
      )
