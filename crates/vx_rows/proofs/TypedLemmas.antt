-- The type and the length of a column that was read.
use Rattle.std.proofs.Common.{◌≡◌, ℕ, ◌+◌, ◌-◌, ◌*◌, ◌≤◌, Bool, true, false, cond, List, length, nat_le, Result, Ok, Err, refl, ap, ◌∙◌, subst, arith}
use Rattle.std.specs.Prelude.{◌&&◌, slice_index, slice_index_or, slice_range}
use Rattle.std.proofs.lemmas.Bool.Decides.{nat_tests}
use Rattle.vx_base.specs.Checks.{◌>>=◌}
use Rattle.vx_data.specs.declared.ptype.PType.{PType}
use Rattle.vx_data.specs.declared.ptype.PType.TheVariants.{U32}
use Rattle.vx_data.specs.Dtype.{Dtype, FieldList, bool, int, text, struct, no_fields, field}
use Rattle.vx_rows.specs.declared.array_error.ArrayError.{ArrayError}
use Rattle.vx_rows.specs.declared.array_error.ArrayError.TheVariants.{BadArray}
use Rattle.vx_rows.specs.declared.array_kind.ArrayKind.{ArrayKind}
use Rattle.vx_rows.specs.declared.array_kind.ArrayKind.TheVariants.{Bools as BoolKind, Integers, Texts as TextKind, Structs as StructKind}
use Rattle.vx_rows.specs.Span.{span, every}
use Rattle.vx_rows.specs.Bits.{bit, present_at}
use Rattle.vx_rows.specs.Columns.{Bools, Ints, Texts, Structs, are_there, value_size, value_of, raw_at, value_place, int_row, bool_row, text_row}
use Rattle.vx_rows.specs.Arrays.{is_text, presence_at, bitmap_end, place_at, places_at, ints_at, ints_here, bools_at, bools_here, texts_at, texts_here}
use Rattle.vx_rows.specs.Rows.{Rows, FieldRows, bools, ints, texts, structs, no_columns, column, dtype_of, types_of, IsColumn, AreColumns}
use Rattle.vx_rows.specs.Trees.{index_at, structs_at, column_at, columns_at}
use Rattle.vx_rows.proofs.SpanLemmas.{length_span}
use Rattle.vx_rows.proofs.CopyLemmas.{AreBytes}
use Rattle.vx_rows.proofs.SoundLemmas.{read_within, none_missing, may_be_held, are_held, read_valid}

-- both parts of a chain that ends well
pub chain : {A B : Type 0} → (r : Result A ArrayError) (f : A → Result B ArrayError) (y : B) → (r >>= f) ≡ Ok y → (x : A) × ((r ≡ Ok x) × (f x ≡ Ok y))
chain (Ok x) f y h = (x, (refl, h))
chain (Err e) f y h = cc

-- what a test lets through
passed : {A : Type 0} → (b : Bool) (x y : A) → ◌≡◌ {A = Result A ArrayError} (cond b (Ok x) (Err BadArray)) (Ok y) → x ≡ y
passed true x y h = cc
passed false x y h = cc

-- and that the test held
passed-test : {A : Type 0} → (b : Bool) (x y : A) → ◌≡◌ {A = Result A ArrayError} (cond b (Ok x) (Err BadArray)) (Ok y) → b ≡ true
passed-test true x y h = refl
passed-test false x y h = cc

first-of : (a b : Bool) → (a && b) ≡ true → a ≡ true
first-of true b h = refl
first-of false b h = h

second-of : (a b : Bool) → (a && b) ≡ true → b ≡ true
second-of true b h = h
second-of false b h = cc

fits-in : (m n : ℕ) → nat_le m n ≡ true → m ≤ n
fits-in m n h = grind (arith, nat_tests)

ints-typed : (p : PType) (nullable : Bool) (n : ℕ) (b : List ℕ) → AreBytes b → (at : ℕ) (x : Ints × ℕ) → ints_at p nullable n b at ≡ Ok x → (dtype_of (ints x.0) ≡ int p nullable) × IsColumn n (ints x.0)
ints-typed p nullable n b bytes at x h =
    let parts = chain (presence_at nullable n b at) (ints_here p nullable n b) x h in
    let e = passed _ (record { ptype = p; nullable = nullable; rows = span (int_row p parts.0.0 b parts.0.1) 0 n }, value_place p parts.0.1 n) x parts.1.1 in
    let test = passed-test _ (record { ptype = p; nullable = nullable; rows = span (int_row p parts.0.0 b parts.0.1) 0 n }, value_place p parts.0.1 n) x parts.1.1 in
    let room = first-of (nat_le (value_size p * n) (length b - parts.0.1)) _ test in
    subst (λ (y : Ints × ℕ). (dtype_of (ints y.0) ≡ int p nullable) × IsColumn n (ints y.0)) e (
      refl,
      (
        length_span (int_row p parts.0.0 b parts.0.1) 0 n,
        may_be_held nullable parts.0.0 (λ row. value_of p (raw_at p b (value_place p parts.0.1 row))) 0 n (none_missing nullable n b at parts.0 parts.1.0),
        read_within p parts.0.0 b parts.0.1 n bytes (fits-in (value_size p * n) (length b - parts.0.1) room),
      ),
    )

bools-typed : (nullable : Bool) (n : ℕ) (b : List ℕ) (at : ℕ) (x : Bools × ℕ) → bools_at nullable n b at ≡ Ok x → (dtype_of (bools x.0) ≡ bool nullable) × IsColumn n (bools x.0)
bools-typed nullable n b at x h =
    let parts = chain (presence_at nullable n b at) (bools_here nullable n b) x h in
    let more = chain (bitmap_end n b parts.0.1) _ x parts.1.1 in
    let e = passed _ (record { nullable = nullable; rows = span (bool_row parts.0.0 (span (bit b parts.0.1) 0 n)) 0 n }, more.0) x more.1.1 in
    subst (λ (y : Bools × ℕ). (dtype_of (bools y.0) ≡ bool nullable) × IsColumn n (bools y.0)) e (
      refl,
      (
        length_span (bool_row parts.0.0 (span (bit b parts.0.1) 0 n)) 0 n,
        may_be_held nullable parts.0.0 (λ row. slice_index_or (span (bit b parts.0.1) 0 n) row true) 0 n (none_missing nullable n b at parts.0 parts.1.0),
      ),
    )

texts-typed : (nullable : Bool) (n : ℕ) (b : List ℕ) (at : ℕ) (x : Texts × ℕ) → texts_at nullable n b at ≡ Ok x → (dtype_of (texts x.0) ≡ text nullable) × IsColumn n (texts x.0)
texts-typed nullable n b at x h =
    let parts = chain (presence_at nullable n b at) (texts_here nullable n b) x h in
    let e = passed _ (record { nullable = nullable; rows = span (text_row parts.0.0 b (places_at n b parts.0.1)) 0 n }, place_at b parts.0.1 (value_place U32 parts.0.1 n) n) x parts.1.1 in
    let test = passed-test _ (record { nullable = nullable; rows = span (text_row parts.0.0 b (places_at n b parts.0.1)) 0 n }, place_at b parts.0.1 (value_place U32 parts.0.1 n) n) x parts.1.1 in
    subst (λ (y : Texts × ℕ). (dtype_of (texts y.0) ≡ text nullable) × IsColumn n (texts y.0)) e (
      refl,
      (
        length_span (text_row parts.0.0 b (places_at n b parts.0.1)) 0 n,
        may_be_held nullable parts.0.0 (λ row. slice_range b (slice_index (places_at n b parts.0.1) row) (slice_index (places_at n b parts.0.1) (row + 1))) 0 n (none_missing nullable n b at parts.0 parts.1.0),
        read_valid parts.0.0 b (places_at n b parts.0.1) n (second-of _ (every (is_text b (places_at n b parts.0.1)) 0 n) test),
      ),
    )

structs-typed : (nullable : Bool) (n : ℕ) (b : List ℕ) (at : ℕ) (x : Structs × ℕ) → structs_at nullable n b at ≡ Ok x → (x.0.nullable ≡ nullable) × (length x.0.present ≡ n) × (are_there x.0.nullable x.0.present ≡ true)
structs-typed nullable n b at x h =
    let parts = chain (presence_at nullable n b at) _ x h in
    let e : (record { nullable = nullable; present = span (present_at parts.0.0) 0 n }, parts.0.1) ≡ x = cc parts.1.1 in
    subst (λ (y : Structs × ℕ). (y.0.nullable ≡ nullable) × (length y.0.present ≡ n) × (are_there y.0.nullable y.0.present ≡ true)) e
    (refl, length_span (present_at parts.0.0) 0 n, are_held nullable parts.0.0 0 n (none_missing nullable n b at parts.0 parts.1.0))

mutual
  -- a column that was read has the type and the number of rows that were asked
  pub column_typed : (kinds : List ArrayKind) (d : Dtype) (n : ℕ) (b : List ℕ) → AreBytes b → (at : ℕ) (x : Rows × ℕ) → column_at kinds d n b at ≡ Ok x → (dtype_of x.0 ≡ d) × IsColumn n x.0
  column_typed kinds (bool nullable) n b bytes at x h =
      let index = chain (index_at kinds BoolKind b at) _ x h in
      let parts = chain (bools_at nullable n b index.0) _ x index.1.1 in
      let e : (bools parts.0.0, parts.0.1) ≡ x = cc parts.1.1 in
      subst (λ (y : Rows × ℕ). (dtype_of y.0 ≡ bool nullable) × IsColumn n y.0) e (bools-typed nullable n b index.0 parts.0 parts.1.0)
  column_typed kinds (int p nullable) n b bytes at x h =
      let index = chain (index_at kinds Integers b at) _ x h in
      let parts = chain (ints_at p nullable n b index.0) _ x index.1.1 in
      let e : (ints parts.0.0, parts.0.1) ≡ x = cc parts.1.1 in
      subst (λ (y : Rows × ℕ). (dtype_of y.0 ≡ int p nullable) × IsColumn n y.0) e (ints-typed p nullable n b bytes index.0 parts.0 parts.1.0)
  column_typed kinds (text nullable) n b bytes at x h =
      let index = chain (index_at kinds TextKind b at) _ x h in
      let parts = chain (texts_at nullable n b index.0) _ x index.1.1 in
      let e : (texts parts.0.0, parts.0.1) ≡ x = cc parts.1.1 in
      subst (λ (y : Rows × ℕ). (dtype_of y.0 ≡ text nullable) × IsColumn n y.0) e (texts-typed nullable n b index.0 parts.0 parts.1.0)
  column_typed kinds (struct fs nullable) n b bytes at x h =
      let index = chain (index_at kinds StructKind b at) _ x h in
      let parts = chain (structs_at nullable n b index.0) _ x index.1.1 in
      let fields = chain (columns_at kinds fs n b parts.0.1) _ x parts.1.1 in
      let e : (structs parts.0.0 fields.0.0, fields.0.1) ≡ x = cc fields.1.1 in
      let here = structs-typed nullable n b index.0 parts.0 parts.1.0 in
      let there = columns_typed kinds fs n b bytes parts.0.1 fields.0 fields.1.0 in
      subst (λ (y : Rows × ℕ). (dtype_of y.0 ≡ struct fs nullable) × IsColumn n y.0) e
      (ap (λ ts. struct ts parts.0.0.nullable) there.0 ∙ ap (struct fs) here.0, (here.1, here.2, there.1))

  columns_typed : (kinds : List ArrayKind) (fs : FieldList) (n : ℕ) (b : List ℕ) → AreBytes b → (at : ℕ) (x : FieldRows × ℕ) → columns_at kinds fs n b at ≡ Ok x → (types_of x.0 ≡ fs) × AreColumns n x.0
  columns_typed kinds no_fields n b bytes at x h =
      let e : (no_columns, at) ≡ x = cc h in
      subst (λ (y : FieldRows × ℕ). (types_of y.0 ≡ no_fields) × AreColumns n y.0) e (refl, tt)
  columns_typed kinds (field name d fs) n b bytes at x h =
      let first = chain (column_at kinds d n b at) _ x h in
      let rest = chain (columns_at kinds fs n b first.0.1) _ x first.1.1 in
      let e : (column name first.0.0 rest.0.0, rest.0.1) ≡ x = cc rest.1.1 in
      let here = column_typed kinds d n b bytes at first.0 first.1.0 in
      let there = columns_typed kinds fs n b bytes first.0.1 rest.0 rest.1.0 in
      subst (λ (y : FieldRows × ℕ). (types_of y.0 ≡ field name d fs) × AreColumns n y.0) e
      (ap (λ t. field name t (types_of rest.0.0)) here.0 ∙ ap (field name d) there.0, (here.1, there.1))
