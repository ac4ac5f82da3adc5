-- Fields of a struct, one behind the other.
use Rattle.std.proofs.Common.{◌≡◌, ℕ, zero, suc, ◌+◌, ◌<◌, ◌≤◌, List, [], ◌∷◌, ◌++◌, length, get_or, drop, Ok, Err, refl, sym, ap, ◌∙◌, add-one, drop-cons, arith}
use Rattle.std.specs.Prelude.{String, string_bytes}
use Rattle.std.specs.Global.{Global}
use Rattle.vx_base.specs.Checks.{◌>>=◌}
use Rattle.vx_data.specs.declared.dtype.DType.{DType}
use Rattle.vx_data.specs.Dtype.{dtype_view, pairs_view as types_view}
use Rattle.vx_rows.specs.declared.array_error.ArrayError.{ArrayError}
use Rattle.vx_rows.specs.declared.array_kind.ArrayKind.{ArrayKind}
use Rattle.vx_rows.specs.declared.column.Column.{Column}
use Rattle.std.proofs.lemmas.List.{drop_all}
use Rattle.vx_rows.specs.declared.array_error.ArrayError.TheVariants.{BadArray, UnknownEncoding, OutOfMemory}
use Rattle.vx_rows.specs.Arrays.{Found, Fails}
use Rattle.vx_rows.specs.Rows.{Rows, FieldRows, column, no_columns, columns_of, column_view, viewed, pairs_view}
use Rattle.vx_rows.specs.Trees.{column_at, columns_at, behind, before, type_size, fields_size}

pub next : (fs : List (String Global × DType)) (i : ℕ) (f : String Global × DType) → i < length fs → f ≡ get_or fs i f → drop i fs ≡ f ∷ drop (i + 1) fs
next fs i f lt is = rw (add-one, drop-cons fs i f, ← is) refl

-- a field is no larger than all of them
pub field_size : (fs : List (String Global × DType)) (i : ℕ) (f : String Global × DType) → i < length fs → f ≡ get_or fs i f → type_size (dtype_view f.1) ≤ fields_size (types_view fs)
field_size [] i f lt is = absurd (omega arith)
field_size (g ∷ fs) zero f lt is =
    let e : type_size (dtype_view f.1) ≡ type_size (dtype_view g.1) = ap (λ (h : String Global × DType). type_size (dtype_view h.1)) is in
    omega (arith, e)
field_size (g ∷ fs) (suc i) f lt is =
    let h = field_size fs i f (omega arith) is in
    omega (arith, h)

-- the next field, and those behind it
pub next_column : (kinds : List ArrayKind) (fs : List (String Global × DType)) (i : ℕ) (f : String Global × DType) (n : ℕ) (b : List ℕ) (at : ℕ) → i < length fs → f ≡ get_or fs i f
    → columns_at kinds (types_view (drop i fs)) n b at
    ≡ (column_at kinds (dtype_view f.1) n b at >>= λ c. columns_at kinds (types_view (drop (i + 1) fs)) n b c.1 >>= λ cs. Ok (column (string_bytes f.0) c.0 cs.0, cs.1))
next_column kinds fs i f n b at lt is = ap (λ xs. columns_at kinds (types_view xs) n b at) (next fs i f lt is)

pub before-more : (made : List (String Global × Rows)) (x : String Global × Rows) (cs : FieldRows) → before (made ++ x ∷ []) cs ≡ before made (column (string_bytes x.0) x.1 cs)
before-more [] x cs = refl
before-more (y ∷ made) x cs = ap (column (string_bytes y.0) y.1) (before-more made x cs)

pub before-none : (made : List (String Global × Rows)) → before made no_columns ≡ columns_of made
before-none [] = refl
before-none (y ∷ made) = ap (column (string_bytes y.0) y.1) (before-none made)

viewed-more : (made : List (String Global × Column)) (x : String Global × Column) → viewed (made ++ x ∷ []) ≡ viewed made ++ (x.0, column_view x.1) ∷ []
viewed-more [] x = refl
viewed-more (y ∷ made) x = ap (λ (xs : List (String Global × Rows)). (y.0, column_view y.1) ∷ xs) (viewed-more made x)

-- one more field
pub added : (made made' : List (String Global × Column)) (name copy : String Global) (c : Column) → made' ≡ made ++ (copy, c) ∷ [] → string_bytes copy ≡ string_bytes name
    → (cs : FieldRows) → before (viewed made') cs ≡ before (viewed made) (column (string_bytes name) (column_view c) cs)
added made made' name copy c e same cs =
    ap (λ (xs : List (String Global × Column)). before (viewed xs) cs) e
    ∙ ap (λ (xs : List (String Global × Rows)). before xs cs) (viewed-more made (copy, c))
    ∙ before-more (viewed made) (copy, column_view c) cs
    ∙ ap (λ bytes. before (viewed made) (column bytes (column_view c) cs)) same

behind-step : (made made' : List (String Global × Rows)) (name : List ℕ) (x : Rows) → ((cs : FieldRows) → before made' cs ≡ before made (column name x cs))
    → (r : Found FieldRows) → behind made' r ≡ behind made (r >>= λ cs. Ok (column name x cs.0, cs.1))
behind-step made made' name x h (Ok y) = ap (λ cs. Ok (cs, y.1)) (h y.0)
behind-step made made' name x h (Err e) = refl

module _ (kinds : List ArrayKind) (fs : List (String Global × DType)) (n : ℕ) (b : List ℕ) (total : Found FieldRows) where
  -- the fields so far, and those still to come
  pub record Reading (i at : ℕ) (made : List (String Global × Rows)) : Type 0 where
    pub all : behind made (columns_at kinds (types_view (drop i fs)) n b at) ≡ total
    pub inside : at ≤ length b

  pub reading_step : (i at after : ℕ) (f : String Global × DType) (made made' : List (String Global × Rows)) (x : Rows) → Reading i at made → i < length fs → f ≡ get_or fs i f
      → column_at kinds (dtype_view f.1) n b at ≡ Ok (x, after) → after ≤ length b → ((cs : FieldRows) → before made' cs ≡ before made (column (string_bytes f.0) x cs)) → Reading (i + 1) after made'
  reading_step i at after f made made' x r lt is e inside more = record {
    all = behind-step made made' (string_bytes f.0) x more (columns_at kinds (types_view (drop (i + 1) fs)) n b after)
        ∙ ap (λ (c : Found Rows). behind made (c >>= λ c. columns_at kinds (types_view (drop (i + 1) fs)) n b c.1 >>= λ cs. Ok (column (string_bytes f.0) c.0 cs.0, cs.1))) (sym e)
        ∙ ap (behind made) (sym (next_column kinds fs i f n b at lt is)) ∙ r.all;
    inside = inside;
  }

  pub reading_fails : (i at : ℕ) (f : String Global × DType) (made : List (String Global × Rows)) (e : ArrayError) → Reading i at made → i < length fs → f ≡ get_or fs i f
      → Fails e (column_at kinds (dtype_view f.1) n b at) → Fails e total
  reading_fails i at f made BadArray r lt is h =
      sym r.all ∙ ap (behind made) (next_column kinds fs i f n b at lt is
      ∙ ap (λ (c : Found Rows). c >>= λ c. columns_at kinds (types_view (drop (i + 1) fs)) n b c.1 >>= λ cs. Ok (column (string_bytes f.0) c.0 cs.0, cs.1)) h)
  reading_fails i at f made UnknownEncoding r lt is h =
      sym r.all ∙ ap (behind made) (next_column kinds fs i f n b at lt is
      ∙ ap (λ (c : Found Rows). c >>= λ c. columns_at kinds (types_view (drop (i + 1) fs)) n b c.1 >>= λ cs. Ok (column (string_bytes f.0) c.0 cs.0, cs.1)) h)
  reading_fails i at f made OutOfMemory r lt is h = tt

  pub reading_end : (at : ℕ) (made : List (String Global × Column)) → Reading (length fs) at (viewed made) → total ≡ Ok (pairs_view made, at)
  reading_end at made r =
      sym r.all ∙ ap (λ (xs : List (String Global × DType)). behind (viewed made) (columns_at kinds (types_view xs) n b at)) (drop_all (length fs) fs (omega arith))
      ∙ ap (λ cs. Ok (cs, at)) (before-none (viewed made))
