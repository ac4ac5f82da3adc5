-- The rows of columns of integers whose bytes were written.
use Rattle.std.proofs.Common.{◌≡◌, ℕ, ℤ, ◌*◌, ◌<◌, ◌≤◌, Bool, true, cond, List, [], ◌∷◌, ◌++◌, length, Option, Some, None, is_some, unwrap_or, pos, refl, ap, sym, ◌∙◌, arith}
use Rattle.std.specs.Prelude.{slice_index_or, ◌||◌, ◌==◌, IfSome}
use Rattle.std.specs.List.{flat_map, All}
use Rattle.std.specs.Int.{from_le_bytes}
use Rattle.vx_data.specs.declared.ptype.PType.{PType}
use Rattle.vx_data.specs.declared.ptype.PType.TheVariants.{U8, U16, U32, U64, I8, I16, I32, I64}
use Rattle.vx_rows.specs.Span.{span, every}
use Rattle.vx_rows.specs.Columns.{value_size, width, value_of, raw_at, value_place, is_clear, int_row}
use Rattle.vx_rows.specs.Written.{is_within, cell}
use Rattle.vx_rows.proofs.SpanLemmas.{span_same, every_holds}
use Rattle.vx_rows.proofs.MakingLemmas.{IsPresence, span_list}
use Rattle.vx_rows.proofs.CellLemmas.{value_found, values_long, value_long, value_again}

pub cell-long : (p : PType) (row : Option ℤ) → length (cell p row) ≡ value_size p
cell-long p row = value_long p (unwrap_or row (pos 0))

-- the number that stands where a row's value was written
pub raw_written : (p : PType) (rows : List (Option ℤ)) (front rest : List ℕ) (i : ℕ) → i < length rows
    → raw_at p (front ++ (flat_map (cell p) rows ++ rest)) (value_place p (length front) i) ≡ from_le_bytes (width p) (cell p (slice_index_or rows i None))
raw_written p rows front rest i l = ap (from_le_bytes (width p)) (value_found (cell p) (value_size p) (cell-long p) rows None front rest i l)

pub within-at : (p : PType) (row : Option ℤ) → IfSome row (λ n. is_within p n ≡ true) → cond (is_some row) (Some (value_of p (from_le_bytes (width p) (cell p row)))) None ≡ row
within-at p None h = refl
within-at p (Some n) h = ap Some (value_again p n h)

zero-raw : (p : PType) → (from_le_bytes (width p) (cell p None) == 0) ≡ true
zero-raw U8 = refl
zero-raw U16 = refl
zero-raw U32 = refl
zero-raw U64 = refl
zero-raw I8 = refl
zero-raw I16 = refl
zero-raw I32 = refl
zero-raw I64 = refl

pub clear-at : (p : PType) (row : Option ℤ) → (is_some row || (from_le_bytes (width p) (cell p row) == 0)) ≡ true
clear-at p None = zero-raw p
clear-at p (Some n) = refl

-- the rows are read from their bytes
pub ints_rows : (p : PType) (rows : List (Option ℤ)) (present : Option (List Bool)) (front rest : List ℕ) → IsPresence present rows → All (λ (row : Option ℤ). IfSome row (λ n. is_within p n ≡ true)) rows
    → span (int_row p present (front ++ (flat_map (cell p) rows ++ rest)) (length front)) 0 (length rows) ≡ rows
ints_rows p rows present front rest is within =
    span_same _ (λ i. slice_index_or rows i None) 0 (length rows) (λ i l u.
    ap (λ b. cond b (Some (value_of p (raw_at p (front ++ (flat_map (cell p) rows ++ rest)) (value_place p (length front) i)))) None) (is i (omega arith))
    ∙ ap (λ n. cond (is_some (slice_index_or rows i None)) (Some (value_of p n)) None) (raw_written p rows front rest i (omega arith))
    ∙ within-at p (slice_index_or rows i None) (within i None (omega arith)))
    ∙ span_list None rows

-- and null rows are 0
pub ints_clear : (p : PType) (rows : List (Option ℤ)) (present : Option (List Bool)) (front rest : List ℕ) → IsPresence present rows
    → every (is_clear p present (front ++ (flat_map (cell p) rows ++ rest)) (length front)) 0 (length rows) ≡ true
ints_clear p rows present front rest is =
    every_holds _ 0 (length rows) (λ i l u.
    ap (λ b. b || (raw_at p (front ++ (flat_map (cell p) rows ++ rest)) (value_place p (length front) i) == 0)) (is i (omega arith))
    ∙ ap (λ n. is_some (slice_index_or rows i None) || (n == 0)) (raw_written p rows front rest i (omega arith))
    ∙ clear-at p (slice_index_or rows i None))

pub cells_long : (p : PType) (rows : List (Option ℤ)) → length (flat_map (cell p) rows) ≡ value_size p * length rows
cells_long p rows = values_long (cell p) (value_size p) (cell-long p) rows

-- ---- bytes of their own

behind-none : (bytes : List ℕ) → [] ++ (bytes ++ []) ≡ bytes
behind-none [] = refl
behind-none (b ∷ bytes) = ap (λ bs. b ∷ bs) (behind-none bytes)

pub made_ints : (p : PType) (rows : List (Option ℤ)) (present : Option (List Bool)) (bytes : List ℕ) → bytes ≡ flat_map (cell p) rows → IsPresence present rows
    → All (λ (row : Option ℤ). IfSome row (λ n. is_within p n ≡ true)) rows → span (int_row p present bytes 0) 0 (length rows) ≡ rows
made_ints p rows present bytes e is within =
    ap (λ b. span (int_row p present b 0) 0 (length rows)) (e ∙ sym (behind-none (flat_map (cell p) rows))) ∙ ints_rows p rows present [] [] is within

pub made_clear : (p : PType) (rows : List (Option ℤ)) (present : Option (List Bool)) (bytes : List ℕ) → bytes ≡ flat_map (cell p) rows → IsPresence present rows
    → every (is_clear p present bytes 0) 0 (length rows) ≡ true
made_clear p rows present bytes e is =
    ap (λ b. every (is_clear p present b 0) 0 (length rows)) (e ∙ sym (behind-none (flat_map (cell p) rows))) ∙ ints_clear p rows present [] [] is

pub made_long : (p : PType) (rows : List (Option ℤ)) (bytes : List ℕ) → bytes ≡ flat_map (cell p) rows → value_place p 0 (length rows) ≤ length bytes
made_long p rows bytes e = let long = ap length e ∙ cells_long p rows in omega (arith, long)
