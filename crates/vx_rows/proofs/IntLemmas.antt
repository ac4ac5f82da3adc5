-- Integers in bytes.
use Rattle.std.proofs.Common.{◌≡◌, ℕ, ℤ, ◌+◌, ◌<◌, ◌≤◌, Bool, true, false, cond, List, length, Option, Some, None, is_some, refl, ap, sym, ◌∙◌, arith}
use Rattle.std.specs.Prelude.{slice_index_or}
use Rattle.vx_data.specs.declared.ptype.PType.{PType}
use Rattle.vx_data.specs.declared.ptype.PType.TheVariants.{U8, U16, U32, U64, I8, I16, I32, I64}
use Rattle.vx_rows.specs.Span.{span}
use Rattle.vx_rows.specs.Bits.{present_at}
use Rattle.vx_rows.specs.Columns.{value_size, value_place, value_of, raw_at, int_row}
use Rattle.vx_rows.proofs.SpanLemmas.{length_span, get_or_span}

-- the value of a row ends where those of all rows do, or before
pub place_inside : (p : PType) (at row count len : ℕ) → row < count → value_place p at count ≤ len → value_place p at row + value_size p ≤ len
place_inside U8 at row count len h l = omega arith
place_inside U16 at row count len h l = omega arith
place_inside U32 at row count len h l = omega arith
place_inside U64 at row count len h l = omega arith
place_inside I8 at row count len h l = omega arith
place_inside I16 at row count len h l = omega arith
place_inside I32 at row count len h l = omega arith
place_inside I64 at row count len h l = omega arith

-- what is there is the value
pub value_there : (b : Bool) (x : ℤ) → is_some (cond b (Some x) None) ≡ true → cond b (Some x) None ≡ Some x
value_there true x h = refl
value_there false x h = cc

-- the value of a row that has one
pub int_found : (p : PType) (present : Option (List Bool)) (bytes : List ℕ) (at count row : ℕ) (rows : List (Option ℤ)) (n : ℤ) → span (int_row p present bytes at) 0 count ≡ rows → row < length rows
    → is_some (slice_index_or rows row None) ≡ true → n ≡ value_of p (raw_at p bytes (value_place p at row)) → slice_index_or rows row None ≡ Some n
int_found p present bytes at count row rows n e l h v =
    let long : count ≡ length rows = sym (length_span (int_row p present bytes at) 0 count) ∙ ap length e in
    let less : row < count = omega arith in
    let here : slice_index_or rows row None ≡ int_row p present bytes at row =
    ap (λ xs. slice_index_or xs row None) (sym e) ∙ get_or_span (int_row p present bytes at) 0 count row None less ∙ ap (int_row p present bytes at) (omega arith) in
    here ∙ value_there (present_at present row) (value_of p (raw_at p bytes (value_place p at row))) (ap is_some (sym here) ∙ h) ∙ ap Some (sym v)

-- where a row begins is no greater than where all end
pub place_bound : (p : PType) (at row count len : ℕ) → row < count → value_place p at count ≤ len → value_place p at row ≤ len
place_bound p at row count len h l = let e = place_inside p at row count len h l in omega (arith, e)
