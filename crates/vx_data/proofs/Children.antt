-- What children hold, one after the other.
use Rattle.std.proofs.Common.{◌≡◌, ℕ, ◌+◌, ◌<◌, Bool, true, false, List, ◌∷◌, length, get_or, drop, refl, ap, arith, add-one, drop-cons}
use Rattle.std.specs.Prelude.{◌&&◌, ◌==◌}
use Rattle.std.proofs.lemmas.Bool.Decides.{nat_tests}
use Rattle.vx_data.specs.declared.layout_kind.LayoutKind.{LayoutKind}
use Rattle.vx_data.specs.declared.layout_kind.LayoutKind.TheVariants.{Flat, Chunked, Struct}
use Rattle.vx_data.specs.Layout.{LayoutTree, layouts_of, rows_of, rows_sum, has_shape}
use Rattle.vx_data.specs.ChildTypes.{a_chunk, chunk_types}

pub next_chunk : (index row : ℕ) (ts : List LayoutTree) (i : ℕ) (t : LayoutTree) → i < length ts → t ≡ get_or ts i t
    → chunk_types index row (layouts_of (drop i ts)) ≡ a_chunk index row ∷ chunk_types (index + 1) (row + rows_of t) (layouts_of (drop (i + 1) ts))
next_chunk index row ts i t lt is =
    let next : drop i ts ≡ t ∷ drop (i + 1) ts = rw (add-one, drop-cons ts i t, ← is) refl in
    ap (λ xs. chunk_types index row (layouts_of xs)) next

rows_equal : (a : Bool) (n m : ℕ) → (a && (n == m)) ≡ true → m ≡ n
rows_equal true n m h = grind (arith, nat_tests)
rows_equal false n m h = cc

pub chunked_rows : (k : LayoutKind) (n : ℕ) (s : List ℕ) (ts : List LayoutTree) → k ≡ Chunked → has_shape k n s ts ≡ true → rows_sum ts ≡ n
chunked_rows Chunked n s ts is shape = rows_equal (length s == 0) n (rows_sum ts) shape
chunked_rows Flat n s ts is shape = cc
chunked_rows Struct n s ts is shape = cc
