-- The tables of fields, one after the other.
use Rattle.std.proofs.Common.{◌≡◌, ℕ, ◌+◌, ◌<◌, max, List, ◌∷◌, length, get_or, drop, refl, ap, add-one, drop-cons}
use Rattle.std.specs.Prelude.{String, string_bytes}
use Rattle.std.specs.Global.{Global}
use Rattle.vx_tables.specs.Counted.{text_cost}
use Rattle.vx_data.specs.declared.dtype.DType.{DType}
use Rattle.vx_data.specs.Dtype.{dtype_view, pairs_view}
use Rattle.vx_data.specs.DtypeWritten.{pieces_of, all_pieces, levels_of, most_levels, visits_of, fields_visits}

next : (fs : List (String Global × DType)) (i : ℕ) (f : String Global × DType) → i < length fs → f ≡ get_or fs i f → drop i fs ≡ f ∷ drop (i + 1) fs
next fs i f lt is = rw (add-one, drop-cons fs i f, ← is) refl

pub next_pieces : (fs : List (String Global × DType)) (i : ℕ) (f : String Global × DType) → i < length fs → f ≡ get_or fs i f
    → all_pieces (pairs_view (drop i fs)) ≡ pieces_of (dtype_view f.1) ∷ all_pieces (pairs_view (drop (i + 1) fs))
next_pieces fs i f lt is = ap (λ xs. all_pieces (pairs_view xs)) (next fs i f lt is)

pub next_levels : (fs : List (String Global × DType)) (i : ℕ) (f : String Global × DType) → i < length fs → f ≡ get_or fs i f
    → most_levels (pairs_view (drop i fs)) ≡ max (levels_of (dtype_view f.1)) (most_levels (pairs_view (drop (i + 1) fs)))
next_levels fs i f lt is = ap (λ xs. most_levels (pairs_view xs)) (next fs i f lt is)

pub next_visits : (fs : List (String Global × DType)) (i : ℕ) (f : String Global × DType) → i < length fs → f ≡ get_or fs i f
    → fields_visits (pairs_view (drop i fs)) ≡ text_cost (string_bytes f.0) + (visits_of (dtype_view f.1) + fields_visits (pairs_view (drop (i + 1) fs)))
next_visits fs i f lt is = ap (λ xs. fields_visits (pairs_view xs)) (next fs i f lt is)
