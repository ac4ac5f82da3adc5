-- Sets of statistics that are written, one after the other.
use Rattle.std.proofs.Common.{◌≡◌, ℕ, ◌+◌, ◌<◌, ◌≤◌, Bool, List, [], ◌∷◌, ◌++◌, length, map, get_or, drop, Option, Some, None, refl, ap, sym, ◌∙◌, arith, add-one, drop-cons}
use Rattle.vx_tables.specs.Block.{Piece, slot_count, slots_from}
use Rattle.vx_data.specs.declared.dtype.DType.{DType}
use Rattle.vx_data.specs.Dtype.{dtype_view}
use Rattle.vx_data.specs.Stats.{Stats}
use Rattle.vx_data.specs.StatsEntry.{Entry}
use Rattle.vx_data.specs.StatsWritten.{entry_of, entries_of, bound_pieces}

-- what still comes
abbrev pub rest_entries : List Stats → List DType → ℕ → List Entry
rest_entries ss ds i = entries_of (drop i ss) (map dtype_view (drop i ds))

pub next_entry : (ss : List Stats) (ds : List DType) (i : ℕ) (s : Stats) (d : DType) → i < length ss → i < length ds → s ≡ get_or ss i s → d ≡ get_or ds i d
    → rest_entries ss ds i ≡ entry_of (dtype_view d) s ∷ rest_entries ss ds (i + 1)
next_entry ss ds i s d lt below is_set is_type =
    let sets : drop i ss ≡ s ∷ drop (i + 1) ss = rw (add-one, drop-cons ss i s, ← is_set) refl in
    let types : drop i ds ≡ d ∷ drop (i + 1) ds = rw (add-one, drop-cons ds i d, ← is_type) refl in
    ap (λ xs. entries_of xs (map dtype_view (drop i ds))) sets ∙ ap (λ ys. entries_of (s ∷ drop (i + 1) ss) (map dtype_view ys)) types

pub no_entry : (ds : List DType) (i : ℕ) → entries_of [] (map dtype_view (drop i ds)) ≡ []
no_entry ds i = refl

-- the slots of a table end with its last piece
pub slots_push : (next : ℕ) (ps : List Piece) (p : Piece) → slots_from next (ps ++ p ∷ []) ≡ p.slot + 1
slots_push next [] p = refl
slots_push next (q ∷ ps) p = slots_push (q.slot + 1) ps p

pub slots_two : (min : Option (List ℕ)) (exact : Bool) → slot_count (bound_pieces 0 min exact) ≤ 2
slots_two None exact = omega arith
slots_two (Some xs) exact = omega arith

pub slots_four : (min max : Option (List ℕ)) (exact sure : Bool) → slot_count (bound_pieces 0 min exact ++ bound_pieces 2 max sure) ≤ 4
slots_four None None exact sure = omega arith
slots_four None (Some ys) exact sure = omega arith
slots_four (Some xs) None exact sure = omega arith
slots_four (Some xs) (Some ys) exact sure = omega arith
