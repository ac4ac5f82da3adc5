-- The tables of layouts, one after the other.
use Rattle.std.proofs.Common.{◌≡◌, ℕ, zero, suc, ◌+◌, ◌<◌, ◌≤◌, max, Bool, true, false, List, [], ◌∷◌, ◌++◌, length, get_or, take, drop, refl, ap, sym, ◌∙◌, arith, add-one, drop-cons}
use Rattle.std.specs.Prelude.{◌&&◌, ◌||◌, ◌==◌, cond}
use Rattle.std.specs.Int.{w16, w64}
use Rattle.std.specs.Str.{bytes_eq}
use Rattle.std.proofs.lemmas.List.{length-map}
use Rattle.vx_tables.specs.Block.{Piece, number, slot_count, slots_from, Listed, list_piece}
use Rattle.vx_data.specs.Layout.{LayoutTree, node, layouts_of, kind_of, rows_of, segments_of, children_of, tree_size, trees_size}
use Rattle.vx_data.specs.LayoutWritten.{kind_id, place_in, has_id, uses_ids, all_use, children_pieces, node_pieces, tree_pieces, trees_pieces, tree_levels, most_tree_levels, vector_visit, segments_visits, tree_visits, trees_visits}

-- ---- ids and slots

below : (b : Bool) (place count : ℕ) (others : Bool) → (others ≡ true → place < count) → (b || others) ≡ true → cond b 0 (1 + place) < suc count
below true place count others rest h = omega arith
below false place count others rest h = let lt = rest h in omega (arith, lt)

pub place_is_below : (ids : List (List ℕ)) (id : List ℕ) → has_id ids id ≡ true → place_in ids id < length ids
place_is_below [] id h = absurd cc
place_is_below (x ∷ xs) id h = below (bytes_eq x id) (place_in xs id) (length xs) (has_id xs id) (place_is_below xs id) h

pub ruleset place_below = (place_is_below, length-map)

pub slots_fit : (encoding rows : ℕ) (ws : List (List Piece)) → slot_count ((number w16 0 encoding ∷ number w64 1 rows ∷ []) ++ children_pieces ws) ≤ 4
slots_fit encoding rows [] = omega arith
slots_fit encoding rows (w ∷ ws) = omega arith

slots-of : (next : ℕ) (ps : List Piece) (p : Piece) → slots_from next (ps ++ p ∷ []) ≡ p.slot + 1
slots-of next [] p = refl
slots-of next (q ∷ ps) p = slots-of (q.slot + 1) ps p

pub slots_behind : (ps : List Piece) (l : Listed) → slot_count (ps ++ list_piece 3 l ∷ []) ≤ 4
slots_behind ps l = let e = slots-of 0 ps (list_piece 3 l) in omega (arith, e)

-- ---- a layout by its parts

pub pieces_are : (ids : List (List ℕ)) (t : LayoutTree) → tree_pieces ids t ≡ node_pieces (place_in ids (kind_id (kind_of t))) (rows_of t) (trees_pieces ids (children_of t)) (segments_of t)
pieces_are ids (node k d n s ts) = refl

pub used_are : (ids : List (List ℕ)) (t : LayoutTree) → uses_ids ids t ≡ (has_id ids (kind_id (kind_of t)) && all_use ids (children_of t))
used_are ids (node k d n s ts) = refl

pub size_is : (t : LayoutTree) → tree_size t ≡ suc (trees_size (children_of t))
size_is (node k d n s ts) = refl

pub ruleset tree_parts = (pieces_are, used_are, size_is)

pub levels_are : (t : LayoutTree) → tree_levels t ≡ most_tree_levels (children_of t) + 1
levels_are (node k d n s ts) = refl

pub visits_are : (t : LayoutTree) → tree_visits t ≡ 1 + (vector_visit (children_of t) + segments_visits (segments_of t)) + trees_visits (children_of t)
visits_are (node k d n s ts) = refl

pub one_vector : (ts : List LayoutTree) → (length ts == 0) ≡ false → vector_visit (layouts_of ts) ≡ 1
one_vector [] some = cc
one_vector (t ∷ ts) some = refl

-- ---- one more layout

next : (ts : List LayoutTree) (i : ℕ) (t : LayoutTree) → i < length ts → t ≡ get_or ts i t → drop i ts ≡ t ∷ drop (i + 1) ts
next ts i t lt is = rw (add-one, drop-cons ts i t, ← is) refl

pub next_pieces : (ids : List (List ℕ)) (ts : List LayoutTree) (i : ℕ) (t : LayoutTree) → i < length ts → t ≡ get_or ts i t
    → trees_pieces ids (layouts_of (drop i ts)) ≡ tree_pieces ids t ∷ trees_pieces ids (layouts_of (drop (i + 1) ts))
next_pieces ids ts i t lt is = ap (λ xs. trees_pieces ids (layouts_of xs)) (next ts i t lt is)

pub next_used : (ids : List (List ℕ)) (ts : List LayoutTree) (i : ℕ) (t : LayoutTree) → i < length ts → t ≡ get_or ts i t
    → all_use ids (layouts_of (drop i ts)) ≡ (uses_ids ids t && all_use ids (layouts_of (drop (i + 1) ts)))
next_used ids ts i t lt is = ap (λ xs. all_use ids (layouts_of xs)) (next ts i t lt is)

pub next_size : (ts : List LayoutTree) (i : ℕ) (t : LayoutTree) → i < length ts → t ≡ get_or ts i t
    → trees_size (layouts_of (drop i ts)) ≡ tree_size t + trees_size (layouts_of (drop (i + 1) ts))
next_size ts i t lt is = ap (λ xs. trees_size (layouts_of xs)) (next ts i t lt is)

-- the layouts before one, and it
pub more_pieces : (ids : List (List ℕ)) (ts : List LayoutTree) (i : ℕ) (t : LayoutTree) → i < length ts → t ≡ get_or ts i t
    → trees_pieces ids (layouts_of (take (i + 1) ts)) ≡ trees_pieces ids (layouts_of (take i ts)) ++ tree_pieces ids t ∷ []
more_pieces ids [] i t lt is = absurd (omega (arith, lt))
more_pieces ids (x ∷ ts) zero t lt is = ap (λ y. tree_pieces ids y ∷ []) (sym is)
more_pieces ids (x ∷ ts) (suc i) t lt is =
    let e : suc i + 1 ≡ suc (i + 1) = omega arith in
    ap (λ n. trees_pieces ids (layouts_of (take n (x ∷ ts)))) e ∙ ap (λ ws. tree_pieces ids x ∷ ws) (more_pieces ids ts i t (omega (arith, lt)) is)

pub all_pieces : (ids : List (List ℕ)) (ts : List LayoutTree) (n : ℕ) → length ts ≤ n → trees_pieces ids (layouts_of (take n ts)) ≡ trees_pieces ids (layouts_of ts)
all_pieces ids [] zero le = refl
all_pieces ids [] (suc n) le = refl
all_pieces ids (x ∷ ts) zero le = absurd (omega (arith, le))
all_pieces ids (x ∷ ts) (suc n) le = ap (λ ws. tree_pieces ids x ∷ ws) (all_pieces ids ts n (omega (arith, le)))

and-right : (a b : Bool) → (a && b) ≡ true → b ≡ true
and-right true b h = h
and-right false b h = absurd cc

-- the layouts behind one use the ids too
pub rest_used : (ids : List (List ℕ)) (ts : List LayoutTree) (i : ℕ) (t : LayoutTree) → i < length ts → t ≡ get_or ts i t
    → all_use ids (layouts_of (drop i ts)) ≡ true → all_use ids (layouts_of (drop (i + 1) ts)) ≡ true
rest_used ids ts i t lt is h = and-right (uses_ids ids t) (all_use ids (layouts_of (drop (i + 1) ts))) (sym (next_used ids ts i t lt is) ∙ h)

pub ruleset tree_steps = (next_pieces, next_used, next_size)

pub next_tree_levels : (ts : List LayoutTree) (i : ℕ) (t : LayoutTree) → i < length ts → t ≡ get_or ts i t
    → most_tree_levels (layouts_of (drop i ts)) ≡ max (tree_levels t) (most_tree_levels (layouts_of (drop (i + 1) ts)))
next_tree_levels ts i t lt is = ap (λ xs. most_tree_levels (layouts_of xs)) (next ts i t lt is)

pub next_tree_visits : (ts : List LayoutTree) (i : ℕ) (t : LayoutTree) → i < length ts → t ≡ get_or ts i t
    → trees_visits (layouts_of (drop i ts)) ≡ tree_visits t + trees_visits (layouts_of (drop (i + 1) ts))
next_tree_visits ts i t lt is = ap (λ xs. trees_visits (layouts_of xs)) (next ts i t lt is)
