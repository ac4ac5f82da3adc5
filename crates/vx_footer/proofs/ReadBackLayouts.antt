-- The table of a layout that was written is read.
use Rattle.std.proofs.Common.{◌≡◌, ℕ, zero, suc, ◌+◌, ◌*◌, ◌/◌, ◌<◌, ◌≤◌, ◌^◌, Bool, true, false, List, [], ◌∷◌, ◌++◌, length, map, Option, Some, None, Ok, refl, sym, ap, subst, ◌∙◌, arith, add-zero, zero-add, length-append}
use Rattle.std.specs.Prelude.{◌&&◌, ◌||◌, cond, nat_lt, slice_get}
use Rattle.std.specs.Int.{w16, w32, w64, to_le_bytes}
use Rattle.std.specs.List.{flat_map, AllByRecursion}
use Rattle.std.specs.Str.{bytes_eq}
use Rattle.std.proofs.lemmas.Bool.Decides.{nat_tests}
use Rattle.std.proofs.lemmas.Slice.Eq.{bytes_eq-Decides}
use Rattle.std.proofs.lemmas.Nat.{from_le_bytes-to_le_bytes_4}
use Rattle.vx_tables.specs.declared.elements.Elements.TheVariants.{Numbers, Offsets}
use Rattle.vx_tables.specs.Block.{Piece, numbers, tables, in_order, root_bytes}
use Rattle.vx_tables.specs.Field.{Table, Vector, root, field, vector_field, table_of_vector, element_bytes, numbers_in, numbers_of_vector}
use Rattle.vx_tables.specs.Counted.{Counted, ◌>>=◌, free, pure, present, enter, each_from, each_table, or_empty, vector_of, allowed}
use Rattle.vx_tables.specs.Standing.{piece_at, Stands, ReadsBack, IsTableAt}
use Rattle.vx_tables.proofs.ReadAll.{reads_back, root_read, no_vector}
use Rattle.vx_tables.proofs.Walked.{Gets, then_gets, gets-pure, gets-free, gets-counted, gets-enter, gets-present, gets-bind, gets-allowed}
use Rattle.vx_data.specs.declared.layout_kind.LayoutKind.{LayoutKind}
use Rattle.vx_data.specs.declared.layout_kind.LayoutKind.TheVariants.{Flat, Chunked, Struct}
use Rattle.vx_data.specs.Layout.{LayoutTree, node, Layouts, no_layouts, a_layout, layouts_of, dtype_of, child_dtypes}
use Rattle.vx_data.specs.LayoutTable.{Row, row, rows_list, rows_count, row_from, row_at, children_in, segments_in, layout_table, kind_of_id, kind_at, row_known, rows_known, fit, fit_each, layout_checks}
use Rattle.vx_data.specs.LayoutWritten.{kind_id, place_in, has_id, uses_ids, all_use, node_pieces, tree_pieces, trees_pieces, tree_levels, most_tree_levels, vector_visit, segments_visits, tree_visits, trees_visits}
use Rattle.vx_data.specs.LayoutIds.{with_id, ids_behind, all_behind, used_ids}
use Rattle.vx_data.proofs.LayoutUses.{all_used}
use Rattle.vx_data.proofs.LayoutTables.{place_is_below}
use Rattle.vx_footer.specs.ReadAgain.{list_of, IsLaid, AreLaid}

-- ---- the ids of a tree are few

or_right : (b : Bool) → (b || true) ≡ true
or_right true = refl
or_right false = refl

or_none : (b : Bool) → (b || false) ≡ b
or_none true = refl
or_none false = refl

or_assoc : (a b c : Bool) → ((a || b) || c) ≡ (a || (b || c))
or_assoc true b c = refl
or_assoc false b c = refl

and_parts : (a b : Bool) → (a && b) ≡ true → (a ≡ true) × (b ≡ true)
and_parts true true h = (refl, refl)
and_parts true false h = absurd cc
and_parts false b h = absurd cc

has_push : (ids : List (List ℕ)) (y x : List ℕ) → has_id (ids ++ y ∷ []) x ≡ (has_id ids x || bytes_eq y x)
has_push [] y x = or_none (bytes_eq y x)
has_push (z ∷ zs) y x = ap (λ b. bytes_eq z x || b) (has_push zs y x) ∙ sym (or_assoc (bytes_eq z x) (has_id zs x) (bytes_eq y x))

flag : Bool → ℕ
flag true = 1
flag false = 0

flag_low : (b : Bool) → flag b ≤ 1
unfolding flag
flag_low true = omega arith
flag_low false = omega arith

-- how many of the three kinds are there
kinds_among : List (List ℕ) → ℕ
kinds_among ids = flag (has_id ids (kind_id Flat)) + flag (has_id ids (kind_id Chunked)) + flag (has_id ids (kind_id Struct))

one_more : (ids : List (List ℕ)) (k : LayoutKind) → has_id ids (kind_id k) ≡ false → length ids ≡ kinds_among ids → length (ids ++ kind_id k ∷ []) ≡ kinds_among (ids ++ kind_id k ∷ [])
unfolding kinds_among flag
one_more ids Flat new h =
    rw (has_push ids (kind_id Flat) (kind_id Flat), has_push ids (kind_id Flat) (kind_id Chunked), has_push ids (kind_id Flat) (kind_id Struct), or_none (has_id ids (kind_id Chunked)), or_none (has_id ids (kind_id Struct)), or_right (has_id ids (kind_id Flat)))
    (omega (arith, h, ap flag new, length-append ids (kind_id Flat ∷ [])))
one_more ids Chunked new h =
    rw (has_push ids (kind_id Chunked) (kind_id Flat), has_push ids (kind_id Chunked) (kind_id Chunked), has_push ids (kind_id Chunked) (kind_id Struct), or_none (has_id ids (kind_id Flat)), or_none (has_id ids (kind_id Struct)), or_right (has_id ids (kind_id Chunked)))
    (omega (arith, h, ap flag new, length-append ids (kind_id Chunked ∷ [])))
one_more ids Struct new h =
    rw (has_push ids (kind_id Struct) (kind_id Flat), has_push ids (kind_id Struct) (kind_id Chunked), has_push ids (kind_id Struct) (kind_id Struct), or_none (has_id ids (kind_id Flat)), or_none (has_id ids (kind_id Chunked)), or_right (has_id ids (kind_id Struct)))
    (omega (arith, h, ap flag new, length-append ids (kind_id Struct ∷ [])))

with_more : (ids : List (List ℕ)) (k : LayoutKind) → length ids ≡ kinds_among ids → length (with_id ids (kind_id k)) ≡ kinds_among (with_id ids (kind_id k))
with_more ids k h = by (has_id ids (kind_id k)) refl
  where
    by : (b : Bool) → has_id ids (kind_id k) ≡ b → length (cond b ids (ids ++ kind_id k ∷ [])) ≡ kinds_among (cond b ids (ids ++ kind_id k ∷ []))
    by true e = h
    by false e = one_more ids k e h

mutual
  tree_kinds : (ids : List (List ℕ)) (t : LayoutTree) → length ids ≡ kinds_among ids → length (ids_behind ids t) ≡ kinds_among (ids_behind ids t)
  tree_kinds ids (node k d n s ts) h = all_kinds (with_id ids (kind_id k)) ts (with_more ids k h)

  all_kinds : (ids : List (List ℕ)) (ts : Layouts) → length ids ≡ kinds_among ids → length (all_behind ids ts) ≡ kinds_among (all_behind ids ts)
  all_kinds ids no_layouts h = h
  all_kinds ids (a_layout t ts) h = all_kinds (ids_behind ids t) ts (tree_kinds ids t h)

no_kinds : kinds_among [] ≡ 0
unfolding kinds_among flag
no_kinds = refl

three : (ids : List (List ℕ)) → length ids ≡ kinds_among ids → length ids ≤ 3
unfolding kinds_among
three ids h = omega (arith, h, flag_low (has_id ids (kind_id Flat)), flag_low (has_id ids (kind_id Chunked)), flag_low (has_id ids (kind_id Struct)))

pub few_ids : (t : LayoutTree) → length (used_ids t) ≤ 3
few_ids t = three (used_ids t) (tree_kinds [] t (sym no_kinds))

-- ---- the row of a tree

mutual
  row_of : List (List ℕ) → LayoutTree → Row
  row_of ids (node k d n s ts) = row (place_in ids (kind_id k)) n s (rows_list (rows_of ids ts))

  rows_of : List (List ℕ) → Layouts → List Row
  rows_of ids no_layouts = []
  rows_of ids (a_layout t ts) = row_of ids t ∷ rows_of ids ts

-- the visits inside a tree's table
inner_of : LayoutTree → ℕ
inner_of (node k d n s ts) = (vector_visit ts + segments_visits s) + trees_visits ts

inner_visits : (t : LayoutTree) → inner_of t + 1 ≡ tree_visits t
unfolding inner_of
inner_visits (node k d n s ts) = omega arith

levels_some : (t : LayoutTree) → 1 ≤ tree_levels t
levels_some (node k d n s ts) = omega arith

-- ---- pieces

no_children_at : (e n : ℕ) (s : List ℕ) → piece_at 3 (node_pieces e n [] s) ≡ None
no_children_at e n [] = refl
no_children_at e n (m ∷ s) = refl

children_at : (e n : ℕ) (w : List Piece) (ws : List (List Piece)) (s : List ℕ) → piece_at 3 (node_pieces e n (w ∷ ws) s) ≡ Some (tables 3 (w ∷ ws))
children_at e n w ws [] = refl
children_at e n w ws (m ∷ s) = refl

no_segments_at : (e n : ℕ) (ws : List (List Piece)) → piece_at 4 (node_pieces e n ws []) ≡ None
no_segments_at e n [] = refl
no_segments_at e n (w ∷ ws) = refl

segments_at : (e n : ℕ) (ws : List (List Piece)) (m : ℕ) (s : List ℕ) → piece_at 4 (node_pieces e n ws (m ∷ s)) ≡ Some (numbers 4 (m ∷ s))
segments_at e n [] m s = refl
segments_at e n (w ∷ ws) m s = refl

order_of : (e n : ℕ) (ws : List (List Piece)) (s : List ℕ) → in_order 0 (node_pieces e n ws s) ≡ true
order_of e n [] [] = refl
order_of e n [] (m ∷ s) = refl
order_of e n (w ∷ ws) [] = refl
order_of e n (w ∷ ws) (m ∷ s) = refl

pub tree_order : (ids : List (List ℕ)) (t : LayoutTree) → in_order 0 (tree_pieces ids t) ≡ true
tree_order ids (node k d n s ts) = order_of (place_in ids (kind_id k)) n (trees_pieces ids ts) s

-- ---- segments

first_number : (n : ℕ) (ns : List ℕ) → n < 2 ^ 32 → numbers_in (suc (length ns)) (flat_map (to_le_bytes w32) (n ∷ ns)) ≡ n ∷ numbers_in (length ns) (flat_map (to_le_bytes w32) ns)
first_number n ns low = ap (λ (m : ℕ). m ∷ numbers_in (length ns) (flat_map (to_le_bytes w32) ns)) (from_le_bytes-to_le_bytes_4 n low)

numbers_again : (ns : List ℕ) → AllByRecursion (λ (m : ℕ). m < 2 ^ 32) ns → numbers_in (length ns) (flat_map (to_le_bytes w32) ns) ≡ ns
numbers_again [] low = refl
numbers_again (n ∷ ns) low = first_number n ns low.0 ∙ ap (λ xs. n ∷ xs) (numbers_again ns low.1)

segments_gets : (b : List ℕ) (t : Table) (e n : ℕ) (ws : List (List Piece)) (s : List ℕ) (l : ℕ) → AllByRecursion (λ (m : ℕ). m < 2 ^ 32) s → ReadsBack b t (node_pieces e n ws s)
    → Gets (segments_in b t) s (segments_visits s) l
unfolding segments_in
segments_gets b t e n ws [] l low reads =
    let vector : Gets (vector_of b t 4 (Numbers 4)) None 0 l = gets-counted _ (vector_field b t 4 (Numbers 4)) None 0 l (no_vector b t 4 (Numbers 4) (reads.absent 4 (no_segments_at e n ws))) (omega arith) in
    then_gets _ _ None [] 0 vector (gets-pure [] 0 l) (omega arith)
segments_gets b t e n ws (m ∷ s) l low reads =
    let v = reads.numbers 4 (m ∷ s) (segments_at e n ws m s) in
    let size = segments_visits (m ∷ s) in
    let cost : 1 + v.vector.count * 4 / 64 ≤ size = omega (arith, v.as_many) in
    let vector : Gets (vector_of b t 4 (Numbers 4)) (Some v.vector) size l = gets-counted _ (vector_field b t 4 (Numbers 4)) (Some v.vector) size l v.found cost in
    let same : numbers_of_vector b v.vector ≡ m ∷ s = ap (λ k. numbers_in k (element_bytes b v.vector (Numbers 4))) v.as_many ∙ ap (numbers_in (length (m ∷ s))) v.bytes ∙ numbers_again (m ∷ s) low in
    let read = then_gets _ _ (Some v.vector) (numbers_of_vector b v.vector) size vector (gets-pure (numbers_of_vector b v.vector) 0 l) (omega arith) in
    subst (λ (xs : List ℕ). Gets (segments_in b t) xs size l) same read

-- ---- a node over its children

below : (n m : ℕ) → n < m → nat_lt n m ≡ true
below n m h = grind (arith, nat_tests)

row_there : (count e n : ℕ) (s : List ℕ) (rs : List Row) → e < count → row_from count e n s rs ≡ Some (row e n s (rows_list rs))
row_there count e n s rs lt = rw (below e count lt) refl

node_gets : (count : ℕ) (b : List ℕ) (t : Table) (l e n : ℕ) (ws : List (List Piece)) (s : List ℕ) (rs : List Row) (x : ℕ) → ReadsBack b t (node_pieces e n ws s)
    → e < count → e < 2 ^ 16 → n < 2 ^ 64 → AllByRecursion (λ (m : ℕ). m < 2 ^ 32) s → Gets (children_in (row_at count l b) b t) rs x l
    → Gets (row_at count (suc l) b t) (row e n s (rows_list rs)) (x + segments_visits s) l
unfolding row_at
node_gets count b t l e n ws s rs x reads lt narrow few low children =
    let whole : Row = row e n s (rows_list rs) in
    let encoding : Gets (free (field w16 b t 0)) (Some e) 0 l = gets-free (field w16 b t 0) (Some e) 0 l (reads.number w16 0 e refl narrow) in
    let row_count : Gets (free (field w64 b t 1)) (Some n) 0 l = gets-free (field w64 b t 1) (Some n) 0 l (reads.number w64 1 n refl few) in
    let segments = segments_gets b t e n ws s l low reads in
    let last : Gets (present (row_from count e n s rs)) whole 0 l = subst (λ (o : Option Row). Gets (present o) whole 0 l) (sym (row_there count e n s rs lt)) (gets-present whole 0 l) in
    then_gets _ _ (Some e) whole (x + segments_visits s) encoding (
    then_gets _ _ (Some n) whole (x + segments_visits s) row_count (
    then_gets _ _ rs whole (x + segments_visits s) children (
    then_gets _ _ s whole (segments_visits s) segments last (omega arith)) (omega arith)) (omega arith)) (omega arith)

-- ---- all nodes

no_children : (count : ℕ) (b : List ℕ) (t : Table) (l e n : ℕ) (s : List ℕ) → ReadsBack b t (node_pieces e n [] s) → Gets (children_in (row_at count l b) b t) [] 0 l
unfolding children_in or_empty
no_children count b t l e n s reads =
    let vector : Gets (vector_of b t 3 Offsets) None 0 l = gets-counted _ (vector_field b t 3 Offsets) None 0 l (no_vector b t 3 Offsets (reads.absent 3 (no_children_at e n s))) (omega arith) in
    then_gets _ _ None [] 0 vector (gets-pure [] 0 l) (omega arith)

-- what stands in a vector of children's tables
abbrev Each : List ℕ → Vector → List (List Piece) → Type 0
Each b v ws = (j : ℕ) (ps : List Piece) → slice_get ws j ≡ Some ps → in_order 0 ps ≡ true → IsTableAt b (table_of_vector b v (0 + j)) ps

children_gets : (ids : List (List ℕ)) (b : List ℕ) (t : Table) (l e n : ℕ) (s : List ℕ) (ts : Layouts) → ReadsBack b t (node_pieces e n (trees_pieces ids ts) s)
    → ((v : Vector) → Each b v (trees_pieces ids ts) → Gets (each_from (λ q. enter (table_of_vector b v q) (row_at (length ids) l b)) (length (trees_pieces ids ts)) 0) (rows_of ids ts) (trees_visits ts) l)
    → Gets (children_in (row_at (length ids) l b) b t) (rows_of ids ts) (vector_visit ts + trees_visits ts) l
unfolding rows_of each_table children_in or_empty
children_gets ids b t l e n s no_layouts reads many = no_children (length ids) b t l e n s reads
children_gets ids b t l e n s (a_layout y ys) reads many =
    let count = length ids in
    let ts = a_layout y ys in
    let ws = trees_pieces ids ts in
    let rs = rows_of ids ts in
    let tables = reads.tables 3 ws (children_at e n (tree_pieces ids y) (trees_pieces ids ys) s) in
    let read : ℕ → Option (Counted Row) = λ q. enter (table_of_vector b tables.vector q) (row_at count l b) in
    let each : Each b tables.vector ws = λ j ps got order. subst (λ (q : ℕ). IsTableAt b (table_of_vector b tables.vector q) ps) (sym (zero-add j)) (tables.each j ps got order) in
    let inside : Gets (each_from read tables.vector.count 0) rs (trees_visits ts) l = subst (λ (c : ℕ). Gets (each_from read c 0) rs (trees_visits ts) l) (sym tables.as_many) (many tables.vector each) in
    let vector : Gets (vector_of b t 3 Offsets) (Some tables.vector) 1 l = gets-counted _ (vector_field b t 3 Offsets) (Some tables.vector) 1 l tables.found (omega arith) in
    then_gets (vector_of b t 3 Offsets) (or_empty (each_table b (row_at count l b))) (Some tables.vector) rs (1 + trees_visits ts) vector inside (omega arith)

mutual
  unfolding inner_of row_of rows_of each_from

  tree_gets : (ids : List (List ℕ)) (b : List ℕ) (t : Table) (l : ℕ) (x : LayoutTree) → Stands b t (tree_pieces ids x) → length ids ≤ 3 → uses_ids ids x ≡ true → IsLaid x → tree_levels x ≤ suc l
      → Gets (row_at (length ids) (suc l) b t) (row_of ids x) (inner_of x) l
  tree_gets ids b t l (node k d n s ts) stands few used h deep =
      let e = place_in ids (kind_id k) in
      let ws = trees_pieces ids ts in
      let size = vector_visit ts + trees_visits ts in
      let parts = and_parts (has_id ids (kind_id k)) (all_use ids ts) used in
      let reads = reads_back b t (node_pieces e n ws s) stands in
      let place = place_is_below ids (kind_id k) parts.0 in
      let children = children_gets ids b t l e n s ts reads (λ v each. trees_gets ids b v l ts 0 each few parts.1 h.1 (omega (arith, deep))) in
      let whole = node_gets (length ids) b t l e n ws s (rows_of ids ts) size reads place (omega (arith, place, few)) h.0.rows h.0.segments children in
      record { all = whole.all; found = whole.found; value = whole.value; few = omega (arith, whole.few); flat = whole.flat }

  trees_gets : (ids : List (List ℕ)) (b : List ℕ) (v : Vector) (l : ℕ) (xs : Layouts) (i : ℕ)
      → ((j : ℕ) (ps : List Piece) → slice_get (trees_pieces ids xs) j ≡ Some ps → in_order 0 ps ≡ true → IsTableAt b (table_of_vector b v (i + j)) ps)
      → length ids ≤ 3 → all_use ids xs ≡ true → AreLaid xs → most_tree_levels xs ≤ l
      → Gets (each_from (λ q. enter (table_of_vector b v q) (row_at (length ids) l b)) (length (trees_pieces ids xs)) i) (rows_of ids xs) (trees_visits xs) l
  trees_gets ids b v l no_layouts i each few used h low = gets-pure [] 0 l
  trees_gets ids b v zero (a_layout x xs) i each few used h low = absurd (omega (arith, low, levels_some x))
  trees_gets ids b v (suc k) (a_layout x xs) i each few used h low =
      let both = and_parts (uses_ids ids x) (all_use ids xs) used in
      let count = length ids in
      let read : ℕ → Option (Counted Row) = λ q. enter (table_of_vector b v q) (row_at count (suc k) b) in
      let rs = rows_of ids xs in
      let r = row_of ids x in
      let found = each 0 (tree_pieces ids x) refl (tree_order ids x) in
      let here : table_of_vector b v i ≡ Some found.table = ap (table_of_vector b v) (sym (add-zero i)) ∙ found.found in
      let inner = tree_gets ids b found.table k x found.stands few both.0 h.0 (omega (arith, low)) in
      let first = gets-enter (table_of_vector b v i) found.table (row_at count (suc k) b) r (inner_of x) k here inner in
      let one : Gets (read i) r (tree_visits x) (suc k) = record { all = first.all; found = first.found; value = first.value; few = omega (arith, first.few, inner_visits x); flat = omega (arith, first.flat) } in
      let others : (j : ℕ) (ps : List Piece) → slice_get (trees_pieces ids xs) j ≡ Some ps → in_order 0 ps ≡ true → IsTableAt b (table_of_vector b v (i + 1 + j)) ps =
      λ j ps got order. subst (λ (q : ℕ). IsTableAt b (table_of_vector b v q) ps) (omega arith) (each (suc j) ps got order) in
      let rest = trees_gets ids b v (suc k) xs (i + 1) others few both.1 h.1 (omega (arith, low)) in
      let both_of : Gets (each_from read (length (trees_pieces ids xs)) (i + 1) >>= (λ ys. pure (r ∷ ys))) (r ∷ rs) (trees_visits xs + 0) (suc k) =
      gets-bind (each_from read (length (trees_pieces ids xs)) (i + 1)) (λ ys. pure (r ∷ ys)) rs (r ∷ rs) (trees_visits xs) 0 (suc k) rest (gets-pure (r ∷ rs) 0 (suc k)) in
      let whole = gets-bind (read i) (λ z. each_from read (length (trees_pieces ids xs)) (i + 1) >>= (λ ys. pure (z ∷ ys))) r (r ∷ rs) (tree_visits x) (trees_visits xs + 0) (suc k) one both_of in
      record { all = whole.all; found = whole.found; value = whole.value; few = omega (arith, whole.few); flat = whole.flat }

-- ---- kinds

kind_named : (k : LayoutKind) → kind_of_id (kind_id k) ≡ Some k
kind_named Flat = refl
kind_named Chunked = refl
kind_named Struct = refl

same_bytes : (x y : List ℕ) → bytes_eq x y ≡ true → x ≡ y
same_bytes x y e = (bytes_eq-Decides x y).0 e

kind_found : (ids : List (List ℕ)) (k : LayoutKind) → has_id ids (kind_id k) ≡ true → kind_at (map kind_of_id ids) (place_in ids (kind_id k)) ≡ Some k
kind_found [] k h = absurd cc
kind_found (x ∷ xs) k h = by (bytes_eq x (kind_id k)) refl h (λ rest. kind_found xs k rest)
  where
    by : (b : Bool) → bytes_eq x (kind_id k) ≡ b → (b || has_id xs (kind_id k)) ≡ true
        → (has_id xs (kind_id k) ≡ true → kind_at (map kind_of_id xs) (place_in xs (kind_id k)) ≡ Some k)
        → kind_at (map kind_of_id (x ∷ xs)) (cond b 0 (1 + place_in xs (kind_id k))) ≡ Some k
    by true e h rest = ap kind_of_id (same_bytes x (kind_id k) e) ∙ kind_named k
    by false e h rest =
        let next : 1 + place_in xs (kind_id k) ≡ suc (place_in xs (kind_id k)) = omega arith in
        ap (kind_at (map kind_of_id (x ∷ xs))) next ∙ rest h

mutual
  unfolding row_of rows_of

  tree_known : (ids : List (List ℕ)) (x : LayoutTree) → uses_ids ids x ≡ true → row_known (map kind_of_id ids) (row_of ids x) ≡ true
  tree_known ids (node k d n s ts) used =
      let parts = and_parts (has_id ids (kind_id k)) (all_use ids ts) used in
      rw (kind_found ids k parts.0) (trees_known ids ts parts.1)

  trees_known : (ids : List (List ℕ)) (xs : Layouts) → all_use ids xs ≡ true → rows_known (map kind_of_id ids) (rows_list (rows_of ids xs)) ≡ true
  trees_known ids no_layouts used = refl
  trees_known ids (a_layout x xs) used =
      let parts = and_parts (uses_ids ids x) (all_use ids xs) used in
      rw (tree_known ids x parts.0) (trees_known ids xs parts.1)

-- ---- the fit

count_is : (ids : List (List ℕ)) (ts : Layouts) → rows_count (rows_list (rows_of ids ts)) ≡ length (list_of ts)
unfolding rows_of
count_is ids no_layouts = refl
count_is ids (a_layout t ts) = ap suc (count_is ids ts)

pub list_again : (ts : Layouts) → layouts_of (list_of ts) ≡ ts
list_again no_layouts = refl
list_again (a_layout t ts) = ap (a_layout t) (list_again ts)

mutual
  unfolding row_of rows_of

  fit_again : (ids : List (List ℕ)) (x : LayoutTree) → uses_ids ids x ≡ true → IsLaid x → fit (map kind_of_id ids) (row_of ids x) (dtype_of x) ≡ Some x
  fit_again ids (node k d n s ts) used h =
      let parts = and_parts (has_id ids (kind_id k)) (all_use ids ts) used in
      let dtypes : child_dtypes k d (rows_count (rows_list (rows_of ids ts))) ≡ Some (map dtype_of (list_of ts)) = ap (child_dtypes k d) (count_is ids ts) ∙ h.0.fits.dtypes in
      rw (kind_found ids k parts.0, dtypes, fit_all ids ts parts.1 h.1, h.0.fits.shape, list_again ts) refl

  fit_all : (ids : List (List ℕ)) (xs : Layouts) → all_use ids xs ≡ true → AreLaid xs
      → fit_each (map kind_of_id ids) (rows_list (rows_of ids xs)) (Some (map dtype_of (list_of xs))) ≡ Some (list_of xs)
  fit_all ids no_layouts used h = refl
  fit_all ids (a_layout x xs) used h =
      let parts = and_parts (uses_ids ids x) (all_use ids xs) used in
      rw (fit_again ids x parts.0 h.0, fit_all ids xs parts.1 h.1) refl

-- ---- the whole

row_back : (x : LayoutTree) → IsLaid x → tree_levels x ≤ 64 → tree_visits x ≤ 1000000 → length (root_bytes (tree_pieces (used_ids x) x)) < 2 ^ 32
    → allowed (layout_table (length (used_ids x)) (root_bytes (tree_pieces (used_ids x) x))) ≡ Some (row_of (used_ids x) x)
unfolding layout_table
row_back x h deep few short =
    let ids = used_ids x in
    let ps = tree_pieces ids x in
    let b = root_bytes ps in
    let r = root_read ps (tree_order ids x) short in
    let inner = tree_gets ids b r.table 63 x r.stands (few_ids x) (all_used x) h deep in
    gets-allowed _ (row_of ids x) (inner_of x + 1) 64 (gets-enter (root b) r.table (row_at (length ids) 64 b) (row_of ids x) (inner_of x) 63 r.found inner) (omega (arith, few, inner_visits x)) (omega arith)

pub layout_again : (x : LayoutTree) → IsLaid x → tree_levels x ≤ 64 → tree_visits x ≤ 1000000 → length (root_bytes (tree_pieces (used_ids x) x)) < 2 ^ 32
    → layout_checks (used_ids x) (dtype_of x) (root_bytes (tree_pieces (used_ids x) x)) ≡ Ok x
unfolding layout_checks
layout_again x h deep few short = rw (row_back x h deep few short, tree_known (used_ids x) x (all_used x), fit_again (used_ids x) x (all_used x) h) refl
