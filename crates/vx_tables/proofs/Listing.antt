-- Tables that are listed are the vector of them.
use Rattle.std.proofs.Common.{◌≡◌, ℕ, suc, ◌+◌, ◌-◌, ◌*◌, ◌==◌, List, [], ◌∷◌, ◌++◌, length, map, refl, ap, sym, ◌∙◌, arith, append_assoc}
use Rattle.std.specs.List.{flat_map, fold}
use Rattle.std.specs.Prelude.{sum_by}
use Rattle.vx_tables.specs.Block.{Piece, u32_bytes, fixed_size, fixed_len, tail, cells, body, vtable_size, block, counted_block, table, leads_from, listed, offsets, listed_block}

-- each offset takes four bytes
fixed-from : (n : ℕ) (ws : List (List Piece)) → fold (λ a (p : Piece). a + fixed_size p) n (map (table 0) ws) ≡ n + 4 * length ws
fixed-from n [] = let z : n ≡ n + 4 * 0 = omega arith in z
fixed-from n (w ∷ ws) = let z : n + 4 + 4 * length ws ≡ n + 4 * suc (length ws) = omega arith in fixed-from (n + 4) ws ∙ z

fixed-sizes : (ws : List (List Piece)) → sum_by fixed_size (map (table 0) ws) ≡ 4 * length ws
fixed-sizes ws = let z : 0 + 4 * length ws ≡ 4 * length ws = omega arith in fixed-from 0 ws ∙ z

leads-long : (behind : ℕ) (ws : List (List Piece)) → length (leads_from behind ws) ≡ length ws
leads-long behind [] = refl
leads-long behind (w ∷ ws) = ap suc (leads-long (behind + length (block w)) ws)

-- the cells of tables are their offsets
cells-are : (at fixed behind : ℕ) (ws : List (List Piece)) → cells at (fixed + behind) (map (table 0) ws) ≡ offsets at fixed (leads_from behind ws)
cells-are at fixed behind [] = refl
cells-are at fixed behind (w ∷ ws) =
    let e : fixed + behind + vtable_size w ≡ fixed + (behind + vtable_size w) = omega arith in
    let f : fixed + behind + length (block w) ≡ fixed + (behind + length (block w)) = omega arith in
    ap (λ n. u32_bytes (n - at) ++ cells (at + 4) (fixed + behind + length (block w)) (map (table 0) ws)) e
    ∙ ap (λ xs. u32_bytes (fixed + (behind + vtable_size w) - at) ++ xs)
    (ap (λ n. cells (at + 4) n (map (table 0) ws)) f ∙ cells-are (at + 4) fixed (behind + length (block w)) ws)

-- their blocks are behind them
tails-are : (ws : List (List Piece)) → flat_map tail (map (table 0) ws) ≡ flat_map block ws
tails-are [] = refl
tails-are (w ∷ ws) = ap (λ xs. block w ++ xs) (tails-are ws)

pub listed_vector : (ws : List (List Piece)) → listed_block (listed ws) ≡ counted_block (length (map (table 0) ws)) (body (map (table 0) ws))
listed_vector ws =
    let count : length (map (table 0) ws) ≡ length (leads_from 0 ws) = length-map ws ∙ sym (leads-long 0 ws) in
    let fixed : fixed_len (map (table 0) ws) ≡ 4 + 4 * length (leads_from 0 ws) = ap (λ n. 4 + n) (fixed-sizes ws ∙ ap (λ n. 4 * n) (sym (leads-long 0 ws))) in
    let z : fixed_len (map (table 0) ws) ≡ fixed_len (map (table 0) ws) + 0 = omega arith in
    sym (ap (λ n. counted_block n (body (map (table 0) ws))) count
    ∙ ap (λ xs. counted_block (length (leads_from 0 ws)) (xs ++ flat_map tail (map (table 0) ws)))
    (ap (λ n. cells 4 n (map (table 0) ws)) z ∙ cells-are 4 (fixed_len (map (table 0) ws)) 0 ws ∙ ap (λ n. offsets 4 n (leads_from 0 ws)) fixed)
    ∙ ap (λ xs. counted_block (length (leads_from 0 ws)) (offsets 4 (4 + 4 * length (leads_from 0 ws)) (leads_from 0 ws) ++ xs)) (tails-are ws))
  where
    length-map : (vs : List (List Piece)) → length (map (table 0) vs) ≡ length vs
    length-map [] = refl
    length-map (v ∷ vs) = ap suc (length-map vs)

-- one more behind the others
leads-more : (behind : ℕ) (ws : List (List Piece)) (w : List Piece)
    → leads_from behind (ws ++ w ∷ []) ≡ leads_from behind ws ++ (behind + length (flat_map block ws) + vtable_size w) ∷ []
leads-more behind [] w = let e : behind + vtable_size w ≡ behind + 0 + vtable_size w = omega arith in ap (λ n. n ∷ []) e
leads-more behind (v ∷ ws) w =
    let e : behind + length (block v) + length (flat_map block ws) + vtable_size w ≡ behind + length (block v ++ flat_map block ws) + vtable_size w =
    ap (λ n. n + vtable_size w) (add-assoc ∙ ap (λ n. behind + n) (sym (length-append (block v) (flat_map block ws)))) in
    ap (λ xs. (behind + vtable_size v) ∷ xs) (leads-more (behind + length (block v)) ws w ∙ ap (λ n. leads_from (behind + length (block v)) ws ++ n ∷ []) e)
  where
    add-assoc : behind + length (block v) + length (flat_map block ws) ≡ behind + (length (block v) + length (flat_map block ws))
    add-assoc = omega arith

    length-append : (xs ys : List ℕ) → length (xs ++ ys) ≡ length xs + length ys
    length-append [] ys = let z : length ys ≡ 0 + length ys = omega arith in z
    length-append (x ∷ xs) ys = let z : suc (length xs + length ys) ≡ suc (length xs) + length ys = omega arith in ap suc (length-append xs ys) ∙ z

blocks-more : (ws : List (List Piece)) (w : List Piece) → flat_map block (ws ++ w ∷ []) ≡ flat_map block ws ++ block w
blocks-more [] w = nil (block w)
  where
    nil : (xs : List ℕ) → xs ++ [] ≡ xs
    nil [] = refl
    nil (x ∷ xs) = ap (λ ys. x ∷ ys) (nil xs)
blocks-more (v ∷ ws) w = ap (λ xs. block v ++ xs) (blocks-more ws w) ∙ sym (append_assoc (block v) (flat_map block ws) (block w))

pub listed_more : (ws : List (List Piece)) (w : List Piece)
    → listed (ws ++ w ∷ []) ≡ record { leads = leads_from 0 ws ++ (length (flat_map block ws) + vtable_size w) ∷ []; bytes = flat_map block ws ++ block w }
listed_more ws w =
    let z : 0 + length (flat_map block ws) + vtable_size w ≡ length (flat_map block ws) + vtable_size w = omega arith in
    ap (λ leads. record { leads = leads; bytes = flat_map block (ws ++ w ∷ []) }) (leads-more 0 ws w ∙ ap (λ n. leads_from 0 ws ++ n ∷ []) z)
    ∙ ap (λ bytes. record { leads = leads_from 0 ws ++ (length (flat_map block ws) + vtable_size w) ∷ []; bytes = bytes }) (blocks-more ws w)

pub none_listed : (ws : List (List Piece)) → (length (leads_from 0 ws) == 0) ≡ (length ws == 0)
none_listed ws = ap (λ n. n == 0) (leads-long 0 ws)
