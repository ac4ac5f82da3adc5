-- A written postscript is short: how long its pieces are.
use Rattle.std.proofs.Common.{◌≡◌, ℕ, ◌+◌, ◌*◌, ◌≤◌, ◌<◌, true, false, List, [], ◌∷◌, ◌++◌, length, map, take, drop, get_or, Option, Some, None, refl, sym, ap, subst, ◌∙◌, arith, add-one, drop-cons, length-append}
use Rattle.std.specs.Prelude.{◌==◌, sum_by, Result, Ok, Err}
use Rattle.std.proofs.lemmas.List.{take_more, take_all, drop_all}
use Rattle.std.proofs.lemmas.List.Sums.{sum_by-cons, sum_by-append, sum_by_push}
use Rattle.vx_tables.specs.Block.{Piece, text, table, tables, u32_bytes, fixed_size, fixed_len, tail, cells, body, block, vtable, vtable_size, slot_count, in_order, root_bytes}
use Rattle.std.specs.List.{flat_map}
use Rattle.vx_tables.proofs.Parts.{tail_size, length-cells, length-tails}
use Rattle.vx_tables.proofs.ReadBack.{length-vtable}
use Rattle.vx_footer.specs.declared.version.FileVersion.{FileVersion}
use Rattle.vx_footer.specs.declared.postscript.Postscript.{Postscript}
use Rattle.vx_footer.specs.declared.postscript.PostscriptSegment.{PostscriptSegment}
use Rattle.vx_footer.specs.declared.postscript.PostscriptMetadata.{PostscriptMetadata}
use Rattle.vx_footer.specs.Footers.{entries_size}
use Rattle.vx_footer.specs.Serialized.{place_pieces}
use Rattle.vx_footer.specs.PostscriptWritten.{locator_pieces, entry_pieces, metadata_pieces, postscript_pieces, key_checks, keys_checks, FailsToWrite}
use Rattle.vx_base.specs.Checks.{◌>>=◌, Gives}
use Rattle.vx_footer.specs.declared.write_error.WriteError.{WriteError}
use Rattle.vx_footer.specs.declared.write_error.WriteError.TheVariants.{TooManyMetadata, EmptyKey, LongKey, NotPermitted, TooDeep, TooManyTables, ChunkDType, RowsOverflow, ChunkFault, SegmentTooLong, TooManySegments, OffsetOverflow, WriteFault, WriterFailed, DuplicateKey, OutOfMemory}

-- ---- slots

pub slots_1 : (d : Option PostscriptSegment) → slot_count (locator_pieces 0 d) ≤ 1
slots_1 None = omega arith
slots_1 (Some d) = omega arith

pub slots_2 : (d : Option PostscriptSegment) (l : PostscriptSegment) → slot_count (locator_pieces 0 d ++ table 1 (place_pieces l) ∷ []) ≤ 2
slots_2 None l = omega arith
slots_2 (Some d) l = omega arith

pub slots_3 : (d : Option PostscriptSegment) (l : PostscriptSegment) (s : Option PostscriptSegment) → slot_count ((locator_pieces 0 d ++ table 1 (place_pieces l) ∷ []) ++ locator_pieces 2 s) ≤ 3
slots_3 None l None = omega arith
slots_3 None l (Some s) = omega arith
slots_3 (Some d) l None = omega arith
slots_3 (Some d) l (Some s) = omega arith

pub slots_4 : (d : Option PostscriptSegment) (l : PostscriptSegment) (s : Option PostscriptSegment) (f : PostscriptSegment) → slot_count (((locator_pieces 0 d ++ table 1 (place_pieces l) ∷ []) ++ locator_pieces 2 s) ++ table 3 (place_pieces f) ∷ []) ≤ 4
slots_4 None l None f = omega arith
slots_4 None l (Some s) f = omega arith
slots_4 (Some d) l None f = omega arith
slots_4 (Some d) l (Some s) f = omega arith

pub ruleset slots_of = (slots_1, slots_2, slots_3, slots_4)

pub some_metadata : (ms : List PostscriptMetadata) → (length ms == 0) ≡ false → metadata_pieces ms ≡ tables 4 (map entry_pieces ms) ∷ []
some_metadata [] some = cc
some_metadata (m ∷ ms) some = refl

-- the pieces of a postscript by its parts
abbrev pub pieces_by : Option PostscriptSegment → PostscriptSegment → Option PostscriptSegment → PostscriptSegment → List PostscriptMetadata → List Piece
pieces_by d l s f ms = (((locator_pieces 0 d ++ table 1 (place_pieces l) ∷ []) ++ locator_pieces 2 s) ++ table 3 (place_pieces f) ∷ []) ++ metadata_pieces ms

pub order_by : (d : Option PostscriptSegment) (l : PostscriptSegment) (s : Option PostscriptSegment) (f : PostscriptSegment) (ms : List PostscriptMetadata) → in_order 0 (pieces_by d l s f ms) ≡ true
order_by None l None f [] = refl
order_by None l None f (m ∷ ms) = refl
order_by None l (Some s) f [] = refl
order_by None l (Some s) f (m ∷ ms) = refl
order_by (Some d) l None f [] = refl
order_by (Some d) l None f (m ∷ ms) = refl
order_by (Some d) l (Some s) f [] = refl
order_by (Some d) l (Some s) f (m ∷ ms) = refl

slots_by : (d : Option PostscriptSegment) (l : PostscriptSegment) (s : Option PostscriptSegment) (f : PostscriptSegment) (ms : List PostscriptMetadata) → slot_count (pieces_by d l s f ms) ≤ 5
slots_by None l None f [] = omega arith
slots_by None l None f (m ∷ ms) = omega arith
slots_by None l (Some s) f [] = omega arith
slots_by None l (Some s) f (m ∷ ms) = omega arith
slots_by (Some d) l None f [] = omega arith
slots_by (Some d) l None f (m ∷ ms) = omega arith
slots_by (Some d) l (Some s) f [] = omega arith
slots_by (Some d) l (Some s) f (m ∷ ms) = omega arith

-- ---- lengths

-- what pieces take in the fixed part and behind it
cost : List Piece → ℕ
cost ps = sum_by fixed_size ps + sum_by tail_size ps

cost-append : (xs ys : List Piece) → cost (xs ++ ys) ≡ cost xs + cost ys
unfolding cost
cost-append xs ys = omega (arith, sum_by-append fixed_size xs ys, sum_by-append tail_size xs ys)

length-body : (ps : List Piece) → length (body ps) ≡ cost ps
unfolding cost
length-body ps = omega (arith, length-append (cells 4 (fixed_len ps) ps) (flat_map tail ps), length-cells 4 (fixed_len ps) ps, length-tails ps)

length-block : (ps : List Piece) → in_order 0 ps ≡ true → length (block ps) ≡ vtable_size ps + 4 + cost ps
length-block ps order =
    omega (arith, length-append (vtable ps ++ u32_bytes (vtable_size ps)) (body ps), length-append (vtable ps) (u32_bytes (vtable_size ps)), length-vtable ps order, length-body ps)

place_cost : (k : ℕ) (s : PostscriptSegment) → cost (table k (place_pieces s) ∷ []) ≡ 31
unfolding cost
place_cost k s = refl

locator_cost : (k : ℕ) (s : Option PostscriptSegment) → cost (locator_pieces k s) ≤ 31
unfolding cost
locator_cost k None = omega arith
locator_cost k (Some s) = omega (arith, place_cost k s)

entry_block : (m : PostscriptMetadata) → length (block (entry_pieces m)) ≡ 52 + length m.key
unfolding cost entry_pieces
entry_block m =
    let ps = entry_pieces m in
    let first = text 0 m.key in
    let second = table 1 (place_pieces m.segment) in
    let key : tail_size first ≡ 5 + length m.key = omega (arith, length-append m.key (0 ∷ [])) in
    omega (arith, length-block ps refl, key, sum_by-cons fixed_size first (second ∷ []), sum_by-cons tail_size first (second ∷ []), place_cost 1 m.segment)

entries_cost : (ms : List PostscriptMetadata) → cost (map (table 0) (map entry_pieces ms)) ≡ entries_size ms + 40 * length ms
unfolding cost
entries_cost [] = refl
entries_cost (m ∷ ms) =
    let p = table 0 (entry_pieces m) in
    let ps = map (table 0) (map entry_pieces ms) in
    omega (arith, sum_by-cons fixed_size p ps, sum_by-cons tail_size p ps, entry_block m, entries_cost ms, sum_by-cons (λ (n : PostscriptMetadata). 16 + length n.key) m ms)

metadata_cost : (ms : List PostscriptMetadata) → cost (metadata_pieces ms) ≤ 8 + entries_size ms + 40 * length ms
unfolding cost
metadata_cost [] = omega arith
metadata_cost (m ∷ ms) =
    let ws = map entry_pieces (m ∷ ms) in
    let qs = map (table 0) ws in
    let size : tail_size (tables 4 ws) ≡ 4 + length (body qs) = omega (arith, length-append (u32_bytes (length qs)) (body qs)) in
    omega (arith, size, length-body qs, entries_cost (m ∷ ms), sum_by-cons fixed_size (tables 4 ws) [], sum_by-cons tail_size (tables 4 ws) [])

root_by : (d : Option PostscriptSegment) (l : PostscriptSegment) (s : Option PostscriptSegment) (f : PostscriptSegment) (ms : List PostscriptMetadata)
    → length (root_bytes (pieces_by d l s f ms)) ≤ 154 + entries_size ms + 40 * length ms
root_by d l s f ms =
    let a = locator_pieces 0 d in
    let b = table 1 (place_pieces l) ∷ [] in
    let c = locator_pieces 2 s in
    let e = table 3 (place_pieces f) ∷ [] in
    let g = metadata_pieces ms in
    omega (
      arith,
      length-block (pieces_by d l s f ms) (order_by d l s f ms),
      slots_by d l s f ms,
      cost-append (((a ++ b) ++ c) ++ e) g,
      cost-append ((a ++ b) ++ c) e,
      cost-append (a ++ b) c,
      cost-append a b,
      locator_cost 0 d,
      place_cost 1 l,
      locator_cost 2 s,
      place_cost 3 f,
      metadata_cost ms,
    )

pub root_is_short : (p : Postscript) → length p.metadata ≤ 64 → entries_size p.metadata ≤ 17408 → length (root_bytes (postscript_pieces p)) ≤ 20122
root_is_short p few small = omega (arith, few, small, root_by p.dtype p.layout p.statistics p.footer p.metadata)

-- ---- entries and keys, one after the other

next : (ms : List PostscriptMetadata) (i : ℕ) (m : PostscriptMetadata) → i < length ms → m ≡ get_or ms i m → drop i ms ≡ m ∷ drop (i + 1) ms
next ms i m lt is = rw (add-one, drop-cons ms i m, ← is) refl

pub next_pieces : (ms : List PostscriptMetadata) (i : ℕ) (m : PostscriptMetadata) → i < length ms → m ≡ get_or ms i m → map entry_pieces (drop i ms) ≡ entry_pieces m ∷ map entry_pieces (drop (i + 1) ms)
next_pieces ms i m lt is = ap (map entry_pieces) (next ms i m lt is)

more : (ms : List PostscriptMetadata) (i : ℕ) (m : PostscriptMetadata) → i < length ms → m ≡ get_or ms i m → take (i + 1) ms ≡ take i ms ++ m ∷ []
more ms i m lt is = take_more ms i m lt ∙ ap (λ n. take i ms ++ n ∷ []) (sym is)

pub next_keys : (version : FileVersion) (ms : List PostscriptMetadata) (i : ℕ) (m : PostscriptMetadata) → i < length ms → m ≡ get_or ms i m
    → keys_checks version (take i ms) (drop i ms) ≡ (key_checks version (take i ms) m.key >>= λ _. keys_checks version (take (i + 1) ms) (drop (i + 1) ms))
unfolding keys_checks
next_keys version ms i m lt is =
    ap (keys_checks version (take i ms)) (next ms i m lt is) ∙ ap (λ seen. key_checks version (take i ms) m.key >>= λ _. keys_checks version seen (drop (i + 1) ms)) (sym (more ms i m lt is))

pub next_size : (ms : List PostscriptMetadata) (i : ℕ) (m : PostscriptMetadata) → i < length ms → m ≡ get_or ms i m → entries_size (take (i + 1) ms) ≡ entries_size (take i ms) + (16 + length m.key)
next_size ms i m lt is = ap entries_size (more ms i m lt is) ∙ sum_by_push (λ (n : PostscriptMetadata). 16 + length n.key) (take i ms) m

pub no_keys : (version : FileVersion) (ms : List PostscriptMetadata) (i : ℕ) → length ms ≤ i → keys_checks version (take i ms) (drop i ms) ≡ Ok tt
unfolding keys_checks
no_keys version ms i le = ap (keys_checks version (take i ms)) (drop_all i ms le)

pub whole_size : (ms : List PostscriptMetadata) (i : ℕ) → length ms ≤ i → entries_size (take i ms) ≡ entries_size ms
whole_size ms i le = ap entries_size (take_all i ms le)

pub ruleset key_ends = (no_keys, whole_size)

fails_more : {A B : Type 0} (e : WriteError) (r : Result A WriteError) (f : A → Result B WriteError) → FailsToWrite e r → FailsToWrite e (r >>= f)
fails_more OutOfMemory r f h = tt
fails_more TooManyMetadata r f h = rw h refl
fails_more EmptyKey r f h = rw h refl
fails_more LongKey r f h = rw h refl
fails_more NotPermitted r f h = rw h refl
fails_more TooDeep r f h = rw h refl
fails_more TooManyTables r f h = rw h refl
fails_more ChunkDType r f h = rw h refl
fails_more RowsOverflow r f h = rw h refl
fails_more ChunkFault r f h = rw h refl
fails_more SegmentTooLong r f h = rw h refl
fails_more TooManySegments r f h = rw h refl
fails_more OffsetOverflow r f h = rw h refl
fails_more WriteFault r f h = rw h refl
fails_more WriterFailed r f h = rw h refl
fails_more DuplicateKey r f h = rw h refl

-- a key that fails
pub keys_fail : (version : FileVersion) (es : List PostscriptMetadata) (i : ℕ) (m : PostscriptMetadata) (earlier : List PostscriptMetadata) (key : List ℕ) (e : WriteError) (r : Result (Unit {0}) WriteError)
    → i < length es → m ≡ get_or es i m → earlier ≡ take i es → key ≡ m.key → FailsToWrite e (key_checks version earlier key)
    → keys_checks version (take i es) (drop i es) ≡ keys_checks version [] es → r ≡ Err e → Gives FailsToWrite (λ x. x) r (keys_checks version [] es)
keys_fail version es i m earlier key e r lt is front name fails same err =
    let here : key_checks version earlier key ≡ key_checks version (take i es) m.key = ap (λ x. key_checks version x key) front ∙ ap (key_checks version (take i es)) name in
    let first : FailsToWrite e (key_checks version (take i es) m.key) = subst (λ x. FailsToWrite e x) here fails in
    let longer = fails_more e (key_checks version (take i es) m.key) (λ _. keys_checks version (take (i + 1) es) (drop (i + 1) es)) first in
    let whole : FailsToWrite e (keys_checks version [] es) = subst (λ x. FailsToWrite e x) (sym (next_keys version es i m lt is) ∙ same) longer in
    subst (λ x. Gives FailsToWrite (λ y. y) x (keys_checks version [] es)) (sym err) whole

-- and one that passes
pub keys_go : (version : FileVersion) (es : List PostscriptMetadata) (i : ℕ) (m : PostscriptMetadata) (earlier : List PostscriptMetadata) (key : List ℕ) (x : Unit {0})
    → i < length es → m ≡ get_or es i m → earlier ≡ take i es → key ≡ m.key → key_checks version earlier key ≡ Ok x
    → keys_checks version (take i es) (drop i es) ≡ keys_checks version [] es → length key ≤ 256 → entries_size (take i es) ≤ 272 * i
    → (keys_checks version (take (i + 1) es) (drop (i + 1) es) ≡ keys_checks version [] es) × (entries_size (take (i + 1) es) ≤ 272 * (i + 1))
keys_go version es i m earlier key x lt is front name passes same short small =
    let rest = keys_checks version (take (i + 1) es) (drop (i + 1) es) in
    let here : key_checks version (take i es) m.key ≡ Ok x = ap (λ n. key_checks version (take i es) n) (sym name) ∙ ap (λ y. key_checks version y key) (sym front) ∙ passes in
    let step : keys_checks version (take i es) (drop i es) ≡ rest = next_keys version es i m lt is ∙ ap (λ r. r >>= λ _. rest) here in
    (sym step ∙ same, omega (arith, next_size es i m lt is, ap length name, short, small))
