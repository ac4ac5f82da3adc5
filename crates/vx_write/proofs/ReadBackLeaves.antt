-- The rows that leaves hold, push after push: those of their chunks, and behind them those that fill no chunk.
use Rattle.std.proofs.Common.{◌≡◌, ℕ, ◌+◌, Bool, true, false, List, [], ◌∷◌, ◌++◌, length, map, Option, refl, sym, ap, subst, ◌∙◌, arith, append_assoc}
use Rattle.std.specs.Prelude.{◌==◌, replicate, if◌then◌else◌}
use Rattle.std.specs.List.{All, AllByRecursion}
use Rattle.std.proofs.lemmas.Bool.{eqb-true}
use Rattle.std.proofs.lemmas.List.{append-nil}
use Rattle.std.proofs.lemmas.List.Elements.{All-head, All-tail, recursion_from_All}
use Rattle.vx_data.specs.Dtype.{Dtype}
use Rattle.vx_rows.specs.Parts.{appended}
use Rattle.vx_rows.specs.ReadRows.{no_rows}
use Rattle.vx_rows.specs.Rows.{Rows, rows_len, dtype_of, HasRows, IsColumn}
use Rattle.vx_rows.proofs.ColumnLaws.{appended_type, part_type, column_rows}
use Rattle.vx_write.specs.declared.laid_chunk.Numbered.{Numbered}
use Rattle.vx_write.specs.declared.strategy.LeafStrategy.{LeafStrategy}
use Rattle.vx_write.specs.declared.strategy.LeafStrategy.TheVariants.{Whole, Blocks}
use Rattle.vx_write.specs.Cutting.{cut, full_chunks, rest, last_chunk, joined}
use Rattle.vx_write.specs.Laying.{Groups, grouped, IsLeaf, AreLeaves}
use Rattle.vx_write.specs.Leaves.{Leaf, ChunkRows, chunks_at, filled, filled_from, grown, grown_leaf, rests, rests_from, leaf_types, column_types, IsOfType}
use Rattle.vx_write.specs.Placed.{Place, with_chunks}
use Rattle.vx_write.specs.Sending.{Coding, encoded_chunks}
use Rattle.vx_write.proofs.CutLaws.{all_rows}
use Rattle.vx_write.proofs.LeafLemmas.{full_typed}
use Rattle.vx_write.proofs.SumsLemmas.{puts, laid-groups, puts-both, put-front, snoc, snoc-length, first-of, rest-of, both-even, own-even}
use Rattle.vx_write.proofs.ReadBackColumns.{appended_behind, none_behind, has_none, zipped}
use Rattle.vx_write.proofs.ReadBackPlaces.{AllRead}
use Rattle.vx_write.proofs.ReadBackRows.{IsChunkRead, AreChunksRead, IsLeafRead, AreLeavesRead}

abbrev Bytes : Type 0
Bytes = ℕ → Option (List ℕ)

-- ---- the chunks of a leaf, as they are numbered

numbered : ℕ → List Rows → List Numbered
numbered k [] = []
numbered k (c ∷ cs) = record { rows = rows_len c; segment = k } ∷ numbered (k + 1) cs

put_all : (k : ℕ) (cs : List Rows) (front : Groups) (g : List Numbered) (gs : Groups) → puts k (chunks_at (length front) cs) (front ++ g ∷ gs) ≡ front ++ (g ++ numbered k cs) ∷ gs
unfolding numbered
put_all k [] front g gs = ap (λ h. front ++ h ∷ gs) (sym (append-nil g))
put_all k (c ∷ cs) front g gs =
    let x : Numbered = record { rows = rows_len c; segment = k } in
    ap (λ hs. puts (k + 1) (chunks_at (length front) cs) hs) (put-front front g gs x) ∙ put_all (k + 1) cs front (g ++ x ∷ []) gs ∙ ap (λ h. front ++ h ∷ gs) (append_assoc g (x ∷ []) (numbered (k + 1) cs))

-- all chunks are read, and so are the first and the others
read_front : (bytes : Bytes) (k : Coding) (n : ℕ) (xs ys : List ChunkRows) → AllRead bytes k n (xs ++ ys) → AllRead bytes k n xs
read_front bytes k n [] ys h = tt
read_front bytes k n (x ∷ xs) ys h = (h.0, read_front bytes k (n + 1) xs ys h.1)

read_behind : (bytes : Bytes) (k : Coding) (n : ℕ) (xs ys : List ChunkRows) → AllRead bytes k n (xs ++ ys) → AllRead bytes k (n + length xs) ys
read_behind bytes k n [] ys h = subst (λ m. AllRead bytes k m ys) (omega arith) h
read_behind bytes k n (x ∷ xs) ys h = subst (λ m. AllRead bytes k m ys) (omega arith) (read_behind bytes k (n + 1) xs ys h.1)

chunks_read : (bytes : Bytes) (k : Coding) (d : Dtype) (n place : ℕ) (cs : List Rows) → AllRead bytes k n (chunks_at place cs) → AllByRecursion (IsOfType d) cs → AreChunksRead bytes k.ids d (numbered n cs) cs
unfolding numbered
chunks_read bytes k d n place [] h typed = tt
chunks_read bytes k d n place (c ∷ cs) h typed =
    let one : IsChunkRead bytes k.ids d (record { rows = rows_len c; segment = n }) c = record {
      rows = refl;
      found = h.0.found;
      permitted = h.0.permitted;
      short = h.0.short;
      typed = typed.0.typed;
      even = typed.0.sound;
    } in
    (one, chunks_read bytes k d (n + 1) place cs h.1 typed.1)

read_both : (bytes : Bytes) (ids : List (List ℕ)) (d : Dtype) (xs ys : List Numbered) (cs ds : List Rows) → AreChunksRead bytes ids d xs cs → AreChunksRead bytes ids d ys ds → AreChunksRead bytes ids d (xs ++ ys) (cs ++ ds)
read_both bytes ids d [] ys [] ds h k = k
read_both bytes ids d [] ys (c ∷ cs) ds h k = absurd h
read_both bytes ids d (x ∷ xs) ys [] ds h k = absurd h
read_both bytes ids d (x ∷ xs) ys (c ∷ cs) ds h k = (h.0, read_both bytes ids d xs ys cs ds h.1 k)

-- ---- joined chunks

joined_both : (cs ds : List Rows) (c : Rows) → joined (cs ++ ds) c ≡ joined cs (joined ds c)
joined_both [] ds c = refl
joined_both (x ∷ cs) ds c = ap (appended x) (joined_both cs ds c)

joined_type : (bytes : Bytes) (ids : List (List ℕ)) (d : Dtype) (xs : List Numbered) (cs : List Rows) (r : Rows) → AreChunksRead bytes ids d xs cs → dtype_of r ≡ d → dtype_of (joined cs r) ≡ d
joined_type bytes ids d xs [] r h t = t
joined_type bytes ids d [] (c ∷ cs) r h t = absurd h
joined_type bytes ids d (x ∷ xs) (c ∷ cs) r h t = appended_type c (joined cs r) ∙ h.0.typed

joined_behind : (bytes : Bytes) (ids : List (List ℕ)) (d : Dtype) (xs : List Numbered) (cs : List Rows) (r c : Rows) → AreChunksRead bytes ids d xs cs → dtype_of r ≡ d → dtype_of c ≡ d → joined cs (appended r c) ≡ appended (joined cs r) c
joined_behind bytes ids d xs [] r c h t u = refl
joined_behind bytes ids d [] (x ∷ cs) r c h t u = absurd h
joined_behind bytes ids d (n ∷ xs) (x ∷ cs) r c h t u =
    let more = joined_type bytes ids d xs cs r h.1 t in
    ap (appended x) (joined_behind bytes ids d xs cs r c h.1 t u) ∙ appended_behind x (joined cs r) c (h.0.typed ∙ sym more) (more ∙ sym u)

-- ---- what a leaf holds

pub record LeafHolds (bytes : ℕ → Option (List ℕ)) (ids : List (List ℕ)) (g : List Numbered) (leaf : Leaf) (all : Rows) : Type 0 where
  pub chunks : List Rows
  pub read : AreChunksRead bytes ids (dtype_of leaf.kept) g chunks
  pub whole : joined chunks leaf.kept ≡ all

abbrev pub LeavesHold : (ℕ → Option (List ℕ)) → List (List ℕ) → Groups → List Leaf → List Rows → Type 0
LeavesHold bytes ids [] [] [] = Unit {0}
LeavesHold bytes ids [] [] (c ∷ cs) = ⊥
LeavesHold bytes ids [] (leaf ∷ leaves) cs = ⊥
LeavesHold bytes ids (g ∷ gs) [] cs = ⊥
LeavesHold bytes ids (g ∷ gs) (leaf ∷ leaves) [] = ⊥
LeavesHold bytes ids (g ∷ gs) (leaf ∷ leaves) (c ∷ cs) = LeafHolds bytes ids g leaf c × LeavesHold bytes ids gs leaves cs

-- without chunks
pub none_held : (bytes : ℕ → Option (List ℕ)) (ids : List (List ℕ)) (leaves : List Leaf) → LeavesHold bytes ids (replicate (length leaves) []) leaves (map (λ (l : Leaf). l.kept) leaves)
none_held bytes ids [] = tt
none_held bytes ids (leaf ∷ leaves) = (record { chunks = []; read = tt; whole = refl }, none_held bytes ids leaves)

-- with a column more
leaf_next : (bytes : Bytes) (k : Coding) (n m place : ℕ) (g : List Numbered) (leaf : Leaf) (c all : Rows) → IsLeaf leaf → dtype_of c ≡ dtype_of leaf.kept → IsColumn m c
    → AllRead bytes k n (chunks_at place (full_chunks leaf.strategy (appended leaf.kept c))) → LeafHolds bytes k.ids g leaf all
    → LeafHolds bytes k.ids (g ++ numbered n (full_chunks leaf.strategy (appended leaf.kept c))) (grown_leaf leaf c) (appended all c)
leaf_next bytes k n m place g leaf c all sound typed even h holds =
    let d = dtype_of leaf.kept in
    let both = appended leaf.kept c in
    let full = full_chunks leaf.strategy both in
    let left = rest leaf.strategy both in
    let kept_type : dtype_of left ≡ d = part_type (cut leaf.strategy both).start (rows_len both) both ∙ appended_type leaf.kept c in
    let chunk_types = recursion_from_All (IsOfType d) full (full_typed leaf.strategy leaf.kept c sound.blocks sound.even (own-even m c even) typed) in
    let news = chunks_read bytes k d n place full h chunk_types in
    let rows = column_rows (rows_len leaf.kept + m) both (both-even leaf c m sound typed even) in
    let back : joined full left ≡ both = all_rows leaf.strategy (rows_len leaf.kept + m) both sound.blocks rows in
    record {
      chunks = holds.chunks ++ full;
      read = subst (λ (e : Dtype). AreChunksRead bytes k.ids e (g ++ numbered n full) (holds.chunks ++ full)) (sym kept_type) (read_both bytes k.ids d g (numbered n full) holds.chunks full holds.read news);
      whole = joined_both holds.chunks full left ∙ ap (joined holds.chunks) back ∙ joined_behind bytes k.ids d g holds.chunks leaf.kept c holds.read refl typed ∙ ap (λ a. appended a c) holds.whole;
    }

record Grew (bytes : Bytes) (k : Coding) (n : ℕ) (front gs : Groups) (leaves : List Leaf) (columns alls : List Rows) : Type 0 where
  groups : Groups
  is : puts n (filled_from (length front) leaves columns) (front ++ gs) ≡ front ++ groups
  holds : LeavesHold bytes k.ids groups (grown leaves columns) (zipped alls columns)

grew : (bytes : Bytes) (k : Coding) (n m : ℕ) (front gs : Groups) (leaves : List Leaf) (columns alls : List Rows) → AreLeaves leaves → column_types columns ≡ leaf_types leaves → All (IsColumn m) columns
    → AllRead bytes k n (filled_from (length front) leaves columns) → LeavesHold bytes k.ids gs leaves alls → Grew bytes k n front gs leaves columns alls
grew bytes k n m front [] [] columns [] sound typed even h holds = record { groups = []; is = refl; holds = tt }
grew bytes k n m front [] [] columns (a ∷ alls) sound typed even h holds = absurd holds
grew bytes k n m front [] (leaf ∷ leaves) columns alls sound typed even h holds = absurd holds
grew bytes k n m front (g ∷ gs) [] columns alls sound typed even h holds = absurd holds
grew bytes k n m front (g ∷ gs) (leaf ∷ leaves) columns [] sound typed even h holds = absurd holds
grew bytes k n m front (g ∷ gs) (leaf ∷ leaves) [] (a ∷ alls) sound typed even h holds = cc
grew bytes k n m front (g ∷ gs) (leaf ∷ leaves) (c ∷ cs) (a ∷ alls) sound typed even h holds =
    let first = first-of (dtype_of c) (dtype_of leaf.kept) (column_types cs) (leaf_types leaves) typed in
    let others = rest-of (dtype_of c) (dtype_of leaf.kept) (column_types cs) (leaf_types leaves) typed in
    let full = full_chunks leaf.strategy (appended leaf.kept c) in
    let olds = chunks_at (length front) full in
    let news = filled_from (length front + 1) leaves cs in
    let h_first = read_front bytes k n olds news h in
    let h_rest = read_behind bytes k n olds news h in
    let group = g ++ numbered n full in
    let place : length front + 1 ≡ length (front ++ group ∷ []) = sym (snoc-length front group) in
    let one = leaf_next bytes k n m (length front) g leaf c a sound.0 first (All-head (IsColumn m) c cs even) h_first holds.0 in
    let more = grew bytes k (n + length olds) m (front ++ group ∷ []) gs leaves cs alls sound.1 others (All-tail (IsColumn m) c cs even)
    (subst (λ p. AllRead bytes k (n + length olds) (filled_from p leaves cs)) place h_rest) holds.1 in
    record {
      groups = group ∷ more.groups;
      is = puts-both n olds news (front ++ g ∷ gs)
          ∙ ap (λ hs. puts (n + length olds) news hs) (put_all n full front g gs ∙ snoc front group gs)
          ∙ ap (λ p. puts (n + length olds) (filled_from p leaves cs) ((front ++ group ∷ []) ++ gs)) place
          ∙ more.is ∙ sym (snoc front group more.groups);
      holds = (one, more.holds);
    }

pub leaves_held : (bytes : ℕ → Option (List ℕ)) (k : Coding) (p : Place) (count m : ℕ) (leaves : List Leaf) (columns alls : List Rows) → AreLeaves leaves → column_types columns ≡ leaf_types leaves → All (IsColumn m) columns
    → AllRead bytes k (length p.laid) (filled leaves columns) → LeavesHold bytes k.ids (grouped count p.laid) leaves alls
    → LeavesHold bytes k.ids (grouped count (with_chunks p (encoded_chunks k (filled leaves columns))).laid) (grown leaves columns) (zipped alls columns)
leaves_held bytes k p count m leaves columns alls sound typed even h holds =
    let more = grew bytes k (length p.laid) m [] (grouped count p.laid) leaves columns alls sound typed even h holds in
    subst (λ gs. LeavesHold bytes k.ids gs (grown leaves columns) (zipped alls columns)) (sym (laid-groups k p count (filled leaves columns) ∙ more.is)) more.holds

-- ---- the end

last_joined : (s : LeafStrategy) (c : Rows) → IsColumn (rows_len c) c → joined (last_chunk s c) (no_rows (dtype_of c)) ≡ c
last_joined Whole c even = none_behind c
last_joined (Blocks rows target) c even = by (rows_len c == 0) refl
  where
    by : (b : Bool) → (rows_len c == 0) ≡ b → joined (if b then [] else c ∷ []) (no_rows (dtype_of c)) ≡ c
    by true e = has_none c (subst (λ (n : ℕ). HasRows n c) (eqb-true (rows_len c) 0 e) (column_rows (rows_len c) c even))
    by false e = none_behind c

last_types : (s : LeafStrategy) (c : Rows) → IsColumn (rows_len c) c → AllByRecursion (IsOfType (dtype_of c)) (last_chunk s c)
last_types Whole c even = (record { sound = even; typed = refl }, tt)
last_types (Blocks rows target) c even = by (rows_len c == 0)
  where
    by : (b : Bool) → AllByRecursion (IsOfType (dtype_of c)) (if b then [] else c ∷ [])
    by true = tt
    by false = (record { sound = even; typed = refl }, tt)

leaf_ends : (bytes : Bytes) (k : Coding) (n place : ℕ) (g : List Numbered) (leaf : Leaf) (all : Rows) → IsLeaf leaf → AllRead bytes k n (chunks_at place (last_chunk leaf.strategy leaf.kept)) → LeafHolds bytes k.ids g leaf all
    → IsLeafRead bytes k.ids (g ++ numbered n (last_chunk leaf.strategy leaf.kept)) all
leaf_ends bytes k n place g leaf all sound h holds =
    let d = dtype_of leaf.kept in
    let last = last_chunk leaf.strategy leaf.kept in
    let typed : dtype_of all ≡ d = ap dtype_of (sym holds.whole) ∙ joined_type bytes k.ids d g holds.chunks leaf.kept holds.read refl in
    let news = chunks_read bytes k d n place last h (last_types leaf.strategy leaf.kept sound.even) in
    record {
      chunks = holds.chunks ++ last;
      read = subst (λ (e : Dtype). AreChunksRead bytes k.ids e (g ++ numbered n last) (holds.chunks ++ last)) (sym typed) (read_both bytes k.ids d g (numbered n last) holds.chunks last holds.read news);
      whole = ap (λ e. joined (holds.chunks ++ last) (no_rows e)) typed ∙ joined_both holds.chunks last (no_rows d) ∙ ap (joined holds.chunks) (last_joined leaf.strategy leaf.kept sound.even) ∙ holds.whole;
    }

record Ended (bytes : Bytes) (k : Coding) (n : ℕ) (front gs : Groups) (leaves : List Leaf) (alls : List Rows) : Type 0 where
  groups : Groups
  is : puts n (rests_from (length front) leaves) (front ++ gs) ≡ front ++ groups
  read : AreLeavesRead bytes k.ids groups alls

all_end : (bytes : Bytes) (k : Coding) (n : ℕ) (front gs : Groups) (leaves : List Leaf) (alls : List Rows) → AreLeaves leaves → AllRead bytes k n (rests_from (length front) leaves) → LeavesHold bytes k.ids gs leaves alls
    → Ended bytes k n front gs leaves alls
all_end bytes k n front [] [] [] sound h holds = record { groups = []; is = refl; read = tt }
all_end bytes k n front [] [] (a ∷ alls) sound h holds = absurd holds
all_end bytes k n front [] (leaf ∷ leaves) alls sound h holds = absurd holds
all_end bytes k n front (g ∷ gs) [] alls sound h holds = absurd holds
all_end bytes k n front (g ∷ gs) (leaf ∷ leaves) [] sound h holds = absurd holds
all_end bytes k n front (g ∷ gs) (leaf ∷ leaves) (a ∷ alls) sound h holds =
    let last = last_chunk leaf.strategy leaf.kept in
    let olds = chunks_at (length front) last in
    let news = rests_from (length front + 1) leaves in
    let group = g ++ numbered n last in
    let place : length front + 1 ≡ length (front ++ group ∷ []) = sym (snoc-length front group) in
    let one = leaf_ends bytes k n (length front) g leaf a sound.0 (read_front bytes k n olds news h) holds.0 in
    let more = all_end bytes k (n + length olds) (front ++ group ∷ []) gs leaves alls sound.1 (subst (λ p. AllRead bytes k (n + length olds) (rests_from p leaves)) place (read_behind bytes k n olds news h)) holds.1 in
    record {
      groups = group ∷ more.groups;
      is = puts-both n olds news (front ++ g ∷ gs)
          ∙ ap (λ hs. puts (n + length olds) news hs) (put_all n last front g gs ∙ snoc front group gs)
          ∙ ap (λ p. puts (n + length olds) (rests_from p leaves) ((front ++ group ∷ []) ++ gs)) place
          ∙ more.is ∙ sym (snoc front group more.groups);
      read = (one, more.read);
    }

pub leaves_end : (bytes : ℕ → Option (List ℕ)) (k : Coding) (p : Place) (count : ℕ) (leaves : List Leaf) (alls : List Rows) → AreLeaves leaves → AllRead bytes k (length p.laid) (rests leaves)
    → LeavesHold bytes k.ids (grouped count p.laid) leaves alls → AreLeavesRead bytes k.ids (grouped count (with_chunks p (encoded_chunks k (rests leaves))).laid) alls
leaves_end bytes k p count leaves alls sound h holds =
    let more = all_end bytes k (length p.laid) [] (grouped count p.laid) leaves alls sound h holds in
    subst (λ gs. AreLeavesRead bytes k.ids gs alls) (sym (laid-groups k p count (rests leaves) ∙ more.is)) more.read
