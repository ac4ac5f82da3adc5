-- The rows of each leaf: those of its chunks, and those that are held back.
use Rattle.std.proofs.Common.{◌≡◌, ℕ, zero, suc, ◌+◌, ◌-◌, ◌<◌, ◌≤◌, Bool, true, false, List, [], ◌∷◌, ◌++◌, length, map, refl, sym, ap, subst, ◌∙◌, arith, add-one, append_assoc, length-append}
use Rattle.std.specs.Prelude.{sum_by, replicate, ◌==◌, if◌then◌else◌, Option, Some, None}
use Rattle.std.specs.List.{All}
use Rattle.std.proofs.lemmas.Bool.{eqb-true}
use Rattle.std.proofs.lemmas.List.Sums.{sum_by-cons, sum_by-append}
use Rattle.vx_data.specs.Dtype.{Dtype, FieldList, bool, int, text, struct, no_fields, field}
use Rattle.vx_rows.specs.Rows.{Rows, rows_len, dtype_of, IsColumn}
use Rattle.vx_rows.specs.Parts.{part, appended}
use Rattle.vx_rows.specs.ReadRows.{no_rows}
use Rattle.vx_rows.proofs.ColumnLaws.{rows_are, column_rows, appended_is_column, part_is_column}
use Rattle.vx_rows.proofs.KeepLemmas.{new_even}
use Rattle.std.proofs.lemmas.List.Elements.{All-head, All-tail}
use Rattle.vx_write.proofs.GatheredLemmas.{empty_rows}
use Rattle.vx_write.proofs.CutLaws.{rest_holds}
use Rattle.vx_write.proofs.CutSums.{cut_sum}
use Rattle.vx_write.specs.declared.laid_chunk.Laid.{Laid}
use Rattle.vx_write.specs.declared.laid_chunk.Numbered.{Numbered}
use Rattle.vx_write.specs.declared.strategy.LeafStrategy.{LeafStrategy}
use Rattle.vx_write.specs.declared.strategy.LeafStrategy.TheVariants.{Whole, Blocks}
use Rattle.vx_write.specs.Cutting.{full_chunks, rest, last_chunk}
use Rattle.vx_write.specs.Leaves.{Leaf, ChunkRows, chunks_at, filled, filled_from, grown, grown_leaf, rests, rests_from, leaf_types, column_types}
use Rattle.vx_write.specs.Placed.{Place, Encoded, with_chunk, with_chunks}
use Rattle.vx_write.specs.Sinks.{spec_of}
use Rattle.vx_write.specs.Strategies.{HasBlocks}
use Rattle.vx_write.specs.Plans.{PlanTree, PlanList, a_leaf, a_struct, no_plans, a_plan, IsFor, AreFor, ValidityHasBlocks, validity_leaves, leaves_of, leaves_in}
use Rattle.vx_write.specs.Sending.{Coding, encoded_chunk, encoded_chunks}
use Rattle.vx_write.specs.Laying.{Groups, put_at, put_from, grouped, validity_count, leaf_count, leaves_count, AreFull, AreSums, IsLeaf, AreLeaves}

abbrev sum : List Numbered → ℕ
sum g = sum_by (λ x. x.rows) g

sum-push : (g : List Numbered) (x : Numbered) → sum (g ++ x ∷ []) ≡ sum g + x.rows
sum-push g x = omega (arith, sum_by-append (λ (y : Numbered). y.rows) g (x ∷ []))

-- ---- leaves without rows

record IsFresh (leaf : Leaf) : Type 0 where
  leaf_is : IsLeaf leaf
  empty : rows_len leaf.kept ≡ 0

abbrev AreFresh : List Leaf → Type 0
AreFresh [] = Unit {0}
AreFresh (leaf ∷ leaves) = IsFresh leaf × AreFresh leaves

fresh-both : (olds news : List Leaf) → AreFresh olds → AreFresh news → AreFresh (olds ++ news)
fresh-both [] news h k = k
fresh-both (a ∷ olds) news h k = (h.0, fresh-both olds news h.1 k)

fresh-leaf : (s : LeafStrategy) (d : Dtype) → HasBlocks s → IsFresh (record { strategy = s; kept = no_rows d })
fresh-leaf s d h = record { leaf_is = record { blocks = h; even = new_even d (no_rows d) refl }; empty = empty_rows d }

fresh-validity : (v : Option LeafStrategy) → ValidityHasBlocks v → AreFresh (validity_leaves v)
fresh-validity None h = tt
fresh-validity (Some s) h = (fresh-leaf s (bool false) h, tt)

mutual
  fresh-of : (p : PlanTree) (d : Dtype) → IsFor p d → AreFresh (leaves_of p d)
  fresh-of (a_leaf s) d fit = (fresh-leaf s d fit, tt)
  fresh-of (a_struct v ps) (struct fs nullable) fit = fresh-both (validity_leaves v) (leaves_in ps fs) (fresh-validity v fit.1) (fresh-in ps fs fit.2)
  fresh-of (a_struct v ps) (bool nullable) fit = absurd fit
  fresh-of (a_struct v ps) (int ptype nullable) fit = absurd fit
  fresh-of (a_struct v ps) (text nullable) fit = absurd fit

  fresh-in : (ps : PlanList) (fs : FieldList) → AreFor ps fs → AreFresh (leaves_in ps fs)
  fresh-in no_plans fs fit = tt
  fresh-in (a_plan p ps) no_fields fit = absurd fit
  fresh-in (a_plan p ps) (field name d fs) fit = fresh-both (leaves_of p d) (leaves_in ps fs) (fresh-of p d fit.0) (fresh-in ps fs fit.1)

validity-many : (v : Option LeafStrategy) → validity_count v ≡ length (validity_leaves v)
validity-many None = refl
validity-many (Some s) = refl

mutual
  -- olds many leaves olds a plan counts
  pub leaves_many : (p : PlanTree) (d : Dtype) → IsFor p d → leaf_count p ≡ length (leaves_of p d)
  leaves_many (a_leaf s) d fit = refl
  leaves_many (a_struct v ps) (struct fs nullable) fit = omega (arith, validity-many v, leaves-many-in ps fs fit.2, length-append (validity_leaves v) (leaves_in ps fs))
  leaves_many (a_struct v ps) (bool nullable) fit = absurd fit
  leaves_many (a_struct v ps) (int ptype nullable) fit = absurd fit
  leaves_many (a_struct v ps) (text nullable) fit = absurd fit

  leaves-many-in : (ps : PlanList) (fs : FieldList) → AreFor ps fs → leaves_count ps ≡ length (leaves_in ps fs)
  leaves-many-in no_plans fs fit = refl
  leaves-many-in (a_plan p ps) no_fields fit = absurd fit
  leaves-many-in (a_plan p ps) (field name d fs) fit = omega (arith, leaves_many p d fit.0, leaves-many-in ps fs fit.1, length-append (leaves_of p d) (leaves_in ps fs))

fresh-sums : (leaves : List Leaf) → AreFresh leaves → AreSums 0 (replicate (length leaves) []) leaves
fresh-sums [] h = tt
fresh-sums (leaf ∷ leaves) h = (omega (arith, h.0.empty), fresh-sums leaves h.1)

fresh-leaves : (leaves : List Leaf) → AreFresh leaves → AreLeaves leaves
fresh-leaves [] h = tt
fresh-leaves (leaf ∷ leaves) h = (h.0.leaf_is, fresh-leaves leaves h.1)

pub sums_begun : (p : PlanTree) (d : Dtype) → IsFor p d → AreSums 0 (grouped (leaf_count p) []) (leaves_of p d)
sums_begun p d fit = subst (λ n. AreSums 0 (replicate n []) (leaves_of p d)) (sym (leaves_many p d fit)) (fresh-sums (leaves_of p d) (fresh-of p d fit))

pub leaves_begun : (p : PlanTree) (d : Dtype) → IsFor p d → AreLeaves (leaves_of p d)
leaves_begun p d fit = fresh-leaves (leaves_of p d) (fresh-of p d fit)

-- ---- leaves with a column more for each

pub first-of : {A : Type 0} (x y : A) (xs ys : List A) → x ∷ xs ≡ y ∷ ys → x ≡ y
first-of x y xs ys h = cc

pub rest-of : {A : Type 0} (x y : A) (xs ys : List A) → x ∷ xs ≡ y ∷ ys → xs ≡ ys
rest-of x y xs ys h = cc

-- all rows of a leaf, with a column more
pub both-even : (leaf : Leaf) (c : Rows) (n : ℕ) → IsLeaf leaf → dtype_of c ≡ dtype_of leaf.kept → IsColumn n c → IsColumn (rows_len leaf.kept + n) (appended leaf.kept c)
both-even leaf c n h t even = appended_is_column (rows_len leaf.kept) n leaf.kept c (sym t) h.even even

pub own-length : (n : ℕ) (c : Rows) → IsColumn n c → rows_len c ≡ n
own-length n c h = rows_are n c (column_rows n c h)

pub own-even : (n : ℕ) (c : Rows) → IsColumn n c → IsColumn (rows_len c) c
own-even n c h = subst (λ m. IsColumn m c) (sym (own-length n c h)) h

next-leaf : (leaf : Leaf) (c : Rows) (n : ℕ) → IsLeaf leaf → dtype_of c ≡ dtype_of leaf.kept → IsColumn n c → IsLeaf (grown_leaf leaf c)
next-leaf leaf c n h t even =
    let all = appended leaf.kept c in
    let whole = both-even leaf c n h t even in
    let long = own-length (rows_len leaf.kept + n) all whole in
    record {
      blocks = h.blocks;
      even = rest_holds (λ x. IsColumn (rows_len x) x) leaf.strategy all h.blocks
          (λ a b le inside. own-even (b - a) (part a b all) (part_is_column (rows_len leaf.kept + n) a b all le (omega (arith, inside, long)) whole));
    }

pub leaves_next : (n : ℕ) (leaves : List Leaf) (columns : List Rows) → AreLeaves leaves → column_types columns ≡ leaf_types leaves → All (IsColumn n) columns → AreLeaves (grown leaves columns)
leaves_next n [] columns sound typed even = tt
leaves_next n (leaf ∷ leaves) [] sound typed even = tt
leaves_next n (leaf ∷ leaves) (c ∷ cs) sound typed even = (
  next-leaf leaf c n sound.0 (first-of (dtype_of c) (dtype_of leaf.kept) (column_types cs) (leaf_types leaves) typed) (All-head (IsColumn n) c cs even),
  leaves_next n leaves cs sound.1 (rest-of (dtype_of c) (dtype_of leaf.kept) (column_types cs) (leaf_types leaves) typed) (All-tail (IsColumn n) c cs even),
)

-- ---- chunks that come to lie in a file

abbrev pub puts : ℕ → List ChunkRows → Groups → Groups
puts k [] gs = gs
puts k (c ∷ cs) gs = puts (k + 1) cs (put_at c.leaf (record { rows = rows_len c.rows; segment = k }) gs)

put-push : (n : ℕ) (ls : List Laid) (x : Laid) (gs : Groups) → put_from n (ls ++ x ∷ []) gs ≡ put_at x.leaf (record { rows = x.rows; segment = n + length ls }) (put_from n ls gs)
put-push n [] x gs = ap (λ m. put_at x.leaf (record { rows = x.rows; segment = m }) gs) (omega arith)
put-push n (l ∷ ls) x gs =
    put-push (n + 1) ls x (put_at l.leaf (record { rows = l.rows; segment = n }) gs)
    ∙ ap (λ m. put_at x.leaf (record { rows = x.rows; segment = m }) (put_from (n + 1) ls (put_at l.leaf (record { rows = l.rows; segment = n }) gs))) (omega arith)

laid-one : (p : Place) (e : Encoded) → (with_chunk p e).laid ≡ p.laid ++ record { spec = spec_of p.offset (e.buffer ∷ []); leaf = e.leaf; rows = e.rows } ∷ []
unfolding with_chunk
laid-one p e = refl

pub laid-groups : (k : Coding) (p : Place) (count : ℕ) (cs : List ChunkRows) → grouped count (with_chunks p (encoded_chunks k cs)).laid ≡ puts (length p.laid) cs (grouped count p.laid)
laid-groups k p count [] = refl
laid-groups k p count (c ∷ cs) =
    let e = encoded_chunk k c in
    let x : Laid = record { spec = spec_of p.offset (e.buffer ∷ []); leaf = e.leaf; rows = e.rows } in
    let size : length (with_chunk p e).laid ≡ length p.laid + 1 = ap length (laid-one p e) ∙ length-append p.laid (x ∷ []) in
    laid-groups k (with_chunk p e) count cs
    ∙ ap (λ n. puts n cs (grouped count (with_chunk p e).laid)) size
    ∙ ap (λ ls. puts (length p.laid + 1) cs (grouped count ls)) (laid-one p e)
    ∙ ap (λ gs. puts (length p.laid + 1) cs gs) (put-push 0 p.laid x (replicate count []))
    ∙ ap (λ n. puts (length p.laid + 1) cs (put_at c.leaf (record { rows = rows_len c.rows; segment = n }) (grouped count p.laid))) (let same : 0 + length p.laid ≡ length p.laid = omega arith in same)

pub puts-both : (k : ℕ) (olds news : List ChunkRows) (gs : Groups) → puts k (olds ++ news) gs ≡ puts (k + length olds) news (puts k olds gs)
puts-both k [] news gs = ap (λ n. puts n news gs) (omega arith)
puts-both k (a ∷ olds) news gs =
    let hs = put_at a.leaf (record { rows = rows_len a.rows; segment = k }) gs in
    puts-both (k + 1) olds news hs ∙ ap (λ n. puts n news (puts (k + 1) olds hs)) (omega arith)

pub put-front : (front : Groups) (g : List Numbered) (gs : Groups) (x : Numbered) → put_at (length front) x (front ++ g ∷ gs) ≡ front ++ (g ++ x ∷ []) ∷ gs
put-front [] g gs x = refl
put-front (f ∷ front) g gs x = ap (λ hs. f ∷ hs) (put-front front g gs x)

-- the chunks of one leaf come to lie behind those of it
record Put (k : ℕ) (cs : List Rows) (front : Groups) (g : List Numbered) (gs : Groups) : Type 0 where
  after : List Numbered
  is : puts k (chunks_at (length front) cs) (front ++ g ∷ gs) ≡ front ++ after ∷ gs
  size : sum after ≡ sum g + sum_by rows_len cs

put-all : (k : ℕ) (cs : List Rows) (front : Groups) (g : List Numbered) (gs : Groups) → Put k cs front g gs
put-all k [] front g gs = record { after = g; is = refl; size = omega arith }
put-all k (c ∷ cs) front g gs =
    let x : Numbered = record { rows = rows_len c; segment = k } in
    let more = put-all (k + 1) cs front (g ++ x ∷ []) gs in
    record {
      after = more.after;
      is = ap (λ hs. puts (k + 1) (chunks_at (length front) cs) hs) (put-front front g gs x) ∙ more.is;
      size = omega (arith, more.size, sum-push g x, sum_by-cons rows_len c cs);
    }

pub snoc : (front : Groups) (g : List Numbered) (gs : Groups) → front ++ g ∷ gs ≡ (front ++ g ∷ []) ++ gs
snoc front g gs = sym (append_assoc front (g ∷ []) gs)

pub snoc-length : (front : Groups) (g : List Numbered) → length (front ++ g ∷ []) ≡ length front + 1
snoc-length front g = length-append front (g ∷ [])

-- ---- a push

record Grew (k n m : ℕ) (front gs : Groups) (leaves : List Leaf) (columns : List Rows) : Type 0 where
  after : Groups
  is : puts k (filled_from (length front) leaves columns) (front ++ gs) ≡ front ++ after
  sums : AreSums (n + m) after (grown leaves columns)

grew : (k n m : ℕ) (front gs : Groups) (leaves : List Leaf) (columns : List Rows) → AreLeaves leaves → column_types columns ≡ leaf_types leaves → All (IsColumn m) columns
    → AreSums n gs leaves → Grew k n m front gs leaves columns
grew k n m front [] [] columns sound typed even sums = record { after = []; is = refl; sums = tt }
grew k n m front [] (leaf ∷ leaves) columns sound typed even sums = absurd sums
grew k n m front (g ∷ gs) [] columns sound typed even sums = absurd sums
grew k n m front (g ∷ gs) (leaf ∷ leaves) [] sound typed even sums = cc
grew k n m front (g ∷ gs) (leaf ∷ leaves) (c ∷ cs) sound typed even sums =
    let first = first-of (dtype_of c) (dtype_of leaf.kept) (column_types cs) (leaf_types leaves) typed in
    let all = appended leaf.kept c in
    let full = full_chunks leaf.strategy all in
    let olds = chunks_at (length front) full in
    let news = filled_from (length front + 1) leaves cs in
    let put = put-all k full front g gs in
    let more = grew (k + length olds) n m (front ++ put.after ∷ []) gs leaves cs sound.1 (rest-of (dtype_of c) (dtype_of leaf.kept) (column_types cs) (leaf_types leaves) typed)
    (All-tail (IsColumn m) c cs even) sums.1 in
    let own = All-head (IsColumn m) c cs even in
    let whole = both-even leaf c m sound.0 first own in
    let long = own-length (rows_len leaf.kept + m) all whole in
    let cut = cut_sum leaf.strategy all sound.0.blocks (column_rows (rows_len all) all (own-even (rows_len leaf.kept + m) all whole)) in
    record {
      after = put.after ∷ more.after;
      is = puts-both k olds news (front ++ g ∷ gs)
          ∙ ap (λ hs. puts (k + length olds) news hs) (put.is ∙ snoc front put.after gs)
          ∙ ap (λ place. puts (k + length olds) (filled_from place leaves cs) ((front ++ put.after ∷ []) ++ gs)) (sym (snoc-length front put.after))
          ∙ more.is ∙ sym (snoc front put.after more.after);
      sums = (omega (arith, put.size, cut, long, sums.0), more.sums);
    }

pub sums_next : (k : Coding) (p : Place) (count n m : ℕ) (leaves : List Leaf) (columns : List Rows) → AreLeaves leaves → column_types columns ≡ leaf_types leaves → All (IsColumn m) columns
    → AreSums n (grouped count p.laid) leaves → AreSums (n + m) (grouped count (with_chunks p (encoded_chunks k (filled leaves columns))).laid) (grown leaves columns)
sums_next k p count n m leaves columns sound typed even sums =
    let more = grew (length p.laid) n m [] (grouped count p.laid) leaves columns sound typed even sums in
    subst (λ gs. AreSums (n + m) gs (grown leaves columns)) (sym (laid-groups k p count (filled leaves columns) ∙ more.is)) more.sums

-- ---- the end

last-sum : (s : LeafStrategy) (c : Rows) → sum_by rows_len (last_chunk s c) ≡ rows_len c
last-sum Whole c = omega arith
last-sum (Blocks rows target) c = some (rows_len c == 0) refl
  where
    some : (b : Bool) → (rows_len c == 0) ≡ b → sum_by rows_len (if b then [] else c ∷ []) ≡ rows_len c
    some true is = sym (eqb-true (rows_len c) 0 is)
    some false is = omega arith

record Filled (k n : ℕ) (front gs : Groups) (leaves : List Leaf) : Type 0 where
  after : Groups
  is : puts k (rests_from (length front) leaves) (front ++ gs) ≡ front ++ after
  full : AreFull n after

all-filled : (k n : ℕ) (front gs : Groups) (leaves : List Leaf) → AreSums n gs leaves → Filled k n front gs leaves
all-filled k n front [] [] sums = record { after = []; is = refl; full = tt }
all-filled k n front [] (leaf ∷ leaves) sums = absurd sums
all-filled k n front (g ∷ gs) [] sums = absurd sums
all-filled k n front (g ∷ gs) (leaf ∷ leaves) sums =
    let last = last_chunk leaf.strategy leaf.kept in
    let olds = chunks_at (length front) last in
    let news = rests_from (length front + 1) leaves in
    let put = put-all k last front g gs in
    let more = all-filled (k + length olds) n (front ++ put.after ∷ []) gs leaves sums.1 in
    record {
      after = put.after ∷ more.after;
      is = puts-both k olds news (front ++ g ∷ gs)
          ∙ ap (λ hs. puts (k + length olds) news hs) (put.is ∙ snoc front put.after gs)
          ∙ ap (λ place. puts (k + length olds) (rests_from place leaves) ((front ++ put.after ∷ []) ++ gs)) (sym (snoc-length front put.after))
          ∙ more.is ∙ sym (snoc front put.after more.after);
      full = (omega (arith, put.size, last-sum leaf.strategy leaf.kept, sums.0), more.full);
    }

pub sums_end : (k : Coding) (p : Place) (count n : ℕ) (leaves : List Leaf) → AreSums n (grouped count p.laid) leaves → AreFull n (grouped count (with_chunks p (encoded_chunks k (rests leaves))).laid)
sums_end k p count n leaves sums =
    let more = all-filled (length p.laid) n [] (grouped count p.laid) leaves sums in
    subst (λ gs. AreFull n gs) (sym (laid-groups k p count (rests leaves) ∙ more.is)) more.full
