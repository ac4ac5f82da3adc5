-- Cutting what is kept with what comes is cutting all rows.
use Rattle.std.proofs.Common.{◌≡◌, ℕ, zero, suc, ◌+◌, ◌-◌, ◌*◌, ◌/◌, ◌≤◌, true, false, List, [], ◌∷◌, ◌++◌, refl, ap, ap₂, sym, ◌∙◌, subst, arith, inl, inr, append_assoc}
use Rattle.std.specs.Prelude.{nat_le, ◌⊎◌, unwrap_or}
use Rattle.std.specs.List.{All, AllByRecursion}
use Rattle.std.proofs.lemmas.List.{append-nil}
use Rattle.vx_data.specs.Dtype.{Dtype}
use Rattle.std.proofs.lemmas.Bool.{cases_Bool}
use Rattle.std.proofs.lemmas.List.Elements.{All-nil, All-cons}
use Rattle.std.proofs.Math.Nat.{mul-suc, mul-add-div, mul-div-le}
use Rattle.vx_rows.specs.Rows.{Rows, rows_len, dtype_of, HasRows}
use Rattle.vx_rows.specs.Parts.{part, appended}
use Rattle.vx_rows.proofs.ColumnLaws.{rows_are, part_rows, part_type, part_of_part, appended_rows, appended_type, all-kept}
use Rattle.vx_write.specs.declared.strategy.LeafStrategy.{LeafStrategy}
use Rattle.vx_write.specs.declared.strategy.LeafStrategy.TheVariants.{Whole, Blocks}
use Rattle.vx_write.specs.Strategies.{HasBlocks}
use Rattle.vx_write.specs.Cutting.{Cut, cut_blocks, cut, nothing_full, full_chunks, rest, joined, with_chunks, all_pushed, chunks_over, rest_over, IsPush}
use Rattle.vx_write.proofs.CutLemmas.{cut_full, cut_open, cut_none, more_size, go_on, blocks_behind, moved, blocks_moved, Left, blocks_left}
use Rattle.vx_write.proofs.BehindLemmas.{front_same, part_same, parts_meet, part_goes_on}

-- ---- where the next chunk begins

pub start_within : (rows target : ℕ) (c : Rows) (m start gathered at : ℕ) → start ≤ at → (cut_blocks rows target c start gathered at m).start ≤ at + rows * m
start_within rows target c m start gathered at o = by (blocks_left rows target c m start gathered at)
  where
    by : Left rows target c start at m (cut_blocks rows target c start gathered at m) → (cut_blocks rows target c start gathered at m).start ≤ at + rows * m
    by (inl e) = let s = ap (λ (x : Cut). x.start) e in omega (arith, s, o)
    by (inr b) = let s = b.start in let all = b.all in let more = times_within rows b.before b.behind m all in omega (arith, s, more)
      where
        times_within : (r a b m : ℕ) → a + b ≡ m → r * a ≤ r * m
        times_within r a b m e = grind arith

-- ---- chunks are parts

pub chunks_hold : (P : Rows → Type 0) (rows target n : ℕ) (c : Rows) → ((a b : ℕ) → a ≤ b → b ≤ n → P (part a b c)) → (m start gathered at : ℕ) → start ≤ at → at + rows * m ≤ n
    → All P (cut_blocks rows target c start gathered at m).chunks
chunks_hold P rows target n c p zero start gathered at o h = subst (λ (x : Cut). All P x.chunks) (sym (cut_none rows target c start gathered at)) (All-nil P)
chunks_hold P rows target n c p (suc m) start gathered at o h =
    let step = mul-suc rows m in
    let here : at + rows ≤ n = omega (arith, step, h) in
    let more : at + rows + rows * m ≤ n = omega (arith, step, h) in
    by here (λ s g l. chunks_hold P rows target n c p m s g (at + rows) l more) (cases_Bool (nat_le target (more_size rows c gathered at)))
  where
    by : at + rows ≤ n → ((s g : ℕ) → s ≤ at + rows → All P (cut_blocks rows target c s g (at + rows) m).chunks)
        → (nat_le target (more_size rows c gathered at) ≡ true) ⊎ (nat_le target (more_size rows c gathered at) ≡ false)
        → All P (cut_blocks rows target c start gathered at (suc m)).chunks
    by here again (inl k) = subst (λ (x : Cut). All P x.chunks) (sym (cut_full rows target c start gathered at m k))
        (All-cons P (part start (at + rows) c) (cut_blocks rows target c (at + rows) 0 (at + rows) m).chunks (p start (at + rows) (omega (arith, o)) here) (again (at + rows) 0 (omega arith)))
    by here again (inr k) = subst (λ (x : Cut). All P x.chunks) (sym (cut_open rows target c start gathered at m k)) (again start (more_size rows c gathered at) (omega (arith, o)))

-- ---- the chunks, and behind them what is left

pub blocks_joined : (rows target n : ℕ) (c : Rows) → HasRows n c → (m start gathered at : ℕ) → start ≤ at → at + rows * m ≤ n
    → joined (cut_blocks rows target c start gathered at m).chunks (part (cut_blocks rows target c start gathered at m).start n c) ≡ part start n c
blocks_joined rows target n c h zero start gathered at o l = ap (λ (x : Cut). joined x.chunks (part x.start n c)) (cut_none rows target c start gathered at)
blocks_joined rows target n c h (suc m) start gathered at o l =
    let step = mul-suc rows m in
    let here : at + rows ≤ n = omega (arith, step, l) in
    let more : at + rows + rows * m ≤ n = omega (arith, step, l) in
    by here (λ s g k. blocks_joined rows target n c h m s g (at + rows) k more) (cases_Bool (nat_le target (more_size rows c gathered at)))
  where
    by : at + rows ≤ n
        → ((s g : ℕ) → s ≤ at + rows → joined (cut_blocks rows target c s g (at + rows) m).chunks (part (cut_blocks rows target c s g (at + rows) m).start n c) ≡ part s n c)
        → (nat_le target (more_size rows c gathered at) ≡ true) ⊎ (nat_le target (more_size rows c gathered at) ≡ false)
        → joined (cut_blocks rows target c start gathered at (suc m)).chunks (part (cut_blocks rows target c start gathered at (suc m)).start n c) ≡ part start n c
    by here again (inl k) =
        ap (λ (x : Cut). joined x.chunks (part x.start n c)) (cut_full rows target c start gathered at m k)
        ∙ ap (appended (part start (at + rows) c)) (again (at + rows) 0 (omega arith))
        ∙ parts_meet n start (at + rows) n c h (omega (arith, o)) here (omega arith)
    by here again (inr k) = ap (λ (x : Cut). joined x.chunks (part x.start n c)) (cut_open rows target c start gathered at m k) ∙ again start (more_size rows c gathered at) (omega (arith, o))

-- ---- numbers of blocks

pub blocks_within : (rows n : ℕ) → 1 ≤ rows → rows * (n / rows) ≤ n
blocks_within rows n h = mul-div-le n rows

-- rows behind whole blocks
pub blocks_after : (rows k n : ℕ) → 1 ≤ rows → rows * k ≤ n → k + (n - rows * k) / rows ≡ n / rows
blocks_after rows k n h l =
    let e : rows * k + (n - rows * k) ≡ n = omega (arith, l) in
    sym (mul-add-div {m = rows} h k (n - rows * k)) ∙ ap (λ x. x / rows) e

-- ---- rows that come behind others

moved_nowhere : (x : Cut) → moved 0 x ≡ x
moved_nowhere x = let e : 0 + x.start ≡ x.start = omega arith in λ i. record { chunks = x.chunks; start = e i; gathered = x.gathered }

-- the blocks of a column are cut the same where rows come behind it
pub front_cut : (rows target n : ℕ) (c d : Rows) → HasRows n c → (m : ℕ) → rows * m ≤ n → cut_blocks rows target (appended c d) 0 0 0 m ≡ cut_blocks rows target c 0 0 0 m
front_cut rows target n c d h m l =
    let zeros : 0 ≡ 0 + 0 = omega arith in
    let fits : 0 + rows * m ≤ n = omega (arith, l) in
    ap (λ z. cut_blocks rows target (appended c d) z 0 z m) zeros
    ∙ blocks_moved rows target 0 n (appended c d) c (front_same n c d h) m 0 0 0 (omega arith) fits
    ∙ moved_nowhere (cut_blocks rows target c 0 0 0 m)

pub goes_on : (rows target n : ℕ) (c d : Rows) → HasRows n c → (m j : ℕ) → rows * m ≤ n
    → cut_blocks rows target (appended c d) 0 0 0 (m + j) ≡ go_on rows target (appended c d) (rows * m) j (cut_blocks rows target c 0 0 0 m)
goes_on rows target n c d h m j l =
    let e : 0 + rows * m ≡ rows * m = omega arith in
    blocks_behind rows target (appended c d) m j 0 0 0
    ∙ ap (λ a. go_on rows target (appended c d) a j (cut_blocks rows target (appended c d) 0 0 0 m)) e
    ∙ ap (go_on rows target (appended c d) (rows * m) j) (front_cut rows target n c d h m l)

-- ---- what is left has no full chunk

unmoved : (from g : ℕ) (x : Cut) → moved from x ≡ nothing_full from g → x ≡ nothing_full 0 g
unmoved from g x e =
    let chunks : x.chunks ≡ [] = ap (λ (y : Cut). y.chunks) e in
    let place : from + x.start ≡ from = ap (λ (y : Cut). y.start) e in
    let start : x.start ≡ 0 = omega (arith, place) in
    let gathered : x.gathered ≡ g = ap (λ (y : Cut). y.gathered) e in
    λ i. record { chunks = chunks i; start = start i; gathered = gathered i }

-- how many blocks are left
pub blocks_behind_start : (rows n before behind start : ℕ) → 1 ≤ rows → before + behind ≡ n / rows → start ≡ rows * before → (n - start) / rows ≡ behind
blocks_behind_start rows n before behind start h all s =
    let k = blocks_within rows n h in
    let fits : rows * before ≤ n = times_within rows before behind n all k in
    let e = blocks_after rows before n h fits in
    ap (λ x. (n - x) / rows) s ∙ omega (arith, e, all)
  where
    times_within : (r a b n : ℕ) → a + b ≡ n / r → r * (n / r) ≤ n → r * a ≤ n
    times_within r a b n e k = grind arith

-- where some blocks fill no chunk, those of a part that begins with them fill none
pub part_open : (rows target n from g behind : ℕ) (c : Rows) → from + rows * behind ≤ n → cut_blocks rows target c from 0 from behind ≡ nothing_full from g
    → cut_blocks rows target (part from n c) 0 0 0 behind ≡ nothing_full 0 g
part_open rows target n from g behind c l e =
    let zero : from ≡ from + 0 = omega arith in
    let fits : 0 + rows * behind ≤ n - from = omega (arith, l) in
    unmoved from g (cut_blocks rows target (part from n c) 0 0 0 behind)
    (sym (blocks_moved rows target from (n - from) c (part from n c) (part_same from n c) behind 0 0 0 (omega arith) fits) ∙ ap (λ z. cut_blocks rows target c z 0 z behind) (sym zero) ∙ e)

pub rest_blocks : (rows target n : ℕ) (c : Rows) → 1 ≤ rows → HasRows n c
    → cut_blocks rows target (part (cut_blocks rows target c 0 0 0 (n / rows)).start n c) 0 0 0 ((n - (cut_blocks rows target c 0 0 0 (n / rows)).start) / rows)
    ≡ nothing_full 0 (cut_blocks rows target c 0 0 0 (n / rows)).gathered
rest_blocks rows target n c h k = by (cut_blocks rows target c 0 0 0 (n / rows)) refl (blocks_left rows target c (n / rows) 0 0 0)
  where
    by : (x : Cut) → cut_blocks rows target c 0 0 0 (n / rows) ≡ x → Left rows target c 0 0 (n / rows) x
        → cut_blocks rows target (part x.start n c) 0 0 0 ((n - x.start) / rows) ≡ nothing_full 0 x.gathered
    by x is (inl e) =
        let s : x.start ≡ 0 = ap (λ (y : Cut). y.start) e in
        let all : n - 0 ≡ n = omega arith in
        ap (λ z. cut_blocks rows target (part z n c) 0 0 0 ((n - z) / rows)) s
        ∙ ap₂ (λ d j. cut_blocks rows target d 0 0 0 (j / rows)) (all-kept c n k) all
        ∙ is ∙ e
    by x is (inr b) =
        let zero : 0 + rows * b.before ≡ rows * b.before = omega arith in
        let s : x.start ≡ rows * b.before = b.start ∙ zero in
        let many = blocks_behind_start rows n b.before b.behind x.start h b.all s in
        let within = mul-div-le (n - x.start) rows in
        let fits : x.start + rows * b.behind ≤ n = fits_in x.start rows b.behind b.before n (n / rows) b.all s (blocks_within rows n h) in
        ap (λ j. cut_blocks rows target (part x.start n c) 0 0 0 j) many ∙ part_open rows target n x.start x.gathered b.behind c fits b.none_full
      where
        fits_in : (s r i a n m : ℕ) → a + i ≡ m → s ≡ r * a → r * m ≤ n → s + r * i ≤ n
        fits_in s r i a n m e f l = grind arith

-- ---- cutting what is kept with what comes is cutting all

-- the whole blocks end where they did
pub blocks_end : (rows target n : ℕ) (c : Rows) → 1 ≤ rows → (x : Cut) → cut_blocks rows target c 0 0 0 (n / rows) ≡ x → x.start + rows * ((n - x.start) / rows) ≡ rows * (n / rows)
blocks_end rows target n c h x is = by (subst (Left rows target c 0 0 (n / rows)) is (blocks_left rows target c (n / rows) 0 0 0))
  where
    by : Left rows target c 0 0 (n / rows) x → x.start + rows * ((n - x.start) / rows) ≡ rows * (n / rows)
    by (inl e) =
        let s : x.start ≡ 0 = ap (λ (y : Cut). y.start) e in
        let all : n - 0 ≡ n = omega arith in
        ap (λ z. z + rows * ((n - z) / rows)) s ∙ ap (λ j. 0 + rows * (j / rows)) all ∙ omega arith
    by (inr b) =
        let zero : 0 + rows * b.before ≡ rows * b.before = omega arith in
        let s : x.start ≡ rows * b.before = b.start ∙ zero in
        let many = blocks_behind_start rows n b.before b.behind x.start h b.all s in
        ap (λ j. x.start + rows * j) many ∙ ap (λ z. z + rows * b.behind) s ∙ times rows b.before b.behind (n / rows) b.all
      where
        times : (r a i m : ℕ) → a + i ≡ m → r * a + r * i ≡ r * m
        times r a i m e = grind arith

-- rows that come behind rows which fill no chunk
pub kept_goes_on : (rows target n g : ℕ) (c d : Rows) → HasRows n c → (m j : ℕ) → rows * m ≤ n → cut_blocks rows target c 0 0 0 m ≡ nothing_full 0 g
    → cut_blocks rows target (appended c d) 0 0 0 (m + j) ≡ cut_blocks rows target (appended c d) 0 g (rows * m) j
kept_goes_on rows target n g c d h m j l e = goes_on rows target n c d h m j l ∙ ap (go_on rows target (appended c d) (rows * m) j) e

pub cut_goes_on : (rows target n k : ℕ) (c d : Rows) → 1 ≤ rows → dtype_of c ≡ dtype_of d → HasRows n c → HasRows k d → (x : Cut) → cut_blocks rows target c 0 0 0 (n / rows) ≡ x
    → cut_blocks rows target (appended c d) 0 0 0 ((n + k) / rows)
    ≡ with_chunks x.chunks (moved x.start (cut_blocks rows target (appended (part x.start n c) d) 0 0 0 ((n - x.start + k) / rows)))
cut_goes_on rows target n k c d h t p q x is =
    let within = blocks_within rows n h in
    let ends = blocks_end rows target n c h x is in
    let inside = mul-div-le (n - x.start) rows in
    let s : x.start ≤ n = start_in x.start rows (n / rows) n (subst (λ (y : Cut). y.start ≤ 0 + rows * (n / rows)) is (start_within rows target c (n / rows) 0 0 0 (omega arith))) within in
    let all : n / rows + (n + k - rows * (n / rows)) / rows ≡ (n + k) / rows = blocks_after rows (n / rows) (n + k) h (omega (arith, within)) in
    let same : n - x.start + k - rows * ((n - x.start) / rows) ≡ n + k - rows * (n / rows) = omega (arith, ends, s, inside, within) in
    let left : (n - x.start) / rows + (n + k - rows * (n / rows)) / rows ≡ (n - x.start + k) / rows =
    ap (λ z. (n - x.start) / rows + z / rows) (sym same) ∙ blocks_after rows ((n - x.start) / rows) (n - x.start + k) h (omega (arith, inside)) in
    let come = mul-div-le (n + k - rows * (n / rows)) rows in
    ap (cut_blocks rows target (appended c d) 0 0 0) (sym all)
    ∙ goes_on rows target n c d p (n / rows) ((n + k - rows * (n / rows)) / rows) within
    ∙ ap (go_on rows target (appended c d) (rows * (n / rows)) ((n + k - rows * (n / rows)) / rows)) is
    ∙ ap (with_chunks x.chunks) (behind s within ends inside come
    (subst (λ (y : Cut). cut_blocks rows target (part y.start n c) 0 0 0 ((n - y.start) / rows) ≡ nothing_full 0 y.gathered) is (rest_blocks rows target n c h p)))
    ∙ ap (λ j. with_chunks x.chunks (moved x.start (cut_blocks rows target (appended (part x.start n c) d) 0 0 0 j))) left
  where
    start_in : (s r m n : ℕ) → s ≤ 0 + r * m → r * m ≤ n → s ≤ n
    start_in s r m n a b = omega (arith, a, b)

    behind : x.start ≤ n → rows * (n / rows) ≤ n → x.start + rows * ((n - x.start) / rows) ≡ rows * (n / rows) → rows * ((n - x.start) / rows) ≤ n - x.start
        → rows * ((n + k - rows * (n / rows)) / rows) ≤ n + k - rows * (n / rows)
        → cut_blocks rows target (part x.start n c) 0 0 0 ((n - x.start) / rows) ≡ nothing_full 0 x.gathered
        → cut_blocks rows target (appended c d) x.start x.gathered (rows * (n / rows)) ((n + k - rows * (n / rows)) / rows)
        ≡ moved x.start (cut_blocks rows target (appended (part x.start n c) d) 0 0 0 ((n - x.start) / rows + (n + k - rows * (n / rows)) / rows))
    behind s within ends inside come held =
        let zero : x.start ≡ x.start + 0 = omega arith in
        let fits : rows * ((n - x.start) / rows) + rows * ((n + k - rows * (n / rows)) / rows) ≤ n + k - x.start = omega (arith, s, within, ends, come) in
        let rest = part_rows n x.start n c s (omega arith) p in
        let all : part 0 k d ≡ d = all-kept d k q in
        let both : appended (part x.start n c) d ≡ part x.start (n + k) (appended c d) =
        ap (appended (part x.start n c)) (sym all) ∙ part_goes_on n k x.start k c d t p q s (omega arith) in
        ap₂ (λ a b. cut_blocks rows target (appended c d) a x.gathered b ((n + k - rows * (n / rows)) / rows)) zero (sym ends)
        ∙ blocks_moved rows target x.start (n + k - x.start) (appended c d) (part x.start (n + k) (appended c d)) (part_same x.start (n + k) (appended c d))
        ((n + k - rows * (n / rows)) / rows) 0 x.gathered (rows * ((n - x.start) / rows)) (omega arith) fits
        ∙ ap (λ y. moved x.start (cut_blocks rows target y 0 x.gathered (rows * ((n - x.start) / rows)) ((n + k - rows * (n / rows)) / rows))) (sym both)
        ∙ ap (moved x.start) (sym (kept_goes_on rows target (n - x.start) x.gathered (part x.start n c) d rest ((n - x.start) / rows) ((n + k - rows * (n / rows)) / rows) inside held))

-- ---- the laws over strategies

-- chunks behind one another
pub with_chunks_are : (cs : List Rows) (x : Cut) → (with_chunks cs x).chunks ≡ cs ++ x.chunks
with_chunks_are [] x = refl
with_chunks_are (c ∷ cs) x = ap (λ ys. c ∷ ys) (with_chunks_are cs x)

pub with_chunks_gathered : (cs : List Rows) (x : Cut) → (with_chunks cs x).gathered ≡ x.gathered
with_chunks_gathered [] x = refl
with_chunks_gathered (c ∷ cs) x = with_chunks_gathered cs x

pub with_chunks_start : (cs : List Rows) (x : Cut) → (with_chunks cs x).start ≡ x.start
with_chunks_start [] x = refl
with_chunks_start (c ∷ cs) x = with_chunks_start cs x

-- chunks of a column, and what is left, are all its rows
pub all_rows : (s : LeafStrategy) (n : ℕ) (c : Rows) → HasBlocks s → HasRows n c → joined (full_chunks s c) (rest s c) ≡ c
all_rows Whole n c h p = all-kept c (rows_len c) (subst (λ (k : ℕ). HasRows k c) (sym (rows_are n c p)) p)
all_rows (Blocks rows target) n c h p =
    let long = subst (λ (k : ℕ). HasRows k c) (sym (rows_are n c p)) p in
    let within = blocks_within rows (rows_len c) h in
    blocks_joined rows (unwrap_or target 0) (rows_len c) c long (rows_len c / rows) 0 0 0 (omega arith) (omega (arith, within)) ∙ all-kept c (rows_len c) long

-- what is left of a column, and rows behind it, by numbers of rows
pub record Behind (s : LeafStrategy) (c d : Rows) : Type 0 where
  pub start : (cut s c).start ≤ rows_len c
  pub all : cut s (appended c d) ≡ with_chunks (cut s c).chunks (moved (cut s c).start (cut s (appended (rest s c) d)))
  pub long : rows_len (appended (rest s c) d) ≡ rows_len c - (cut s c).start + rows_len d
  pub both : rows_len (appended c d) ≡ rows_len c + rows_len d
  pub same : appended (rest s c) d ≡ part (cut s c).start (rows_len c + rows_len d) (appended c d)
  pub inside : (cut s (appended (rest s c) d)).start ≤ rows_len (appended (rest s c) d)

pub start_inside : (s : LeafStrategy) (c : Rows) → HasBlocks s → (cut s c).start ≤ rows_len c
start_inside Whole c h = omega arith
start_inside (Blocks rows target) c h =
    let within = blocks_within rows (rows_len c) h in
    let start = start_within rows (unwrap_or target 0) c (rows_len c / rows) 0 0 0 (omega arith) in
    omega (arith, start, within)

pub rows_behind : (s : LeafStrategy) (c d : Rows) → HasBlocks s → dtype_of c ≡ dtype_of d → HasRows (rows_len c) c → HasRows (rows_len d) d → Behind s c d
rows_behind s c d h t p q =
    let within = start_inside s c h in
    let left = part_rows (rows_len c) (cut s c).start (rows_len c) c within (omega arith) p in
    let long = rows_are _ (appended (rest s c) d) (appended_rows (rows_len c - (cut s c).start) (rows_len d) (rest s c) d (part_type (cut s c).start (rows_len c) c ∙ t) left q) in
    let both = rows_are _ (appended c d) (appended_rows (rows_len c) (rows_len d) c d t p q) in
    let whole : part 0 (rows_len d) d ≡ d = all-kept d (rows_len d) q in record {
      start = within;
      all = by s h long both;
      long = long;
      both = both;
      same = ap (appended (rest s c)) (sym whole) ∙ part_goes_on (rows_len c) (rows_len d) (cut s c).start (rows_len d) c d t p q within (omega arith);
      inside = start_inside s (appended (rest s c) d) h;
    }
  where
    by : (r : LeafStrategy) → HasBlocks r → rows_len (appended (rest r c) d) ≡ rows_len c - (cut r c).start + rows_len d → rows_len (appended c d) ≡ rows_len c + rows_len d
        → cut r (appended c d) ≡ with_chunks (cut r c).chunks (moved (cut r c).start (cut r (appended (rest r c) d)))
    by Whole g long both = refl
    by (Blocks rows target) g long both =
        ap (λ n. cut_blocks rows (unwrap_or target 0) (appended c d) 0 0 0 (n / rows)) both
        ∙ cut_goes_on rows (unwrap_or target 0) (rows_len c) (rows_len d) c d g t p q (cut (Blocks rows target) c) refl
        ∙ ap (λ n. with_chunks (cut (Blocks rows target) c).chunks (moved (cut (Blocks rows target) c).start (cut_blocks rows (unwrap_or target 0) (appended (rest (Blocks rows target) c) d) 0 0 0 (n / rows)))) (sym long)

-- full chunks of rows are those of the first rows, and behind them those of what they leave with what comes
pub full_goes_on : (s : LeafStrategy) (n k : ℕ) (c d : Rows) → HasBlocks s → dtype_of c ≡ dtype_of d → HasRows n c → HasRows k d
    → full_chunks s (appended c d) ≡ full_chunks s c ++ full_chunks s (appended (rest s c) d)
full_goes_on s n k c d h t p q =
    let b = rows_behind s c d h t (subst (λ (m : ℕ). HasRows m c) (sym (rows_are n c p)) p) (subst (λ (m : ℕ). HasRows m d) (sym (rows_are k d q)) q) in
    ap (λ (x : Cut). x.chunks) b.all ∙ with_chunks_are (cut s c).chunks (moved (cut s c).start (cut s (appended (rest s c) d)))

pub rest_goes_on : (s : LeafStrategy) (n k : ℕ) (c d : Rows) → HasBlocks s → dtype_of c ≡ dtype_of d → HasRows n c → HasRows k d
    → rest s (appended c d) ≡ rest s (appended (rest s c) d)
rest_goes_on s n k c d h t p q =
    let b = rows_behind s c d h t (subst (λ (m : ℕ). HasRows m c) (sym (rows_are n c p)) p) (subst (λ (m : ℕ). HasRows m d) (sym (rows_are k d q)) q) in
    let start = b.start in
    let inside = b.inside in
    let long = b.long in
    let both = b.both in
    let place : (cut s (appended c d)).start ≡ (cut s c).start + (cut s (appended (rest s c) d)).start =
    ap (λ (x : Cut). x.start) b.all ∙ with_chunks_start (cut s c).chunks (moved (cut s c).start (cut s (appended (rest s c) d))) in
    let ends : rows_len (appended c d) ≡ (cut s c).start + rows_len (appended (rest s c) d) = omega (arith, start, long, both) in
    ap₂ (λ x y. part x y (appended c d)) place ends
    ∙ sym (part_of_part (cut s c).start (rows_len c + rows_len d) (cut s (appended (rest s c) d)).start (rows_len (appended (rest s c) d)) (appended c d) inside (omega (arith, start, long)))
    ∙ ap (part (cut s (appended (rest s c) d)).start (rows_len (appended (rest s c) d))) (sym b.same)

-- ---- what is left

-- it fills no chunk
pub rest_open : (s : LeafStrategy) (n : ℕ) (c : Rows) → HasBlocks s → HasRows n c → cut s (rest s c) ≡ nothing_full 0 (cut s c).gathered
rest_open Whole n c h p = refl
rest_open (Blocks rows target) n c h p =
    let long = subst (λ (k : ℕ). HasRows k c) (sym (rows_are n c p)) p in
    let within = start_inside (Blocks rows target) c h in
    let size = rows_are _ (rest (Blocks rows target) c) (part_rows (rows_len c) (cut (Blocks rows target) c).start (rows_len c) c within (omega arith) long) in
    ap (λ k. cut_blocks rows (unwrap_or target 0) (rest (Blocks rows target) c) 0 0 0 (k / rows)) size ∙ rest_blocks rows (unwrap_or target 0) (rows_len c) c h long

-- chunks and what is left are columns of the type
pub full_hold : (P : Rows → Type 0) (s : LeafStrategy) (c : Rows) → HasBlocks s → ((a b : ℕ) → a ≤ b → b ≤ rows_len c → P (part a b c)) → All P (full_chunks s c)
full_hold P Whole c h p = All-nil P
full_hold P (Blocks rows target) c h p =
    let within = blocks_within rows (rows_len c) h in
    chunks_hold P rows (unwrap_or target 0) (rows_len c) c p (rows_len c / rows) 0 0 0 (omega arith) (omega (arith, within))

pub rest_holds : (P : Rows → Type 0) (s : LeafStrategy) (c : Rows) → HasBlocks s → ((a b : ℕ) → a ≤ b → b ≤ rows_len c → P (part a b c)) → P (rest s c)
rest_holds P s c h p = p (cut s c).start (rows_len c) (start_inside s c h) (omega arith)

-- ---- pushes

pub appended_pushes : (d e : Dtype) (ds : List Rows) → d ≡ e → AllByRecursion (IsPush d) ds → AllByRecursion (IsPush e) ds
appended_pushes d e ds p h = subst (λ (x : Dtype). AllByRecursion (IsPush x) ds) p h

pub pushes_chunks : (s : LeafStrategy) (ds : List Rows) (c : Rows) → HasBlocks s → HasRows (rows_len c) c → AllByRecursion (IsPush (dtype_of c)) ds
    → (full_chunks s (all_pushed c ds) ≡ full_chunks s c ++ chunks_over s (rest s c) ds) × (rest s (all_pushed c ds) ≡ rest_over s (rest s c) ds)
pushes_chunks s [] c h p ps = (sym (append-nil (full_chunks s c)), refl)
pushes_chunks s (d ∷ ds) c h p ps =
    let push = ps.0 in
    let long = appended_rows (rows_len c) (rows_len d) c d push.typed p push.even in
    let both = subst (λ (k : ℕ). HasRows k (appended c d)) (sym (rows_are _ (appended c d) long)) long in
    let again = pushes_chunks s ds (appended c d) h both (appended_pushes (dtype_of c) (dtype_of (appended c d)) ds (sym (appended_type c d)) ps.1) in
    let full = full_goes_on s (rows_len c) (rows_len d) c d h push.typed p push.even in
    let left = rest_goes_on s (rows_len c) (rows_len d) c d h push.typed p push.even in (
      again.0 ∙ ap₂ (λ x y. x ++ chunks_over s y ds) full left ∙ append_assoc (full_chunks s c) (full_chunks s (appended (rest s c) d)) (chunks_over s (rest s (appended (rest s c) d)) ds),
      again.1 ∙ ap (λ y. rest_over s y ds) left,
    )
