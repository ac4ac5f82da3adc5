-- How blocks are gathered: a column that goes on, a part of a column, and the rows behind full chunks.
use Rattle.std.proofs.Common.{◌≡◌, ℕ, zero, suc, ◌+◌, ◌*◌, ◌≤◌, Bool, true, false, refl, ap, sym, ◌∙◌, subst, arith, inl, inr}
use Rattle.std.specs.Prelude.{nat_le, if◌then◌else◌, ◌⊎◌}
use Rattle.std.proofs.lemmas.Bool.{cases_Bool}
use Rattle.std.proofs.Math.Nat.{mul-suc}
use Rattle.vx_rows.specs.Rows.{Rows}
use Rattle.vx_rows.specs.Parts.{part, plain_size}
use Rattle.vx_write.specs.Cutting.{Cut, cut_blocks, nothing_full, with_chunk, with_chunks}

-- ---- one block

-- the sum of sizes with a block more
abbrev pub more_size : ℕ → Rows → ℕ → ℕ → ℕ
more_size rows c gathered at = gathered + plain_size (part at (at + rows) c)

pub cut_full : (rows target : ℕ) (c : Rows) (start gathered at n : ℕ) → nat_le target (more_size rows c gathered at) ≡ true
    → cut_blocks rows target c start gathered at (suc n) ≡ with_chunk (part start (at + rows) c) (cut_blocks rows target c (at + rows) 0 (at + rows) n)
unfolding cut_blocks
cut_full rows target c start gathered at n e =
    ap (λ (b : Bool). if b then with_chunk (part start (at + rows) c) (cut_blocks rows target c (at + rows) 0 (at + rows) n) else cut_blocks rows target c start (more_size rows c gathered at) (at + rows) n) e

pub cut_open : (rows target : ℕ) (c : Rows) (start gathered at n : ℕ) → nat_le target (more_size rows c gathered at) ≡ false
    → cut_blocks rows target c start gathered at (suc n) ≡ cut_blocks rows target c start (more_size rows c gathered at) (at + rows) n
unfolding cut_blocks
cut_open rows target c start gathered at n e =
    ap (λ (b : Bool). if b then with_chunk (part start (at + rows) c) (cut_blocks rows target c (at + rows) 0 (at + rows) n) else cut_blocks rows target c start (more_size rows c gathered at) (at + rows) n) e

pub cut_none : (rows target : ℕ) (c : Rows) (start gathered at : ℕ) → cut_blocks rows target c start gathered at zero ≡ nothing_full start gathered
unfolding cut_blocks
cut_none rows target c start gathered at = refl

-- ---- more blocks

-- the blocks behind others are cut as those left them
abbrev pub go_on : ℕ → ℕ → Rows → ℕ → ℕ → Cut → Cut
go_on rows target c at n x = with_chunks x.chunks (cut_blocks rows target c x.start x.gathered at n)

pub blocks_behind : (rows target : ℕ) (c : Rows) (m n start gathered at : ℕ)
    → cut_blocks rows target c start gathered at (m + n) ≡ go_on rows target c (at + rows * m) n (cut_blocks rows target c start gathered at m)
blocks_behind rows target c zero n start gathered at =
    let e : zero + n ≡ n = omega arith in
    let f : at ≡ at + rows * zero = omega arith in
    ap (cut_blocks rows target c start gathered at) e
    ∙ ap (λ a. cut_blocks rows target c start gathered a n) f
    ∙ ap (go_on rows target c (at + rows * zero) n) (sym (cut_none rows target c start gathered at))
blocks_behind rows target c (suc m) n start gathered at =
    let e : suc m + n ≡ suc (m + n) = omega arith in
    let step = mul-suc rows m in
    let f : at + rows + rows * m ≡ at + rows * suc m = omega (arith, step) in
    ap (cut_blocks rows target c start gathered at) e ∙ by f (λ s g. blocks_behind rows target c m n s g (at + rows)) (cases_Bool (nat_le target (more_size rows c gathered at)))
  where
    by : at + rows + rows * m ≡ at + rows * suc m
        → ((s g : ℕ) → cut_blocks rows target c s g (at + rows) (m + n) ≡ go_on rows target c (at + rows + rows * m) n (cut_blocks rows target c s g (at + rows) m))
        → (nat_le target (more_size rows c gathered at) ≡ true) ⊎ (nat_le target (more_size rows c gathered at) ≡ false)
        → cut_blocks rows target c start gathered at (suc (m + n)) ≡ go_on rows target c (at + rows * suc m) n (cut_blocks rows target c start gathered at (suc m))
    by f again (inl h) =
        cut_full rows target c start gathered at (m + n) h
        ∙ ap (with_chunk (part start (at + rows) c)) (again (at + rows) 0 ∙ ap (λ a. go_on rows target c a n (cut_blocks rows target c (at + rows) 0 (at + rows) m)) f)
        ∙ ap (go_on rows target c (at + rows * suc m) n) (sym (cut_full rows target c start gathered at m h))
    by f again (inr h) =
        cut_open rows target c start gathered at (m + n) h
        ∙ again start (more_size rows c gathered at)
        ∙ ap (λ a. go_on rows target c a n (cut_blocks rows target c start (more_size rows c gathered at) (at + rows) m)) f
        ∙ ap (go_on rows target c (at + rows * suc m) n) (sym (cut_open rows target c start gathered at m h))

-- ---- the same rows in another column

-- the rows of a column from one on are those of another, as far as this goes
pub record SameRows (from n : ℕ) (c d : Rows) : Type 0 where
  pub same : (a b : ℕ) → a ≤ b → b ≤ n → part (from + a) (from + b) c ≡ part a b d

abbrev pub moved : ℕ → Cut → Cut
moved from x = record { chunks = x.chunks; start = from + x.start; gathered = x.gathered }

pub blocks_moved : (rows target from n : ℕ) (c d : Rows) → SameRows from n c d → (m start gathered at : ℕ) → start ≤ at → at + rows * m ≤ n
    → cut_blocks rows target c (from + start) gathered (from + at) m ≡ moved from (cut_blocks rows target d start gathered at m)
blocks_moved rows target from n c d s zero start gathered at o h =
    cut_none rows target c (from + start) gathered (from + at) ∙ ap (moved from) (sym (cut_none rows target d start gathered at))
blocks_moved rows target from n c d s (suc m) start gathered at o h =
    let step = mul-suc rows m in
    let here : at + rows ≤ n = omega (arith, step, h) in
    let rest : at + rows + rows * m ≤ n = omega (arith, step, h) in
    let there : from + (at + rows) ≡ from + at + rows = omega arith in
    let block : part (from + at) (from + at + rows) c ≡ part at (at + rows) d = ap (λ b. part (from + at) b c) (sym there) ∙ s.same at (at + rows) (omega arith) here in
    let chunk : part (from + start) (from + at + rows) c ≡ part start (at + rows) d = ap (λ b. part (from + start) b c) (sym there) ∙ s.same start (at + rows) (omega (arith, o)) here in
    let size : more_size rows c gathered (from + at) ≡ more_size rows d gathered at = ap (λ x. gathered + plain_size x) block in
    by there chunk size (λ s' g l. blocks_moved rows target from n c d s m s' g (at + rows) l rest) (cases_Bool (nat_le target (more_size rows d gathered at)))
  where
    by : from + (at + rows) ≡ from + at + rows → part (from + start) (from + at + rows) c ≡ part start (at + rows) d
        → more_size rows c gathered (from + at) ≡ more_size rows d gathered at
        → ((s g : ℕ) → s ≤ at + rows → cut_blocks rows target c (from + s) g (from + (at + rows)) m ≡ moved from (cut_blocks rows target d s g (at + rows) m))
        → (nat_le target (more_size rows d gathered at) ≡ true) ⊎ (nat_le target (more_size rows d gathered at) ≡ false)
        → cut_blocks rows target c (from + start) gathered (from + at) (suc m) ≡ moved from (cut_blocks rows target d start gathered at (suc m))
    by there chunk size again (inl k) =
        cut_full rows target c (from + start) gathered (from + at) m (ap (nat_le target) size ∙ k)
        ∙ ap (λ x. with_chunk x (cut_blocks rows target c (from + at + rows) 0 (from + at + rows) m)) chunk
        ∙ ap (λ a. with_chunk (part start (at + rows) d) (cut_blocks rows target c a 0 a m)) (sym there)
        ∙ ap (with_chunk (part start (at + rows) d)) (again (at + rows) 0 (omega arith))
        ∙ ap (moved from) (sym (cut_full rows target d start gathered at m k))
    by there chunk size again (inr k) =
        cut_open rows target c (from + start) gathered (from + at) m (ap (nat_le target) size ∙ k)
        ∙ ap (λ g. cut_blocks rows target c (from + start) g (from + at + rows) m) size
        ∙ ap (λ a. cut_blocks rows target c (from + start) (more_size rows d gathered at) a m) (sym there)
        ∙ again start (more_size rows d gathered at) (omega (arith, o))
        ∙ ap (moved from) (sym (cut_open rows target d start gathered at m k))

-- ---- what is left behind full chunks

-- the next chunk begins where some blocks end, and those behind fill no chunk
pub record Begins (rows target : ℕ) (c : Rows) (at m : ℕ) (x : Cut) : Type 0 where
  pub before : ℕ
  pub behind : ℕ
  pub all : before + behind ≡ m
  pub start : x.start ≡ at + rows * before
  pub none_full : cut_blocks rows target c x.start 0 x.start behind ≡ nothing_full x.start x.gathered

abbrev pub Left : ℕ → ℕ → Rows → ℕ → ℕ → ℕ → Cut → Type 0
Left rows target c start at m x = (x ≡ nothing_full start x.gathered) ⊎ Begins rows target c at m x

left_more : (rows target : ℕ) (c : Rows) (at m : ℕ) (x : Cut) → Begins rows target c (at + rows) m x → Begins rows target c at (suc m) x
left_more rows target c at m x b = record {
  before = suc b.before;
  behind = b.behind;
  all = let e = b.all in omega (arith, e);
  start = let e = b.start in let step = mul-suc rows b.before in omega (arith, e, step);
  none_full = b.none_full;
}

pub blocks_left : (rows target : ℕ) (c : Rows) (m start gathered at : ℕ) → Left rows target c start at m (cut_blocks rows target c start gathered at m)
blocks_left rows target c zero start gathered at = inl (subst (λ (x : Cut). x ≡ nothing_full start x.gathered) (sym (cut_none rows target c start gathered at)) refl)
blocks_left rows target c (suc m) start gathered at = by (λ s g. blocks_left rows target c m s g (at + rows)) (cases_Bool (nat_le target (more_size rows c gathered at)))
  where
    full : Left rows target c (at + rows) (at + rows) m (cut_blocks rows target c (at + rows) 0 (at + rows) m)
        → Begins rows target c at (suc m) (cut_blocks rows target c (at + rows) 0 (at + rows) m)
    full (inl e) = record {
      before = 1;
      behind = m;
      all = omega arith;
      start = ap (λ (x : Cut). x.start) e ∙ omega arith;
      none_full = ap (λ a. cut_blocks rows target c a 0 a m) (ap (λ (x : Cut). x.start) e) ∙ e ∙ ap (λ a. nothing_full a (cut_blocks rows target c (at + rows) 0 (at + rows) m).gathered) (sym (ap (λ (x : Cut). x.start) e));
    }
    full (inr b) = left_more rows target c at m (cut_blocks rows target c (at + rows) 0 (at + rows) m) b

    still : Left rows target c start (at + rows) m (cut_blocks rows target c start (more_size rows c gathered at) (at + rows) m)
        → Left rows target c start at (suc m) (cut_blocks rows target c start (more_size rows c gathered at) (at + rows) m)
    still (inl e) = inl e
    still (inr b) = inr (left_more rows target c at m (cut_blocks rows target c start (more_size rows c gathered at) (at + rows) m) b)

    chunk-more : (y : Cut) → Begins rows target c at (suc m) y → Begins rows target c at (suc m) (with_chunk (part start (at + rows) c) y)
    chunk-more y b = record { before = b.before; behind = b.behind; all = b.all; start = b.start; none_full = b.none_full }

    by : ((s g : ℕ) → Left rows target c s (at + rows) m (cut_blocks rows target c s g (at + rows) m))
        → (nat_le target (more_size rows c gathered at) ≡ true) ⊎ (nat_le target (more_size rows c gathered at) ≡ false)
        → Left rows target c start at (suc m) (cut_blocks rows target c start gathered at (suc m))
    by again (inl k) = subst (Left rows target c start at (suc m)) (sym (cut_full rows target c start gathered at m k))
        (inr (chunk-more (cut_blocks rows target c (at + rows) 0 (at + rows) m) (full (again (at + rows) 0))))
    by again (inr k) = subst (Left rows target c start at (suc m)) (sym (cut_open rows target c start gathered at m k)) (still (again start (more_size rows c gathered at)))
