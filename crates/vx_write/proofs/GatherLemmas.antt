-- Where gathered blocks fill a chunk.
use Rattle.std.proofs.Common.{◌≡◌, ℕ, zero, suc, ◌+◌, ◌-◌, ◌*◌, ◌/◌, ◌^◌, ◌<◌, ◌≤◌, min, Bool, true, false, refl, ap, ap₂, sym, ◌∙◌, subst, arith, inl, inr}
use Rattle.std.specs.Prelude.{nat_le, if◌then◌else◌, ◌⊎◌}
use Rattle.std.proofs.lemmas.Bool.{cases_Bool, le-leb}
use Rattle.std.proofs.lemmas.Bool.Decides.{leb_tells}
use Rattle.std.proofs.Math.Nat.{mul-suc, mul-div-le}
use Rattle.vx_rows.specs.Rows.{Rows}
use Rattle.vx_rows.specs.Parts.{part, plain_size}
use Rattle.vx_write.specs.declared.gathering.Gathered.{Gathered}
use Rattle.vx_write.specs.declared.gathering.Gathered.TheVariants.{Full, Open}
use Rattle.vx_write.specs.Cutting.{cut_blocks, nothing_full, with_chunk}
use Rattle.vx_write.specs.Gathering.{gathered_from, EndsWithin}
use Rattle.vx_write.proofs.CutLemmas.{cut_full, cut_open, cut_none, more_size, SameRows}

-- ---- sizes of at most 2^64 - 1

pub full_test : (target gathered block size : ℕ) → target < 2 ^ 64 → block ≡ min size (2 ^ 64 - 1) → nat_le (target - gathered) block ≡ nat_le target (gathered + size)
full_test target gathered block size t e = by (leb_tells (target - gathered) block) (leb_tells target (gathered + size))
  where
    by : ((nat_le (target - gathered) block ≡ true) × (target - gathered ≤ block)) ⊎ ((nat_le (target - gathered) block ≡ false) × (block < target - gathered))
        → ((nat_le target (gathered + size) ≡ true) × (target ≤ gathered + size)) ⊎ ((nat_le target (gathered + size) ≡ false) × (gathered + size < target))
        → nat_le (target - gathered) block ≡ nat_le target (gathered + size)
    by (inl a) (inl b) = a.0 ∙ sym b.0
    by (inl a) (inr b) = let x = a.1 in let y = b.1 in absurd (omega (arith, x, y, e, t))
    by (inr a) (inl b) = let x = a.1 in let y = b.1 in absurd (omega (arith, x, y, e, t))
    by (inr a) (inr b) = a.0 ∙ sym b.0

pub open_size : (target gathered block size : ℕ) → target < 2 ^ 64 → block < target - gathered → block ≡ min size (2 ^ 64 - 1) → block ≡ size
open_size target gathered block size t h e = omega (arith, t, h, e)

-- ---- one block

pub gather_none : (rows target : ℕ) (c : Rows) (gathered at : ℕ) → gathered_from rows target c gathered at zero ≡ Open gathered
unfolding gathered_from
gather_none rows target c gathered at = refl

pub gather_full : (rows target : ℕ) (c : Rows) (gathered at n : ℕ) → nat_le target (more_size rows c gathered at) ≡ true → gathered_from rows target c gathered at (suc n) ≡ Full (at + rows)
unfolding gathered_from
gather_full rows target c gathered at n e = ap (λ (b : Bool). if b then Full (at + rows) else gathered_from rows target c (more_size rows c gathered at) (at + rows) n) e

pub gather_open : (rows target : ℕ) (c : Rows) (gathered at n : ℕ) → nat_le target (more_size rows c gathered at) ≡ false
    → gathered_from rows target c gathered at (suc n) ≡ gathered_from rows target c (more_size rows c gathered at) (at + rows) n
unfolding gathered_from
gather_open rows target c gathered at n e = ap (λ (b : Bool). if b then Full (at + rows) else gathered_from rows target c (more_size rows c gathered at) (at + rows) n) e

-- any block fills a chunk that has as many bytes as it is to have
pub full_anyhow : (rows target : ℕ) (c : Rows) (gathered at : ℕ) → target ≤ gathered → nat_le target (more_size rows c gathered at) ≡ true
full_anyhow rows target c gathered at h = le-leb target (more_size rows c gathered at) (omega (arith, h))

-- ---- what cutting makes of it

pub record FillsAt (rows target : ℕ) (c : Rows) (gathered at m end : ℕ) : Type 0 where
  pub left : ℕ
  pub place : end + rows * left ≡ at + rows * m
  pub further : at < end
  pub chunk : (start : ℕ) → cut_blocks rows target c start gathered at m ≡ with_chunk (part start end c) (cut_blocks rows target c end 0 end left)

abbrev pub Cuts : ℕ → ℕ → Rows → ℕ → ℕ → ℕ → Gathered → Type 0
Cuts rows target c gathered at m (Full end) = FillsAt rows target c gathered at m end
Cuts rows target c gathered at m (Open sum) = (start : ℕ) → cut_blocks rows target c start gathered at m ≡ nothing_full start sum

cuts_later : (rows target : ℕ) (c : Rows) (gathered at m : ℕ) (g : Gathered) → nat_le target (more_size rows c gathered at) ≡ false
    → Cuts rows target c (more_size rows c gathered at) (at + rows) m g → Cuts rows target c gathered at (suc m) g
cuts_later rows target c gathered at m (Full end) k f = record {
  left = f.left;
  place = let e = f.place in let step = mul-suc rows m in omega (arith, e, step);
  further = let e = f.further in omega (arith, e);
  chunk = λ start. cut_open rows target c start gathered at m k ∙ f.chunk start;
}
cuts_later rows target c gathered at m (Open sum) k f = λ start. cut_open rows target c start gathered at m k ∙ f start

pub gather_cuts : (rows target : ℕ) (c : Rows) → 1 ≤ rows → (m gathered at : ℕ) → Cuts rows target c gathered at m (gathered_from rows target c gathered at m)
gather_cuts rows target c h zero gathered at =
    subst (Cuts rows target c gathered at zero) (sym (gather_none rows target c gathered at)) (λ start. cut_none rows target c start gathered at)
gather_cuts rows target c h (suc m) gathered at = by (gather_cuts rows target c h m (more_size rows c gathered at) (at + rows)) (cases_Bool (nat_le target (more_size rows c gathered at)))
  where
    by : Cuts rows target c (more_size rows c gathered at) (at + rows) m (gathered_from rows target c (more_size rows c gathered at) (at + rows) m)
        → (nat_le target (more_size rows c gathered at) ≡ true) ⊎ (nat_le target (more_size rows c gathered at) ≡ false)
        → Cuts rows target c gathered at (suc m) (gathered_from rows target c gathered at (suc m))
    by again (inl k) = subst (Cuts rows target c gathered at (suc m)) (sym (gather_full rows target c gathered at m k)) (record {
      left = m;
      place = let step = mul-suc rows m in omega (arith, step);
      further = omega (arith, h);
      chunk = λ start. cut_full rows target c start gathered at m k;
    })
    by again (inr k) = subst (Cuts rows target c gathered at (suc m)) (sym (gather_open rows target c gathered at m k))
        (cuts_later rows target c gathered at m (gathered_from rows target c (more_size rows c gathered at) (at + rows) m) k again)

-- ---- the same rows in another column

abbrev pub place_moved : ℕ → Gathered → Gathered
place_moved from (Full end) = Full (from + end)
place_moved from (Open sum) = Open sum

pub gather_moved : (rows target from n : ℕ) (c d : Rows) → SameRows from n c d → (m gathered at : ℕ) → at + rows * m ≤ n
    → gathered_from rows target c gathered (from + at) m ≡ place_moved from (gathered_from rows target d gathered at m)
gather_moved rows target from n c d s zero gathered at h = gather_none rows target c gathered (from + at) ∙ ap (place_moved from) (sym (gather_none rows target d gathered at))
gather_moved rows target from n c d s (suc m) gathered at h =
    let step = mul-suc rows m in
    let here : at + rows ≤ n = omega (arith, step, h) in
    let rest : at + rows + rows * m ≤ n = omega (arith, step, h) in
    let there : from + (at + rows) ≡ from + at + rows = omega arith in
    let block : part (from + at) (from + at + rows) c ≡ part at (at + rows) d = ap (λ b. part (from + at) b c) (sym there) ∙ s.same at (at + rows) (omega arith) here in
    let size : more_size rows c gathered (from + at) ≡ more_size rows d gathered at = ap (λ x. gathered + plain_size x) block in
    by there size (λ g. gather_moved rows target from n c d s m g (at + rows) rest) (cases_Bool (nat_le target (more_size rows d gathered at)))
  where
    by : from + (at + rows) ≡ from + at + rows → more_size rows c gathered (from + at) ≡ more_size rows d gathered at
        → ((g : ℕ) → gathered_from rows target c g (from + (at + rows)) m ≡ place_moved from (gathered_from rows target d g (at + rows) m))
        → (nat_le target (more_size rows d gathered at) ≡ true) ⊎ (nat_le target (more_size rows d gathered at) ≡ false)
        → gathered_from rows target c gathered (from + at) (suc m) ≡ place_moved from (gathered_from rows target d gathered at (suc m))
    by there size again (inl k) =
        gather_full rows target c gathered (from + at) m (ap (nat_le target) size ∙ k) ∙ ap Full (sym there) ∙ ap (place_moved from) (sym (gather_full rows target d gathered at m k))
    by there size again (inr k) =
        gather_open rows target c gathered (from + at) m (ap (nat_le target) size ∙ k)
        ∙ ap₂ (λ g a. gathered_from rows target c g a m) size (sym there)
        ∙ again (more_size rows d gathered at)
        ∙ ap (place_moved from) (sym (gather_open rows target d gathered at m k))

-- ---- rows that are left behind a full chunk

pub gather_within : (rows target : ℕ) (c : Rows) (m gathered from at n : ℕ) → 1 ≤ rows → from ≤ at → at + rows * m ≤ n → EndsWithin from n (gathered_from rows target c gathered at m)
gather_within rows target c m gathered from at n h o l = by (gathered_from rows target c gathered at m) (gather_cuts rows target c h m gathered at)
  where
    by : (g : Gathered) → Cuts rows target c gathered at m g → EndsWithin from n g
    by (Full end) f = let a = f.place in let b = f.further in (omega (arith, b, o), omega (arith, a, l))
    by (Open sum) f = tt

-- ---- a turn of the loop

one_less : (block end : ℕ) → block < end → end - block ≡ suc (end - (block + 1))
one_less block end h = omega (arith, h)

pub full_turn : (rows target : ℕ) (c : Rows) (gathered at block end : ℕ) (whole : Gathered) → block < end → nat_le target (more_size rows c gathered at) ≡ true
    → gathered_from rows target c gathered at (end - block) ≡ whole → Full (at + rows) ≡ whole
full_turn rows target c gathered at block end whole h k e =
    sym (gather_full rows target c gathered at (end - (block + 1)) k) ∙ ap (gathered_from rows target c gathered at) (sym (one_less block end h)) ∙ e

pub open_turn : (rows target : ℕ) (c : Rows) (gathered at block end size : ℕ) (whole : Gathered) → block < end → nat_le target (more_size rows c gathered at) ≡ false
    → size ≡ plain_size (part at (at + rows) c) → gathered_from rows target c gathered at (end - block) ≡ whole → gathered_from rows target c (gathered + size) (at + rows) (end - (block + 1)) ≡ whole
open_turn rows target c gathered at block end size whole h k s e =
    ap (λ x. gathered_from rows target c (gathered + x) (at + rows) (end - (block + 1))) s
    ∙ sym (gather_open rows target c gathered at (end - (block + 1)) k)
    ∙ ap (gathered_from rows target c gathered at) (sym (one_less block end h))
    ∙ e

pub place_turn : (rows at block end sum : ℕ) → block < end → at + rows * (end - block) ≡ sum → at + rows + rows * (end - (block + 1)) ≡ sum
place_turn rows at block end sum h e =
    let step = mul-suc rows (end - (block + 1)) in
    let less : rows * (end - block) ≡ rows * suc (end - (block + 1)) = ap (λ n. rows * n) (one_less block end h) in
    omega (arith, step, less, e)

pub place_within : (rows at block end from n : ℕ) → block < end → end ≡ (n - from) / rows → from ≤ n → at + rows * (end - block) ≡ from + rows * end → at + rows ≤ n
place_within rows at block end from n h q o e =
    let step = mul-suc rows (end - (block + 1)) in
    let less : rows * (end - block) ≡ rows * suc (end - (block + 1)) = ap (λ k. rows * k) (one_less block end h) in
    let fits : rows * end ≤ n - from = subst (λ k. rows * k ≤ n - from) (sym q) (mul-div-le (n - from) rows) in
    omega (arith, step, less, e, fits, o)

pub last_turn : (rows target : ℕ) (c : Rows) (gathered at block end : ℕ) (whole : Gathered) → end ≤ block → gathered_from rows target c gathered at (end - block) ≡ whole → Open gathered ≡ whole
last_turn rows target c gathered at block end whole h e =
    let none : end - block ≡ zero = omega (arith, h) in
    sym (gather_none rows target c gathered at) ∙ ap (gathered_from rows target c gathered at) (sym none) ∙ e
