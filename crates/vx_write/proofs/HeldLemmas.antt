-- Rows that come behind rows which fill no chunk.
use Rattle.std.proofs.Common.{◌≡◌, ℕ, suc, ◌+◌, ◌-◌, ◌*◌, ◌/◌, ◌<◌, ◌≤◌, Bool, true, false, ap, ap₂, sym, ◌∙◌, subst, arith, inl, inr}
use Rattle.std.specs.Prelude.{nat_le, if◌then◌else◌, ◌⊎◌}
use Rattle.std.proofs.lemmas.Bool.{cases_Bool}
use Rattle.std.proofs.Math.Nat.{mul-suc, mul-div-le, lt-mul-div-succ, div-eq_of_lt-le, mul_comm}
use Rattle.vx_rows.specs.Rows.{Rows, rows_len, dtype_of, HasRows}
use Rattle.vx_rows.specs.Parts.{part, appended, plain_size}
use Rattle.vx_rows.proofs.ColumnLaws.{part_of_part}
use Rattle.vx_write.specs.declared.gathering.Gathered.{Gathered}
use Rattle.vx_write.specs.declared.gathering.Gathered.TheVariants.{Full, Open}
use Rattle.vx_write.specs.Cutting.{Cut, cut_blocks, nothing_full, with_chunk}
use Rattle.vx_write.specs.Gathering.{gathered_from, first_end}
use Rattle.vx_write.proofs.CutLemmas.{cut_full, cut_open, more_size, SameRows, moved, blocks_moved}
use Rattle.vx_write.proofs.BehindLemmas.{back_same}
use Rattle.vx_write.proofs.CutLaws.{blocks_within, blocks_after, kept_goes_on}
use Rattle.vx_write.proofs.GatherLemmas.{Cuts, gather_cuts, gather_moved, place_moved}

-- ---- numbers

-- how many whole blocks are left
pub blocks_are : (rows q i y : ℕ) → 1 ≤ rows → y + rows * (q / rows) ≡ q + rows * i → y / rows ≡ i
blocks_are rows q i y h e =
    let low = mul-div-le q rows in
    let high = lt-mul-div-succ q h in
    let step = mul-suc rows (q / rows) in
    let one : q / rows + 1 ≡ suc (q / rows) = omega arith in
    let over : q < rows * (q / rows) + rows = subst (λ (x : ℕ). q < x) (ap (λ k. rows * k) one ∙ step) high in
    let a : rows * i ≤ y = omega (arith, e, low) in
    let b : y < rows * i + rows = omega (arith, e, over) in
    let more : (i + 1) * rows ≡ rows * i + rows = mul_comm (i + 1) rows ∙ ap (λ k. rows * k) (one-more i) ∙ mul-suc rows i in
    div-eq_of_lt-le rows (subst (λ (x : ℕ). x ≤ y) (mul_comm rows i) a) (subst (λ (x : ℕ). y < x) (sym more) b)
  where
    one-more : (k : ℕ) → k + 1 ≡ suc k
    one-more k = omega arith

-- ---- the rows behind those that are held

-- the end of a column behind others
pub end_same : (c d : Rows) (e : ℕ) → dtype_of c ≡ dtype_of d → HasRows (rows_len c) c → HasRows (rows_len d) d → e ≤ rows_len d
    → SameRows (rows_len c + e) (rows_len d - e) (appended c d) (part e (rows_len d) d)
end_same c d e t p q l = record {
  same = λ a b o k.
      let x : rows_len c + e + a ≡ rows_len c + (e + a) = omega arith in
      let y : rows_len c + e + b ≡ rows_len c + (e + b) = omega arith in
      ap₂ (λ i j. part i j (appended c d)) x y
      ∙ (back_same (rows_len c) (rows_len d) c d t p q).same (e + a) (e + b) (omega (arith, o)) (omega (arith, k, l))
      ∙ sym (part_of_part e (rows_len d) a b d o k);
}

pub end_cut : (rows target : ℕ) (c d : Rows) (e i : ℕ) → dtype_of c ≡ dtype_of d → HasRows (rows_len c) c → HasRows (rows_len d) d → e ≤ rows_len d → e + rows * i ≤ rows_len d
    → cut_blocks rows target (appended c d) (rows_len c + e) 0 (rows_len c + e) i ≡ moved (rows_len c + e) (cut_blocks rows target (part e (rows_len d) d) 0 0 0 i)
end_cut rows target c d e i t p q l h =
    let z : rows_len c + e ≡ rows_len c + e + 0 = omega arith in
    ap (λ k. cut_blocks rows target (appended c d) k 0 k i) z
    ∙ blocks_moved rows target (rows_len c + e) (rows_len d - e) (appended c d) (part e (rows_len d) d) (end_same c d e t p q l) i 0 0 0 (omega arith) (omega (arith, h))

-- ---- where the chunk of the rows that are held ends

abbrev pub end_blocks : ℕ → ℕ → Rows → ℕ → Cut
end_blocks rows target d e = cut_blocks rows target (part e (rows_len d) d) 0 0 0 ((rows_len d - e) / rows)

pub record FirstFull (rows target : ℕ) (c d : Rows) (from e : ℕ) : Type 0 where
  pub low : from ≤ e
  pub high : e ≤ rows_len d
  pub chunk : cut_blocks rows target (appended c d) 0 0 0 ((rows_len c + rows_len d) / rows) ≡ with_chunk (part 0 (rows_len c + e) (appended c d)) (moved (rows_len c + e) (end_blocks rows target d e))

abbrev pub HeldCut : ℕ → ℕ → Rows → Rows → ℕ → Gathered → Type 0
HeldCut rows target c d from (Full e) = FirstFull rows target c d from e
HeldCut rows target c d from (Open sum) = cut_blocks rows target (appended c d) 0 0 0 ((rows_len c + rows_len d) / rows) ≡ nothing_full 0 sum

-- the block that rows share with those that come
abbrev pub shared_block : ℕ → Rows → Rows → ℕ → Rows
shared_block rows c d from = part (rows * (rows_len c / rows)) (rows_len c + from) (appended c d)

-- what is asked of rows that are held and rows that come
pub record Meets (rows target : ℕ) (c d : Rows) (gathered from : ℕ) : Type 0 where
  pub blocks : 1 ≤ rows
  pub typed : dtype_of c ≡ dtype_of d
  pub held : HasRows (rows_len c) c
  pub come : HasRows (rows_len d) d
  pub none_full : cut_blocks rows target c 0 0 0 (rows_len c / rows) ≡ nothing_full 0 gathered
  pub missing : rows_len c + from ≡ rows * (rows_len c / rows) + rows
  pub enough : from ≤ rows_len d

-- behind the block that is shared
from_there : (rows target : ℕ) (c d : Rows) (gathered from sum : ℕ) → Meets rows target c d gathered from → (g : Gathered)
    → Cuts rows target (appended c d) sum (rows_len c + from) ((rows_len d - from) / rows) (place_moved (rows_len c) g)
    → cut_blocks rows target (appended c d) 0 0 0 ((rows_len c + rows_len d) / rows) ≡ cut_blocks rows target (appended c d) 0 sum (rows_len c + from) ((rows_len d - from) / rows)
    → HeldCut rows target c d from g
from_there rows target c d gathered from sum m (Full e) f is =
    let further = f.further in
    let place = f.place in
    let enough = m.enough in
    let within = mul-div-le (rows_len d - from) rows in
    let fits : e + rows * f.left ≤ rows_len d = omega (arith, place, within, enough) in
    let inside : e ≤ rows_len d = omega (arith, fits) in
    let many : (rows_len d - e) / rows ≡ f.left = blocks_are rows (rows_len d - from) f.left (rows_len d - e) m.blocks (omega (arith, place, enough, inside)) in record {
      low = omega (arith, further);
      high = inside;
      chunk = is ∙ f.chunk 0 ∙ ap (with_chunk (part 0 (rows_len c + e) (appended c d)))
          (end_cut rows target c d e f.left m.typed m.held m.come inside fits ∙ ap (λ i. moved (rows_len c + e) (cut_blocks rows target (part e (rows_len d) d) 0 0 0 i)) (sym many));
    }
from_there rows target c d gathered from sum m (Open s) f is = is ∙ f 0

pub held_cut : (rows target : ℕ) (c d : Rows) (gathered from : ℕ) → Meets rows target c d gathered from
    → HeldCut rows target c d from (first_end rows target d gathered (plain_size (shared_block rows c d from)) from)
held_cut rows target c d gathered from m =
    let within = blocks_within rows (rows_len c) m.blocks in
    let missing = m.missing in
    let enough = m.enough in
    let step = mul-suc rows (rows_len c / rows) in
    let next : rows * suc (rows_len c / rows) ≡ rows_len c + from = omega (arith, step, missing) in
    let behind : rows_len c + rows_len d - rows * suc (rows_len c / rows) ≡ rows_len d - from = omega (arith, next) in
    let all : rows_len c / rows + suc ((rows_len d - from) / rows) ≡ (rows_len c + rows_len d) / rows =
    suc_over (rows_len c / rows) ((rows_len d - from) / rows)
    ∙ ap (λ z. suc (rows_len c / rows) + z / rows) (sym behind)
    ∙ blocks_after rows (suc (rows_len c / rows)) (rows_len c + rows_len d) m.blocks (omega (arith, next, enough)) in
    let start : cut_blocks rows target (appended c d) 0 0 0 ((rows_len c + rows_len d) / rows) ≡ cut_blocks rows target (appended c d) 0 gathered (rows * (rows_len c / rows)) (suc ((rows_len d - from) / rows)) =
    ap (cut_blocks rows target (appended c d) 0 0 0) (sym all)
    ∙ kept_goes_on rows target (rows_len c) gathered c d m.held (rows_len c / rows) (suc ((rows_len d - from) / rows)) within m.none_full in
    let block : part (rows * (rows_len c / rows)) (rows * (rows_len c / rows) + rows) (appended c d) ≡ shared_block rows c d from =
    ap (λ z. part (rows * (rows_len c / rows)) z (appended c d)) (sym missing) in
    let size : more_size rows (appended c d) gathered (rows * (rows_len c / rows)) ≡ gathered + plain_size (shared_block rows c d from) = ap (λ x. gathered + plain_size x) block in
    by start size (cases_Bool (nat_le target (gathered + plain_size (shared_block rows c d from))))
  where
    suc_over : (a b : ℕ) → a + suc b ≡ suc a + b
    suc_over a b = omega arith

    by : cut_blocks rows target (appended c d) 0 0 0 ((rows_len c + rows_len d) / rows) ≡ cut_blocks rows target (appended c d) 0 gathered (rows * (rows_len c / rows)) (suc ((rows_len d - from) / rows))
        → more_size rows (appended c d) gathered (rows * (rows_len c / rows)) ≡ gathered + plain_size (shared_block rows c d from)
        → (nat_le target (gathered + plain_size (shared_block rows c d from)) ≡ true) ⊎ (nat_le target (gathered + plain_size (shared_block rows c d from)) ≡ false)
        → HeldCut rows target c d from (first_end rows target d gathered (plain_size (shared_block rows c d from)) from)
    by start size (inl k) =
        let enough = m.enough in
        let fits = mul-div-le (rows_len d - from) rows in
        subst (HeldCut rows target c d from)
        (sym (ap (λ (b : Bool). if b then Full from else gathered_from rows target d (gathered + plain_size (shared_block rows c d from)) from ((rows_len d - from) / rows)) k))
        (record {
          low = omega arith;
          high = enough;
          chunk = start ∙ cut_full rows target (appended c d) 0 gathered (rows * (rows_len c / rows)) ((rows_len d - from) / rows) (ap (nat_le target) size ∙ k)
              ∙ ap (λ z. with_chunk (part 0 z (appended c d)) (cut_blocks rows target (appended c d) z 0 z ((rows_len d - from) / rows))) (sym m.missing)
              ∙ ap (with_chunk (part 0 (rows_len c + from) (appended c d))) (end_cut rows target c d from ((rows_len d - from) / rows) m.typed m.held m.come enough (omega (arith, fits, enough)));
        })
    by start size (inr k) =
        let sum = gathered + plain_size (shared_block rows c d from) in
        let enough = m.enough in
        let fits = mul-div-le (rows_len d - from) rows in
        let found = gathered_from rows target d sum from ((rows_len d - from) / rows) in
        let here = gather_moved rows target (rows_len c) (rows_len d) (appended c d) d (back_same (rows_len c) (rows_len d) c d m.typed m.held m.come) ((rows_len d - from) / rows) sum from (omega (arith, fits, enough)) in
        let open_here : cut_blocks rows target (appended c d) 0 0 0 ((rows_len c + rows_len d) / rows) ≡ cut_blocks rows target (appended c d) 0 sum (rows_len c + from) ((rows_len d - from) / rows) =
        start ∙ cut_open rows target (appended c d) 0 gathered (rows * (rows_len c / rows)) ((rows_len d - from) / rows) (ap (nat_le target) size ∙ k)
        ∙ ap₂ (λ g z. cut_blocks rows target (appended c d) 0 g z ((rows_len d - from) / rows)) size (sym m.missing) in
        subst (HeldCut rows target c d from)
        (sym (ap (λ (b : Bool). if b then Full from else gathered_from rows target d sum from ((rows_len d - from) / rows)) k))
        (from_there rows target c d gathered from sum m found
        (subst (Cuts rows target (appended c d) sum (rows_len c + from) ((rows_len d - from) / rows)) here (gather_cuts rows target (appended c d) m.blocks ((rows_len d - from) / rows) sum (rows_len c + from)))
        open_here)
