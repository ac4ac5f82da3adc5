-- The numbers of a vector, one after the other.
use Rattle.std.proofs.Common.{◌≡◌, ℕ, suc, ◌+◌, ◌-◌, ◌<◌, List, [], ◌∷◌, ◌++◌, take, drop, sym, ap, ◌∙◌, arith, append_assoc}
use Rattle.std.specs.Int.{w32, from_le_bytes}
use Rattle.vx_tables.specs.Field.{numbers_in}

numbers_next : (i count : ℕ) (cells : List ℕ) → i < count → numbers_in (count - i) cells ≡ from_le_bytes w32 (take 4 cells) ∷ numbers_in (count - (i + 1)) (drop 4 cells)
numbers_next i count cells lt =
    let more : count - i ≡ suc (count - (i + 1)) = omega arith in
    ap (λ n. numbers_in n cells) more

pub numbers_step : (made cells rest : List ℕ) (x i count : ℕ) → i < count → x ≡ from_le_bytes w32 (take 4 cells) → rest ≡ drop 4 cells
    → (made ++ x ∷ []) ++ numbers_in (count - (i + 1)) rest ≡ made ++ numbers_in (count - i) cells
numbers_step made cells rest x i count lt number behind =
    append_assoc made (x ∷ []) (numbers_in (count - (i + 1)) rest)
    ∙ ap (λ y. made ++ y ∷ numbers_in (count - (i + 1)) rest) number
    ∙ ap (λ r. made ++ from_le_bytes w32 (take 4 cells) ∷ numbers_in (count - (i + 1)) r) behind
    ∙ ap (λ ns. made ++ ns) (sym (numbers_next i count cells lt))
