-- How many rows the chunks of a leaf have.
use Rattle.std.proofs.Common.{◌≡◌, ℕ, ◌+◌, ◌≤◌, List, [], ◌∷◌, refl, sym, ap, ◌∙◌, arith}
use Rattle.std.specs.Prelude.{sum_by}
use Rattle.std.specs.List.{All}
use Rattle.std.proofs.lemmas.List.Elements.{All-head, All-tail}
use Rattle.std.proofs.lemmas.List.Sums.{sum_by-cons}
use Rattle.vx_data.specs.Dtype.{Dtype}
use Rattle.vx_rows.specs.Rows.{Rows, rows_len, dtype_of, HasRows}
use Rattle.vx_rows.specs.Parts.{part}
use Rattle.vx_rows.proofs.ColumnLaws.{part_type, appended_type}
use Rattle.vx_write.specs.declared.strategy.LeafStrategy.{LeafStrategy}
use Rattle.vx_write.specs.Strategies.{HasBlocks}
use Rattle.vx_write.specs.Cutting.{full_chunks, rest, joined}
use Rattle.vx_write.proofs.CutLaws.{all_rows, full_hold, rest_holds}
use Rattle.vx_write.proofs.GatheredLemmas.{appended_length}

joined-type : (d : Dtype) (cs : List Rows) (r : Rows) → dtype_of r ≡ d → All (λ c. dtype_of c ≡ d) cs → dtype_of (joined cs r) ≡ d
joined-type d [] r t h = t
joined-type d (c ∷ cs) r t h = appended_type c (joined cs r) ∙ All-head (λ x. dtype_of x ≡ d) c cs h

joined-length : (d : Dtype) (cs : List Rows) (r : Rows) → dtype_of r ≡ d → All (λ c. dtype_of c ≡ d) cs → rows_len (joined cs r) ≡ sum_by rows_len cs + rows_len r
joined-length d [] r t h = omega arith
joined-length d (c ∷ cs) r t h =
    let first = All-head (λ x. dtype_of x ≡ d) c cs h in
    let more = All-tail (λ x. dtype_of x ≡ d) c cs h in
    let both = appended_length c (joined cs r) (first ∙ sym (joined-type d cs r t more)) in
    omega (arith, both, joined-length d cs r t more, sum_by-cons rows_len c cs)

-- no row is lost, and none comes
pub cut_sum : (s : LeafStrategy) (c : Rows) → HasBlocks s → HasRows (rows_len c) c → sum_by rows_len (full_chunks s c) + rows_len (rest s c) ≡ rows_len c
cut_sum s c blocks even =
    let typed : (a b : ℕ) → a ≤ b → b ≤ rows_len c → dtype_of (part a b c) ≡ dtype_of c = λ a b le inside. part_type a b c in
    sym (joined-length (dtype_of c) (full_chunks s c) (rest s c) (rest_holds (λ x. dtype_of x ≡ dtype_of c) s c blocks typed) (full_hold (λ x. dtype_of x ≡ dtype_of c) s c blocks typed))
    ∙ ap rows_len (all_rows s (rows_len c) c blocks even)
