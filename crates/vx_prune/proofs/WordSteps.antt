-- Steps of reading predicates from words.
use Rattle.std.proofs.Common.{◌≡◌, ℕ, zero, suc, ◌-◌, ◌<◌, List, ap, arith}
use Rattle.vx_prune.specs.PredicateWords.{word_in, predicate_in}

one-less : (n : ℕ) → n ≡ suc n - 1
one-less n = omega arith

-- behind its word a predicate has operands of one level less
pub one-level : (levels : ℕ) (ws : List (List ℕ)) → 0 < levels → predicate_in levels ws ≡ word_in (predicate_in (levels - 1)) ws
unfolding predicate_in
one-level zero ws e = absurd (omega (arith, e))
one-level (suc n) ws e = ap (λ k. word_in (predicate_in k) ws) (one-less n)
