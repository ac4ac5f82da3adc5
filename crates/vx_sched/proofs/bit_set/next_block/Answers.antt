use Rattle.std.proofs.Common.{◌≡◌, ℕ, ◌≤◌, ◌*◌, ◌/◌, ◌%◌, Option, Some, None, IfNone, subst, arith}
use Rattle.vx_sched.specs.BitSet.{word_at}
use Rattle.vx_sched.proofs.BitSetLemmas.{block-start}
use Rattle.vx_sched.proofs.bit_set.next_block.Goals as goal

pub returns-clause-none : goal.returns-clause-none
returns-clause-none c = at c.first_in_block-2.result c.first_in_block-2.ensures.empty
  where
    at : (o : Option ℕ) → IfNone o (c.in-Some-next_word.group * 64 % 64 ≡ 0 → word_at c.args.groups.now (c.in-Some-next_word.group * 64 / 64) ≡ 0)
        → IfNone o ((q : ℕ) → c.args.from ≤ q → word_at c.args.words.now q ≡ 0)
    at (Some n) h = tt
    at None h = λ q f. let start = block-start c.in-Some-next_word.group in
        let none : word_at c.args.groups.now c.in-Some-next_word.group ≡ 0 = subst (λ b. word_at c.args.groups.now b ≡ 0) start.1 (h start.0) in
        absurd (omega (arith, none, c.in-Some-next_word.ensures.some))
