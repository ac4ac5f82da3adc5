use Rattle.std.proofs.Common.{◌≡◌, ℕ, ◌<◌, ◌≤◌, ◌*◌, ◌/◌, ◌%◌, false, Option, Some, None, IfSome, IfNone, subst, arith}
use Rattle.vx_sched.specs.BitSet.{Words, word_at, is_raised}
use Rattle.vx_sched.proofs.BitSetLemmas.{block-start, rest-least, low}
use Rattle.vx_sched.proofs.bit_set.BitSet.next.Goals as goal

pub returns-clause-least : goal.returns-clause-least
returns-clause-least c = at c.first_in_block-2.result c.first_in_block-2.ensures.least
  where
    at : (o : Option ℕ) → IfSome o (λ n. (q : ℕ) → c.in-Some-next_block.block * 64 ≤ q → q < n → is_raised c.self.inside.words q ≡ false)
        → IfSome o (λ n. (q : ℕ) → c.args.from ≤ q → q < n → is_raised c.args.self.now q ≡ false)
    at (Some n) h = λ q f l. subst (λ (words : Words). is_raised words q ≡ false) c.self.view_is
        (rest-least (is_raised c.self.inside.words) (word_at c.self.inside.words) (low c.self.inside.words) c.args.from c.in_default.ensures.none
        c.in-Some-next_block.block n c.in-Some-next_block.ensures.after c.in-Some-next_block.ensures.least h q f l)
    at None h = tt

pub returns-clause-none : goal.returns-clause-none
returns-clause-none c = at c.first_in_block-2.result c.first_in_block-2.ensures.empty
  where
    at : (o : Option ℕ) → IfNone o (c.in-Some-next_block.block * 64 % 64 ≡ 0 → word_at c.self.inside.words (c.in-Some-next_block.block * 64 / 64) ≡ 0)
        → IfNone o ((q : ℕ) → c.args.from ≤ q → is_raised c.args.self.now q ≡ false)
    at (Some n) h = tt
    at None h = λ q f. let start = block-start c.in-Some-next_block.block in
        let none : word_at c.self.inside.words c.in-Some-next_block.block ≡ 0 = subst (λ b. word_at c.self.inside.words b ≡ 0) start.1 (h start.0) in
        absurd (omega (arith, none, c.in-Some-next_block.ensures.some))
