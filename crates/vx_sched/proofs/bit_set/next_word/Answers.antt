use Rattle.std.proofs.Common.{◌≡◌, ◌<◌, get_or, subst}
use Rattle.std.proofs.lemmas.Option.{slice_get-get_or}
use Rattle.vx_sched.specs.BitSet.{Words, word_at}
use Rattle.vx_sched.proofs.NumberedLemmas.{skipped_before, skipped_all, skipped_more, skipped_start, raised_here, blank}
use Rattle.vx_sched.proofs.bit_set.next_word.Goals as goal

pub loop-at-init : goal.loop-at-init
loop-at-init c = skipped_start c.slots-slots.result.now c.args.from c.place_of-at.result c.place_of-at.ensures.below

pub returns-then-is_up-clause-some : goal.returns-then-is_up-clause-some
returns-then-is_up-clause-some c =
    subst (λ (words : Words). 0 < word_at words (get_or c.slots-slots.result.now c.loop-at.at blank).number) c.slots-slots.ensures.held
    (raised_here c.slots-slots.result.now c.loop-at.at blank c.slots-slots.ensures.rise c.loop-at-test.true (c.is_up.ensures.up c.if-is_up.true))

pub returns-then-is_up-clause-after : goal.returns-then-is_up-clause-after
returns-then-is_up-clause-after c =
    let there = slice_get-get_or c.slots-slots.result.now c.loop-at.at blank c.loop-at-test.true in
    c.place_of-at.ensures.above c.loop-at.at (get_or c.slots-slots.result.now c.loop-at.at blank) there c.loop-at.auto.at

pub returns-then-is_up-clause-least : goal.returns-then-is_up-clause-least
returns-then-is_up-clause-least c = λ q f b.
    subst (λ (words : Words). word_at words q ≡ 0) c.slots-slots.ensures.held
    (skipped_before c.slots-slots.result.now c.args.from c.loop-at.at blank c.slots-slots.ensures.rise c.loop-at-test.true c.loop-at.invariant q f b)

pub loop-at-preserved : goal.loop-at-preserved
loop-at-preserved c = skipped_more c.slots-slots.result.now c.args.from c.loop-at.at blank c.loop-at-test.true c.loop-at.invariant (c.is_up.ensures.low c.if-is_up.false)

pub returns-clause-none : goal.returns-clause-none
returns-clause-none c = λ q f.
    subst (λ (words : Words). word_at words q ≡ 0) c.slots-slots.ensures.held (skipped_all c.slots-slots.result.now c.args.from c.loop-at.at c.loop-at-test.false c.loop-at.invariant q f)
