use Rattle.std.proofs.Common.{◌==◌, cond, ap, sym, ◌∙◌}
use Rattle.std.specs.Int.{bit_at}
use Rattle.vx_sched.proofs.BitLemmas.{set-bit, clear-bit}
use Rattle.vx_sched.proofs.bits.with_bit.Goals as goal

pub returns-then-is_set : goal.returns-then-is_set
returns-then-is_set c i l = set-bit c.args.word c.args.place c.requires i ∙ ap (λ b. cond (c.args.place == i) (cond b 1 0) (bit_at c.args.word i)) (sym c.if-is_set.true)

pub returns-else-is_set : goal.returns-else-is_set
returns-else-is_set c i l = clear-bit c.args.word c.args.place c.requires i l ∙ ap (λ b. cond (c.args.place == i) (cond b 1 0) (bit_at c.args.word i)) (sym c.if-is_set.false)
