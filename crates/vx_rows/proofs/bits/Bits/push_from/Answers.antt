use Rattle.std.proofs.Common.{◌++◌, ◌-◌, ◌∷◌, [], ap, ◌∙◌, arith}
use Rattle.vx_rows.specs.Span.{span}
use Rattle.vx_rows.specs.Bits.{bitmap_byte}
use Rattle.vx_rows.proofs.WholeLemmas.{run_more}
use Rattle.vx_rows.proofs.bits.Bits.push_from.Goals as goal

pub loop-k-preserved : goal.loop-k-preserved
loop-k-preserved c =
    c.in_ok-push.ensures.items ∙ ap (λ xs. xs ++ c.byte.result ∷ []) c.loop-k.invariant
    ∙ ap (λ x. (c.args.bytes.now.items ++ span (bitmap_byte c.args.self.now) c.args.from (c.loop-k.k - c.args.from)) ++ x ∷ []) c.byte.ensures
    ∙ run_more c.args.bytes.now.items (bitmap_byte c.args.self.now) c.args.from c.loop-k.k (omega arith)
