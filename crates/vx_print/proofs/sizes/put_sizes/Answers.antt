use Rattle.std.proofs.Common.{sym, subst}
use Rattle.vx_print.specs.SizesText.{sizes_text}
use Rattle.vx_text.specs.Text.{Adds}
use Rattle.vx_text.proofs.TextLemmas.{adds_then}
use Rattle.vx_print.proofs.sizes.put_sizes.Goals as goal

pub loop-path-preserved : goal.loop-path-preserved
loop-path-preserved g c = λ text out more.
    c.loop-path.invariant text out
    (subst (λ entries. Adds (sizes_text entries) c.loop-path.text (g.S.Sink.state c.loop-path.out) text out) (sym c.in-Some.ensures.steps) (adds_then c.put_size.ensures more))
