use Rattle.std.proofs.Common.{◌<◌, length, subst, rules}
use Rattle.vx_text.specs.Text.{Adds}
use Rattle.vx_print.proofs.LayoutLines.{lines-take}
use Rattle.vx_text.proofs.TextLemmas.{adds_then}
use Rattle.vx_print.proofs.layout.+below.Goals as goal

pub put_all-loop-at-preserved : goal.put_all-loop-at-preserved
put_all-loop-at-preserved g t c =
    let inside : c.loop-at.at < length c.args.layouts.now = search rules in
    subst (λ t. Adds t c.args.text.now (g.S.Sink.state c.args.out.now) c.put_layout.new.text (g.S.Sink.state c.put_layout.new.out))
    (lines-take c.args.depth c.args.layouts.now c.loop-at.at c.index-layouts-at.result inside c.index-layouts-at.is)
    (adds_then c.loop-at.invariant c.put_layout.ensures)
