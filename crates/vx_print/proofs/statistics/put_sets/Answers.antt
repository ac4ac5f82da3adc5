use Rattle.std.proofs.Common.{◌<◌, length, subst, rules}
use Rattle.vx_print.specs.FooterText.{stats_line}
use Rattle.vx_text.specs.Text.{Adds}
use Rattle.vx_print.proofs.Lists.{got-here, numbered-take}
use Rattle.vx_text.proofs.TextLemmas.{adds_then}
use Rattle.vx_print.proofs.statistics.put_sets.Goals as goal

pub loop-i-preserved : goal.loop-i-preserved
loop-i-preserved g c =
    let inside : c.loop-i.i < length c.args.sets.now = search rules in
    let got = got-here c.args.sets.now c.loop-i.i c.index-sets-i.result inside c.index-sets-i.is in
    subst (λ t. Adds t c.args.text.now (g.S.Sink.state c.args.out.now) c.put_set.new.text (g.S.Sink.state c.put_set.new.out))
    (numbered-take stats_line c.args.sets.now c.loop-i.i c.index-sets-i.result got) (adds_then c.loop-i.invariant c.put_set.ensures)
