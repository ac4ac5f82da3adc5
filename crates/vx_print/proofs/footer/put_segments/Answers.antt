use Rattle.std.proofs.Common.{◌<◌, length, subst, rules}
use Rattle.vx_print.specs.FooterText.{segment_line}
use Rattle.vx_text.specs.Text.{Adds}
use Rattle.vx_print.proofs.Lists.{got-here, numbered-take}
use Rattle.vx_text.proofs.TextLemmas.{adds_then}
use Rattle.vx_print.proofs.footer.put_segments.Goals as goal

pub loop-i-preserved : goal.loop-i-preserved
loop-i-preserved g c =
    let inside : c.loop-i.i < length c.args.segments.now = search rules in
    let got = got-here c.args.segments.now c.loop-i.i c.index-segments-i.result inside c.index-segments-i.is in
    subst (λ t. Adds t c.args.text.now (g.S.Sink.state c.args.out.now) c.put_segment.new.text (g.S.Sink.state c.put_segment.new.out))
    (numbered-take segment_line c.args.segments.now c.loop-i.i c.index-segments-i.result got) (adds_then c.loop-i.invariant c.put_segment.ensures)
