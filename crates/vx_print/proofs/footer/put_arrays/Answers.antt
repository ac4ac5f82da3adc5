use Rattle.std.proofs.Common.{◌≡◌, ◌<◌, length, map, ap, subst, rules}
use Rattle.std.specs.Prelude.{string_bytes}
use Rattle.vx_print.specs.FooterText.{array_line}
use Rattle.vx_text.specs.Text.{Adds}
use Rattle.vx_print.proofs.FooterText.{adds-same}
use Rattle.vx_print.proofs.Lists.{got-mapped, numbered-take}
use Rattle.vx_text.proofs.TextLemmas.{adds_then}
use Rattle.vx_print.proofs.footer.put_arrays.Goals as goal

pub loop-i-preserved : goal.loop-i-preserved
loop-i-preserved g c =
    let inside : c.loop-i.i < length c.args.ids.now = search rules in
    let got = got-mapped string_bytes c.args.ids.now c.loop-i.i c.index-ids-i.result inside c.index-ids-i.is in
    let is : c.as_str.result.now ≡ string_bytes c.index-ids-i.result = search rules in
    subst (λ t. Adds t c.args.text.now (g.S.Sink.state c.args.out.now) c.put_array.new.text (g.S.Sink.state c.put_array.new.out))
    (numbered-take array_line (map string_bytes c.args.ids.now) c.loop-i.i (string_bytes c.index-ids-i.result) got)
    (adds_then c.loop-i.invariant (adds-same (ap (array_line c.loop-i.i) is) c.put_array.ensures))
