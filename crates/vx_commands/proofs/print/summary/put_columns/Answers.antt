use Rattle.std.proofs.Common.{◌<◌, length, subst, rules}
use Rattle.std.specs.Prelude.{slice_index}
use Rattle.vx_commands.specs.SummaryText.{column_line}
use Rattle.vx_text.specs.Text.{Adds}
use Rattle.vx_print.proofs.Lists.{got-index, numbered-take}
use Rattle.vx_text.proofs.TextLemmas.{adds_then}
use Rattle.vx_commands.proofs.print.summary.put_columns.Goals as goal

pub loop-i-preserved : goal.loop-i-preserved
loop-i-preserved g c =
    let inside : c.loop-i.i < length c.args.columns.now = search rules in
    let got = got-index c.args.columns.now c.loop-i.i inside in
    subst (λ t. Adds t c.args.text.now (g.S.Sink.state c.args.out.now) c.put_line.new.text (g.S.Sink.state c.put_line.new.out))
    (numbered-take column_line c.args.columns.now c.loop-i.i (slice_index c.args.columns.now c.loop-i.i) got) (adds_then c.loop-i.invariant c.put_line.ensures)
