use Rattle.std.proofs.Common.{subst}
use Rattle.std.specs.List.{flat_map}
use Rattle.vx_print.specs.Lines.{numbered}
use Rattle.vx_commands.specs.Render.{read_line}
use Rattle.vx_commands.specs.SummaryText.{column_line}
use Rattle.vx_text.specs.Text.{Adds}
use Rattle.vx_text.proofs.TextLemmas.{adds_then}
use Rattle.vx_commands.proofs.print.summary.put_summary.Goals as goal

pub returns : goal.returns
returns g c =
    let front = adds_then (adds_then c.put_line.ensures c.put_line-2.ensures) c.put_line-3.ensures in
    let columns = subst (λ ns. Adds (numbered column_line 0 ns) c.put_line-3.new.text (g.S.Sink.state c.put_line-3.new.out) c.put_columns.new.text (g.S.Sink.state c.put_columns.new.out)) c.as_slice.ensures c.put_columns.ensures in
    let ranges = subst (λ rs. Adds (flat_map read_line rs) c.put_columns.new.text (g.S.Sink.state c.put_columns.new.out) c.put_ranges.new.text (g.S.Sink.state c.put_ranges.new.out)) c.as_slice-2.ensures c.put_ranges.ensures in
    adds_then (adds_then front columns) ranges
