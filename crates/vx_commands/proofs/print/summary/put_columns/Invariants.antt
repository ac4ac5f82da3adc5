use Rattle.std.proofs.Common.{take}
use Rattle.vx_print.specs.Lines.{numbered}
use Rattle.vx_commands.specs.SummaryText.{column_line}
use Rattle.vx_text.specs.Text.{Adds}
use Rattle.vx_commands.proofs.print.summary.put_columns.Given as goal

-- what stands in front was added
abbrev pub invariant-loop-i : goal.invariant-loop-i
invariant-loop-i g l = Adds (numbered column_line 0 (take l.i l.columns)) l.fn.text (g.S.Sink.state l.fn.out) l.text (g.S.Sink.state l.out)
