use Rattle.std.proofs.Common.{take}
use Rattle.vx_print.specs.Lines.{numbered}
use Rattle.vx_print.specs.FooterText.{segment_line}
use Rattle.vx_text.specs.Text.{Adds}
use Rattle.vx_print.proofs.footer.put_segments.Given as goal

-- what stands in front was added
abbrev pub invariant-loop-i : goal.invariant-loop-i
invariant-loop-i g l = Adds (numbered segment_line 0 (take l.i l.segments)) l.fn.text (g.S.Sink.state l.fn.out) l.text (g.S.Sink.state l.out)
