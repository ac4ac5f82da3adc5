use Rattle.std.proofs.Common.{take, map}
use Rattle.std.specs.Prelude.{string_bytes}
use Rattle.vx_print.specs.Lines.{numbered}
use Rattle.vx_print.specs.FooterText.{array_line}
use Rattle.vx_text.specs.Text.{Adds}
use Rattle.vx_print.proofs.footer.put_arrays.Given as goal

-- what stands in front was added
abbrev pub invariant-loop-i : goal.invariant-loop-i
invariant-loop-i g l = Adds (numbered array_line 0 (take l.i (map string_bytes l.ids))) l.fn.text (g.S.Sink.state l.fn.out) l.text (g.S.Sink.state l.out)
