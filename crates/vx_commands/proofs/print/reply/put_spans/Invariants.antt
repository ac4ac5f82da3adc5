use Rattle.std.proofs.Common.{take}
use Rattle.std.specs.List.{flat_map}
use Rattle.vx_commands.specs.Render.{span_line}
use Rattle.vx_text.specs.Text.{Adds}
use Rattle.vx_commands.proofs.print.reply.put_spans.Given as goal

-- what stands in front was added
abbrev pub invariant-loop-span : goal.invariant-loop-span
invariant-loop-span g l = Adds (flat_map span_line (take l.span-index l.spans)) l.fn.text (g.S.Sink.state l.fn.out) l.text (g.S.Sink.state l.out)
