use Rattle.std.proofs.Common.{take}
use Rattle.std.specs.List.{flat_map}
use Rattle.vx_commands.specs.Render.{value_line}
use Rattle.vx_text.specs.Text.{Adds}
use Rattle.vx_commands.proofs.print.served.put_values.Given as goal

-- what stands in front was added
abbrev pub invariant-loop-value : goal.invariant-loop-value
invariant-loop-value g l = Adds (flat_map value_line (take l.value-index l.values)) l.fn.text (g.S.Sink.state l.fn.out) l.text (g.S.Sink.state l.out)
