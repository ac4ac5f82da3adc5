use Rattle.std.proofs.Common.{take}
use Rattle.std.specs.List.{flat_map}
use Rattle.vx_commands.specs.Render.{read_line}
use Rattle.vx_text.specs.Text.{Adds}
use Rattle.vx_commands.proofs.print.served.put_ranges.Given as goal

-- what stands in front was added
abbrev pub invariant-loop-range : goal.invariant-loop-range
invariant-loop-range g l = Adds (flat_map read_line (take l.range-index l.ranges)) l.fn.text (g.S.Sink.state l.fn.out) l.text (g.S.Sink.state l.out)
