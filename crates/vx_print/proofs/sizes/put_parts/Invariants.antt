use Rattle.std.proofs.Common.{take, map, string_bytes}
use Rattle.std.specs.List.{flat_map}
use Rattle.vx_print.specs.SizesText.{part_text}
use Rattle.vx_text.specs.Text.{Adds}
use Rattle.vx_print.proofs.sizes.put_parts.Given as goal

-- what stands in front was added
abbrev pub invariant-loop-part : goal.invariant-loop-part
invariant-loop-part g l = Adds (flat_map part_text (map string_bytes (take l.part-index l.parts))) l.fn.text (g.S.Sink.state l.fn.out) l.text (g.S.Sink.state l.out)
