use Rattle.std.proofs.Common.{take}
use Rattle.std.specs.List.{flat_map}
use Rattle.vx_data.specs.Texts.{quoted_byte}
use Rattle.vx_text.specs.Text.{Adds}
use Rattle.vx_print.proofs.words.put_quoted_bytes.Given as goal

-- what stands in front was added
abbrev pub invariant-loop-byte : goal.invariant-loop-byte
invariant-loop-byte g l = Adds (flat_map quoted_byte (take l.byte-index l.bytes)) l.fn.text (g.S.Sink.state l.fn.out) l.text (g.S.Sink.state l.out)
