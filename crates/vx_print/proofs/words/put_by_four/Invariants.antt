use Rattle.std.proofs.Common.{length}
use Rattle.std.specs.List.{flat_map}
use Rattle.vx_base.specs.Streams.{SinkState}
use Rattle.vx_data.specs.Texts.{quoted_byte}
use Rattle.vx_text.specs.Text.{TextState, Adds}
use Rattle.vx_print.proofs.words.put_by_four.Given as goal

-- what is left is all that is to be added
abbrev pub invariant-loop-rest : goal.invariant-loop-rest
invariant-loop-rest g l = (text : TextState) (out : SinkState) → Adds (flat_map quoted_byte l.rest) l.text (g.S.Sink.state l.out) text out
    → Adds (flat_map quoted_byte l.fn.bytes) l.fn.text (g.S.Sink.state l.fn.out) text out

abbrev pub decreases-loop-rest : goal.decreases-loop-rest
decreases-loop-rest g l = length l.rest
