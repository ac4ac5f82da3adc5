use Rattle.vx_base.specs.Streams.{SinkState}
use Rattle.vx_print.specs.SizesText.{sizes_text}
use Rattle.vx_text.specs.Text.{TextState, Adds}
use Rattle.vx_print.proofs.sizes.put_sizes.Given as goal

-- what is left is all that is to be added
abbrev pub invariant-loop-path : goal.invariant-loop-path
invariant-loop-path g l = (text : TextState) (out : SinkState) → Adds (sizes_text l.path-iterator.rest) l.text (g.S.Sink.state l.out) text out
    → Adds (sizes_text l.fn.sizes.entries) l.fn.text (g.S.Sink.state l.fn.out) text out
