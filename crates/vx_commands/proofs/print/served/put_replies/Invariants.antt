use Rattle.std.specs.List.{flat_map}
use Rattle.vx_base.specs.Streams.{SinkState}
use Rattle.vx_commands.specs.Render.{reply_text}
use Rattle.vx_text.specs.Text.{TextState, Adds}
use Rattle.vx_commands.proofs.print.served.put_replies.Given as goal

-- what is left is all that is to be added
abbrev pub invariant-loop-told : goal.invariant-loop-told
invariant-loop-told g l = (text : TextState) (out : SinkState) → Adds (flat_map reply_text l.told-iterator) l.text (g.S.Sink.state l.out) text out
    → Adds (flat_map reply_text l.fn.replies) l.fn.text (g.S.Sink.state l.fn.out) text out
