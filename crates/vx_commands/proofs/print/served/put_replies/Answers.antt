use Rattle.std.proofs.Common.{sym, subst}
use Rattle.std.specs.List.{flat_map}
use Rattle.vx_commands.specs.Render.{reply_text}
use Rattle.vx_text.specs.Text.{Adds}
use Rattle.vx_text.proofs.TextLemmas.{adds_then}
use Rattle.vx_commands.proofs.print.served.put_replies.Goals as goal

pub loop-told-preserved : goal.loop-told-preserved
loop-told-preserved g c = λ text out more.
    let state = g.S.Sink.state in
    let added = subst (λ reply. Adds (reply_text reply) c.loop-told.text (state c.loop-told.out) c.put_reply.new.text (state c.put_reply.new.out)) c.reply.ensures c.put_reply.ensures in
    c.loop-told.invariant text out
    (subst (λ replies. Adds (flat_map reply_text replies) c.loop-told.text (state c.loop-told.out) text out) (sym c.in-Some.ensures.steps) (adds_then added more))
