use Rattle.std.proofs.Common.{sym, subst, ◌∙◌}
use Rattle.vx_text.specs.Text.{Adds}
use Rattle.vx_print.proofs.QuotedLemmas.{plain-front}
use Rattle.vx_text.proofs.TextLemmas.{adds_after, adds_then, adds_put}
use Rattle.vx_print.proofs.words.put_by_four.Goals as goal

pub loop-rest-preserved : goal.loop-rest-preserved
loop-rest-preserved g c = λ text out more.
    c.loop-rest.invariant text out
    (subst (λ b. Adds b c.loop-rest.text (g.S.Sink.state c.loop-rest.out) text out)
    (sym (plain-front c.split_at.result.0.now c.split_at.result.1.now c.loop-rest.rest.now c.split_at.ensures.by_index.0 (sym c.are_plain.ensures ∙ c.if-not-are_plain.false)))
    (adds_then (adds_put c.make_room.ensures.adds c.put_four.ensures) more))

pub returns-then-not-are_plain : goal.returns-then-not-are_plain
returns-then-not-are_plain g c = c.loop-rest.invariant _ _ (adds_after c.make_room.ensures.adds c.put_quoted_bytes.ensures)
