use Rattle.std.proofs.Common.{◌<◌, length, sym, subst, rules}
use Rattle.vx_rows.proofs.PrintedLemmas.{next_text}
use Rattle.vx_text.specs.Text.{Adds}
use Rattle.vx_text.proofs.TextLemmas.{adds_then, adds_put}
use Rattle.vx_print.proofs.rows.+printing.Goals as goal

pub put_all-loop-column-preserved : goal.put_all-loop-column-preserved
put_all-loop-column-preserved g t c = λ text out more.
    let state = g.S.Sink.state in
    let inside : c.loop-column.column-index < length c.args.columns.now = search rules in
    c.loop-column.invariant text out
    (subst (λ b. Adds b c.loop-column.text (state c.loop-column.out) text out)
    (sym (next_text c.loop-column.is_first c.args.columns.now c.loop-column.column-index c.column-item.result c.args.row inside c.column-item.is))
    (adds_then (adds_then (adds_put c.make_room.ensures.adds c.put_comma.ensures.holds) c.put_value.ensures) more))
