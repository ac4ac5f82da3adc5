use Rattle.std.proofs.Common.{◌≡◌, ◌-◌, sym, ap, ◌∙◌, arith}
use Rattle.vx_rows.specs.Span.{every}
use Rattle.vx_rows.specs.Arrays.{is_text}
use Rattle.vx_rows.proofs.TextLemmas.{texts_are}
use Rattle.vx_rows.proofs.text_reading.are_texts.Goals as goal

pub returns-clause-texts : goal.returns-clause-texts
returns-clause-texts c _ =
    let past : c.args.rows - c.loop-row.row ≡ 0 = omega arith in
    texts_are c.args.rows c.args.bytes.now c.args.places.now (sym c.loop-row.invariant ∙ ap (every (is_text c.args.bytes.now c.args.places.now) c.loop-row.row) past)
