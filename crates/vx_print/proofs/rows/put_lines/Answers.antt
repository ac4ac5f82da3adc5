use Rattle.std.proofs.Common.{◌≡◌, ◌<◌, ◌≤◌, ◌-◌, sym, ap, subst, arith, rules}
use Rattle.vx_rows.specs.Rows.{rows_len, column_view}
use Rattle.vx_rows.specs.ValueTexts.{lines_from}
use Rattle.vx_rows.proofs.PrintedLemmas.{next_line}
use Rattle.vx_text.specs.Text.{Adds}
use Rattle.vx_text.proofs.TextLemmas.{adds_then, adds_nothing}
use Rattle.vx_print.proofs.rows.put_lines.Goals as goal

pub loop-row-preserved : goal.loop-row-preserved
loop-row-preserved g c = λ text out more.
    let rows = column_view c.args.column.now in
    let less : c.loop-row.row < rows_len (column_view c.args.column.now) = omega (arith, c.loop-row-test.true, c.len-row-end.ensures) in
    c.loop-row.invariant text out
    (subst (λ b. Adds b c.loop-row.text (g.S.Sink.state c.loop-row.out) text out) (sym (next_line rows c.loop-row.row (rows_len rows) less))
    (adds_then (adds_then c.put_row.ensures c.end_line.ensures) more))

pub returns : goal.returns
returns g c =
    let rows = column_view c.args.column.now in
    let past : rows_len (column_view c.args.column.now) ≤ c.loop-row.row = search (rules, c.len-row-end.ensures) in
    let none : rows_len (column_view c.args.column.now) - c.loop-row.row ≡ 0 = omega (arith, past) in
    c.loop-row.invariant c.loop-row.text (g.S.Sink.state c.loop-row.out)
    (subst (λ b. Adds b c.loop-row.text (g.S.Sink.state c.loop-row.out) c.loop-row.text (g.S.Sink.state c.loop-row.out)) (sym (ap (lines_from rows c.loop-row.row) none))
    (adds_nothing c.loop-row.text (g.S.Sink.state c.loop-row.out)))
