use Rattle.std.proofs.Common.{◌≡◌, ◌-◌, length, ap, sym, subst, ◌∙◌, arith, rules}
use Rattle.vx_rows.specs.Parts.{part}
use Rattle.vx_rows.specs.Rows.{Rows, IsColumn, column_view, rows_len, dtype_of}
use Rattle.vx_rows.proofs.ColumnLaws.{column_rows, part_type, part_is_column, rows_are}
use Rattle.vx_file.proofs.KeepingLemmas.{one_run}
use Rattle.vx_file.proofs.row_filter.keep.Goals as goal

pub returns-then-next_kept-len-clause-value : goal.returns-then-next_kept-len-clause-value
returns-then-next_kept-len-clause-value c =
    let here = column_view c.args.column.now in
    let end : c.next_kept.result ≡ length c.args.mask.now = search rules in
    c.in_ok-part.ensures
    ∙ one_run c.args.mask.now here c.next_kept-from.result c.run_end-to.result c.requires.long (column_rows (rows_len here) here c.requires.even) c.run_end-to.ensures.behind c.run_end-to.ensures.inside
    (λ k l. c.next_kept-from.ensures.not_kept k (omega arith) l) c.run_end-to.ensures.kept (λ k a b. c.next_kept.ensures.not_kept k a (omega (arith, b, end)))

pub returns-then-next_kept-len-clause-typed : goal.returns-then-next_kept-len-clause-typed
returns-then-next_kept-len-clause-typed c = ap dtype_of c.in_ok-part.ensures ∙ part_type c.next_kept-from.result c.run_end-to.result (column_view c.args.column.now)

pub returns-then-next_kept-len-clause-sound : goal.returns-then-next_kept-len-clause-sound
returns-then-next_kept-len-clause-sound c =
    let here = column_view c.args.column.now in
    let from = c.next_kept-from.result in
    let to = c.run_end-to.result in
    let long = c.requires.long in
    let inside = c.run_end-to.ensures.inside in
    let sound = part_is_column (rows_len here) from to here c.run_end-to.ensures.behind (omega (arith, inside, long)) c.requires.even in
    let count = rows_are (to - from) (part from to here) (column_rows (to - from) (part from to here) sound) in
    subst (λ (x : Rows). IsColumn (rows_len x) x) (sym c.in_ok-part.ensures) (subst (λ n. IsColumn n (part from to here)) (sym count) sound)
