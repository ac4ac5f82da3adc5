use Rattle.std.proofs.Common.{ℕ, ◌∙◌, ap, sym, subst, arith}
use Rattle.vx_rows.specs.Rows.{Rows, column_view, rows_len, IsColumn}
use Rattle.vx_rows.specs.Parts.{part}
use Rattle.vx_write.proofs.HoldingLemmas.{sound_part}
use Rattle.vx_write.proofs.feeding.feed_full.Goals as goal

pub feed_first-requires-clause-even : goal.feed_first-requires-clause-even
feed_first-requires-clause-even c =
    let is = c.in_ok-others.ensures ∙ ap (λ (n : ℕ). part c.args.end n (column_view c.args.column.now)) c.len.ensures in
    subst (λ (x : Rows). IsColumn (rows_len x) x) (sym is)
    (sound_part (column_view c.args.column.now) c.args.end (rows_len (column_view c.args.column.now)) c.requires.inside (omega arith) c.requires.even)
