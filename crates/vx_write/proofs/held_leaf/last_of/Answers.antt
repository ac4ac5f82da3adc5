use Rattle.std.proofs.Common.{◌∙◌, subst}
use Rattle.vx_rows.specs.Rows.{Rows, column_view, rows_len, IsColumn}
use Rattle.vx_write.proofs.LeafLemmas.{last_typed}
use Rattle.vx_write.proofs.held_leaf.last_of.Goals as goal

pub returns-clause-sound : goal.returns-clause-sound
returns-clause-sound c =
    last_typed c.args.rows (column_view c.in_ok-column.column) c.args.count (c.in_ok-column.ensures.value ∙ c.truncate.ensures)
    (subst (λ (r : Rows). IsColumn (rows_len r) r) c.truncate.ensures c.in_ok-column.ensures.sound)
