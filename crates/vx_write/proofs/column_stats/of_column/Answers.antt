use Rattle.std.proofs.Common.{rules, arith, ◌≡◌, ◌+◌, ◌∙◌, ℕ}
use Rattle.vx_rows.specs.Rows.{column_view, rows_len}
use Rattle.vx_write.proofs.GatheredLemmas.{running_is, first_seen}
use Rattle.vx_write.proofs.column_stats.of_column.Goals as goal

pub returns : goal.returns
returns c =
    let made = c.in_ok-stats in
    let added = c.in_ok-add.ensures in
    let column = column_view c.args.column.now in
    let rows : c.add.new.self.rows ≡ rows_len column = omega (arith, added.rows.1, made.ensures.wanted.1) in
    running_is c.add.new.self c.args.wanted.now (c.args.present.now, column) (added.rows.0 ∙ made.ensures.wanted.0) rows
    (first_seen made.stats.seen c.add.new.self.seen c.args.present.now column made.ensures.none added.seen)
