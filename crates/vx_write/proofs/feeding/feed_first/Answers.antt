use Rattle.vx_rows.specs.Rows.{column_view}
use Rattle.vx_write.proofs.HoldingLemmas.{first_fed}
use Rattle.vx_write.proofs.feeding.feed_first.Goals as goal

pub returns : goal.returns
returns c =
    first_fed c.args.rows c.unwrap_or.result c.args.target (column_view c.args.column.now) c.args.first c.in_ok-cut.cut c.in_ok-others.others c.in_ok-held.held
    c.unwrap_or.ensures c.in_ok-cut.ensures.value c.in_ok-held.ensures c.in_ok-others.ensures
