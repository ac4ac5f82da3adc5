use Rattle.vx_rows.specs.Rows.{column_view}
use Rattle.vx_rows.proofs.KeepLemmas.{part_even}
use Rattle.vx_rows.proofs.growing.GrowingColumn.append.Goals as goal

pub append_whole-requires-clause-even : goal.append_whole-requires-clause-even
append_whole-requires-clause-even c =
    part_even (column_view c.args.column.now) (column_view c.in_ok-more.more) c.args.from c.args.to c.requires.ordered c.requires.inside c.requires.even c.in_ok-more.ensures
