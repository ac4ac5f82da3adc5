use Rattle.std.proofs.Common.{◌≡◌, ◌++◌, drop}
use Rattle.vx_data.specs.Dtype.{pairs_view}
use Rattle.vx_data.specs.DtypeWritten.{all_pieces}
use Rattle.vx_data.proofs.dtype_writing.+writing.Given as goal

-- the tables so far and those still to come
abbrev pub invariant-all_tables-loop-at : goal.invariant-all_tables-loop-at
invariant-all_tables-loop-at l = l.tables.items ++ all_pieces (pairs_view (drop l.at l.fields)) ≡ all_pieces (pairs_view l.fields)
