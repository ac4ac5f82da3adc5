use Rattle.std.proofs.Common.{◌≡◌, ◌++◌, drop}
use Rattle.vx_data.specs.Dtype.{pairs_view}
use Rattle.vx_write.specs.ColumnSizes.{field_sizes}
use Rattle.vx_write.proofs.column_sizes.sizes_of.Given as goal

abbrev pub invariant-loop-at : goal.invariant-loop-at
invariant-loop-at l = l.made.items ++ field_sizes l.sizes (pairs_view (drop l.at l.fields)) ≡ field_sizes l.sizes (pairs_view l.fields)
