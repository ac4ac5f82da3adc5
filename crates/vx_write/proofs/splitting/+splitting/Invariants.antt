use Rattle.std.proofs.Common.{◌≡◌, ◌+◌, ◌*◌, ◌++◌, drop}
use Rattle.vx_rows.specs.Rows.{column_view, pairs_view, dtype_of, types_of}
use Rattle.vx_rows.specs.Trees.{type_size, fields_size}
use Rattle.vx_write.specs.Plans.{plans_view, columns_in}
use Rattle.vx_write.specs.Chunks.{columns_seen}
use Rattle.vx_write.proofs.splitting.+splitting.Given as goal

abbrev pub decreases-split_one : goal.decreases-split_one
decreases-split_one l = 2 * type_size (dtype_of (column_view l.chunk.now))

abbrev pub decreases-split_fields : goal.decreases-split_fields
decreases-split_fields l = 2 * fields_size (types_of (pairs_view l.fields.now)) + 1

-- the columns so far and those of the fields still to come
abbrev pub invariant-split_fields-loop-at : goal.invariant-split_fields-loop-at
invariant-split_fields-loop-at l =
    columns_seen l.columns.items ++ columns_in (plans_view (drop l.at l.plans)) (pairs_view (drop l.at l.fields)) ≡ columns_seen l.fn.columns.items ++ columns_in (plans_view l.plans) (pairs_view l.fields)
