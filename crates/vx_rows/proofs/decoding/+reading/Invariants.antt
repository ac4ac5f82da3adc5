use Rattle.std.proofs.Common.{◌+◌, ◌*◌}
use Rattle.vx_data.specs.Dtype.{dtype_view, pairs_view as types_view}
use Rattle.vx_rows.specs.Rows.{viewed}
use Rattle.vx_rows.specs.Trees.{columns_at, type_size, fields_size}
use Rattle.vx_rows.proofs.TreeLemmas.{Reading}
use Rattle.vx_rows.proofs.decoding.+reading.Given as goal

abbrev pub decreases-read_column : goal.decreases-read_column
decreases-read_column l = 2 * type_size (dtype_view l.dtype.now)

abbrev pub decreases-read_fields : goal.decreases-read_fields
decreases-read_fields l = 2 * fields_size (types_view l.fields.now) + 1

abbrev pub invariant-read_fields-loop-index : goal.invariant-read_fields-loop-index
invariant-read_fields-loop-index l =
    Reading l.kinds l.fields l.rows l.segment.bytes (columns_at l.kinds (types_view l.fields) l.rows l.segment.bytes l.at) l.index l.place (viewed l.columns.items)
