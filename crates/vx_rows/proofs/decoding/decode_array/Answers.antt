use Rattle.std.proofs.Common.{subst}
use Rattle.vx_data.specs.Dtype.{dtype_view}
use Rattle.vx_rows.specs.Rows.{column_view}
use Rattle.vx_rows.proofs.CopyLemmas.{AreBytes}
use Rattle.vx_rows.proofs.TypedLemmas.{column_typed}
use Rattle.vx_rows.proofs.decoding.decode_array.Goals as goal

pub returns-clause-typed : goal.returns-clause-typed
returns-clause-typed c =
    let bytes : AreBytes c.args.segment.now.bytes = subst AreBytes c.as_slice.ensures.value c.ends_at.ensures.bytes in
    (column_typed c.deref.result.now (dtype_view c.args.dtype.now) c.args.rows c.args.segment.now.bytes bytes 0 (column_view c.in_ok-column.column, c.in_ok-column.after) c.in_ok-column.ensures.value).0

pub returns-clause-sound : goal.returns-clause-sound
returns-clause-sound c =
    let bytes : AreBytes c.args.segment.now.bytes = subst AreBytes c.as_slice.ensures.value c.ends_at.ensures.bytes in
    (column_typed c.deref.result.now (dtype_view c.args.dtype.now) c.args.rows c.args.segment.now.bytes bytes 0 (column_view c.in_ok-column.column, c.in_ok-column.after) c.in_ok-column.ensures.value).1
