use Rattle.std.proofs.Common.{sym, arith}
use Rattle.vx_rows.proofs.FieldRowLemmas.{nth_past, nth_there}
use Rattle.vx_rows.proofs.fields.column_at.Goals as goal

pub returns-then-place-columns : goal.returns-then-place-columns
returns-then-place-columns c = sym (nth_past c.args.columns.now c.args.place (omega arith))

pub returns : goal.returns
returns c = nth_there c.args.columns.now c.args.place c.index-columns-place.result (omega arith)
