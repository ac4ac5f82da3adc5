use Rattle.std.proofs.Common.{drop}
use Rattle.vx_data.specs.Dtype.{pairs_view as types_view}
use Rattle.vx_rows.specs.Rows.{viewed}
use Rattle.vx_file.specs.Scans.{seen}
use Rattle.vx_file.proofs.JoiningLemmas.{Names}
use Rattle.vx_file.proofs.column_joining.named.Given as goal

-- the fields in front are under their names
abbrev pub invariant-loop-at : goal.invariant-loop-at
invariant-loop-at l = Names (types_view l.fields) (types_view (drop l.at l.fields)) (seen l.fn.columns.rest.items) (seen l.columns.rest.items) (viewed l.named.items)
