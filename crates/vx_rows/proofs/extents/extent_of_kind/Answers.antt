use Rattle.std.proofs.Common.{◌≡◌, true, length, None, rules}
use Rattle.std.specs.List.{list_all}
use Rattle.std.specs.Ordering.{int_cmp}
use Rattle.vx_data.specs.Scalar.{number}
use Rattle.vx_rows.specs.Span.{span}
use Rattle.vx_rows.specs.Columns.{int_row}
use Rattle.vx_rows.specs.RowStats.{summary_by}
use Rattle.vx_rows.proofs.ExtentLemmas.{plain_summary}
use Rattle.vx_rows.proofs.extents.extent_of_kind.Goals as goal

pub returns : goal.returns
returns c =
    let all : list_all (λ b. b) c.args.present.now ≡ true = search rules in
    let tells : c.extent_of_plain.result ≡ summary_by number int_cmp (span (int_row c.args.ptype None c.in-Some.bytes.now c.in-Some.at) 0 (length c.args.column.now.rows)) = search rules in
    plain_summary c.args.ptype c.in-Some.bytes.now c.in-Some.at c.args.column.now c.args.present.now c.extent_of_plain.result c.requires.typed c.requires.long all c.in-Some.ensures.rows tells
