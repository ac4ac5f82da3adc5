use Rattle.std.proofs.Common.{◌≡◌, true, length, None, rules}
use Rattle.std.specs.List.{list_all}
use Rattle.vx_data.specs.Scalar.{words}
use Rattle.vx_rows.specs.Span.{span}
use Rattle.vx_rows.specs.Columns.{text_row}
use Rattle.vx_rows.specs.RowStats.{summary_by, text_cmp}
use Rattle.vx_rows.proofs.ExtentLemmas.{plain_texts_summary}
use Rattle.vx_rows.proofs.extents.extent_of_texts.Goals as goal

pub returns : goal.returns
returns c =
    let f = text_row None c.in-Some.bytes.now c.in-Some.places.now in
    let all : list_all (λ b. b) c.args.present.now ≡ true = search rules in
    let tells : c.in_ok-extent_of_plain_texts.field-0 ≡ summary_by words text_cmp (span f 0 (length c.args.column.now.rows)) = search rules in
    plain_texts_summary c.in-Some.bytes.now c.in-Some.places.now c.args.column.now c.args.present.now _ c.requires all c.in-Some.ensures tells
