use Rattle.std.proofs.Common.{◌≡◌, ◌<◌, ◌≤◌, ◌∙◌, ap, sym, refl, cond, is_some, None, option_map, Bor, List, ℕ, rules, arith}
use Rattle.std.specs.Prelude.{slice_index_or, not}
use Rattle.std.specs.Cmp.Lexicographic.{nat_list_cmp_total}
use Rattle.vx_data.specs.Scalar.{words}
use Rattle.vx_rows.specs.RowStats.{text_cmp}
use Rattle.vx_rows.specs.Span.{span}
use Rattle.vx_rows.specs.Columns.{text_row}
use Rattle.vx_rows.proofs.SpanLemmas.{length_span, get_or_span}
use Rattle.vx_rows.proofs.ExtentLemmas.{gathered_step, gathered_summary}
use Rattle.vx_rows.proofs.extents.extent_of_plain_texts.Goals as goal

pub loop-row-preserved : goal.loop-row-preserved
loop-row-preserved c =
    let f = text_row None c.args.bytes.now c.args.places.now in
    let long = length_span f 0 c.args.count in
    let less : c.loop-row.row < c.args.count = search rules in
    let here : option_map (λ (v : Bor (List ℕ)). v.now) c.plain_text.result ≡ slice_index_or (span f 0 c.args.count) c.loop-row.row None =
    c.plain_text.ensures ∙ ap f (omega arith) ∙ sym (get_or_span f 0 c.args.count c.loop-row.row None less) in
    gathered_step text_cmp nat_list_cmp_total (span f 0 c.args.count) c.loop-row.row _ _ 0 c.loop-row.invariant
    _ _ _ 0 (omega (arith, less, long)) here c.with_text-ends.ensures.least c.with_text-ends.ensures.greatest (ap (λ r. cond (not (is_some r)) 1 0) (sym c.plain_text.ensures))

pub returns : goal.returns
returns c =
    let f = text_row None c.args.bytes.now c.args.places.now in
    let long = length_span f 0 c.args.count in
    let past : c.args.count ≤ c.loop-row.row = search rules in
    c.in_ok-told_by_texts.ensures
    ∙ gathered_summary text_cmp nat_list_cmp_total (span f 0 c.args.count) c.loop-row.row _ _ 0 c.loop-row.invariant words _ _ (omega (arith, past, long)) refl refl
