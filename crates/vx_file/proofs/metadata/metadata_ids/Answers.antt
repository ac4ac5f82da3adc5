use Rattle.std.proofs.Common.{◌-◌, ◌∙◌, length, ap, arith}
use Rattle.vx_file.specs.Loading.{numbers_from}
use Rattle.vx_file.proofs.Loadings.{ids-are, ids-length, table-length}
use Rattle.vx_file.proofs.metadata.metadata_ids.Goals as goal

pub numbers-requires : goal.numbers-requires
numbers-requires c =
    let f = c.args.footer.now.content in
    let first = ap length c.segment_map-first.ensures in
    let end = ap length c.segment_specs_with_metadata-end.ensures in
    let all = table-length f in
    omega (arith, first, end, all)

pub returns-clause-ids : goal.returns-clause-ids
returns-clause-ids c = c.in_ok-ids.ensures ∙ ap (λ n. numbers_from n (length c.segment_specs_with_metadata-end.result.now - n)) (ap length c.segment_map-first.ensures)
    ∙ ids-are c.args.footer.now.content (length c.segment_specs_with_metadata-end.result.now) (ap length c.segment_specs_with_metadata-end.ensures)

pub returns-clause-long : goal.returns-clause-long
returns-clause-long c = ids-length c.args.footer.now.content c.in_ok-ids.ids.items (c.in_ok-ids.ensures ∙ ap (λ n. numbers_from n (length c.segment_specs_with_metadata-end.result.now - n)) (ap length c.segment_map-first.ensures)
    ∙ ids-are c.args.footer.now.content (length c.segment_specs_with_metadata-end.result.now) (ap length c.segment_specs_with_metadata-end.ensures))
