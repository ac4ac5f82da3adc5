use Rattle.std.proofs.Common.{◌≡◌, length, rules}
use Rattle.vx_rows.specs.Span.{span}
use Rattle.vx_rows.specs.Verdicts.{plain_told}
use Rattle.vx_rows.proofs.VerdictLemmas.{plain_numbers}
use Rattle.vx_rows.proofs.comparing.compare_numbers_of.Goals as goal

pub returns : goal.returns
returns c =
    let long : c.args.count ≡ length c.args.values.now.rows = search rules in
    let items : c.in_ok-truths.truths.items ≡ span (plain_told c.args.verdict c.args.ptype c.in-Some.bytes.now c.in-Some.at c.args.literal) 0 c.args.count = search rules in
    plain_numbers c.args.verdict c.args.ptype c.in-Some.bytes.now c.in-Some.at c.args.literal c.args.values.now c.args.count c.in_ok-truths.truths.items
    c.requires long c.in-Some.ensures.rows items
