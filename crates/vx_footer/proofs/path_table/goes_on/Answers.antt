use Rattle.std.proofs.Common.{arith, rules}
use Rattle.std.proofs.lemmas.Bool.Decides.{nat_tests}
use Rattle.vx_footer.proofs.PathTableSteps.{goes_on_by}
use Rattle.vx_footer.proofs.path_table.goes_on.Goals as goal

pub returns : goal.returns
returns c = λ all.
    goes_on_by c.parts-names.result.now c.parts-front.result.now c.index-names-count.result c.args.name.now c.args.path.now c.args.parent.now c.common_length.result
    c.parts-names.ensures c.parts-front.ensures (grind (arith, nat_tests, c.if-names-count.false)) (grind (arith, nat_tests, c.if-names-count-ne1.false))
    c.index-names-count.is (search rules) c.common_length.ensures.value (grind (arith, nat_tests, all))
