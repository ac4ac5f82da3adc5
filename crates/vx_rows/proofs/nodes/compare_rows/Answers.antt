use Rattle.std.proofs.Common.{rules}
use Rattle.vx_rows.proofs.VerdictLemmas.{told_first, told_second}
use Rattle.vx_rows.proofs.nodes.compare_rows.Goals as goal

pub returns-in-Some : goal.returns-in-Some
returns-in-Some c = told_first c.args.op c.of-verdict.result c.args.a.now c.args.b.now c.args.count c.in-Some.truths.items c.of-verdict.ensures (search rules)

pub returns-in-Some-2 : goal.returns-in-Some-2
returns-in-Some-2 c = told_second c.args.op c.of-verdict.result c.turned.result c.args.a.now c.args.b.now c.args.count c.in-Some-2.truths.items c.of-verdict.ensures c.turned.ensures (search rules)
