use Rattle.std.proofs.Common.{rules}
use Rattle.vx_rows.specs.Operands.{compared_at}
use Rattle.vx_rows.proofs.MeetingLemmas.{met_second, truths_met}
use Rattle.vx_rows.proofs.nodes.true_comparisons.Goals as goal

pub returns-in-Some-2 : goal.returns-in-Some-2
returns-in-Some-2 c = met_second c.args.op c.of-verdict.result c.turned.result c.args.a.now c.args.b.now c.args.count c.in-Some-2.flags.items c.of-verdict.ensures c.turned.ensures (search rules)

pub returns : goal.returns
returns c = truths_met (compared_at c.args.op c.args.a.now c.args.b.now) c.args.count c.in_ok-truths.truths.items c.in_ok-true_truths.field-0.items c.in_ok-truths.ensures (search rules)
