use Rattle.std.proofs.Common.{◌≡◌, arith}
use Rattle.std.proofs.lemmas.Grind.{common_steps}
use Rattle.std.proofs.lemmas.List.Elements.{recursion_from_All}
use Rattle.vx_base.specs.Asking.{IsTrueTo}
use Rattle.vx_sched.proofs.AnswerLemmas.{outcomes_of}
use Rattle.vx_sched.proofs.AnswerLemmas.{log_of-outcomes, outcomes-are, outcomes-bytes}
use Rattle.vx_sched.proofs.asking.match_answers.Goals as goal

pub returns-clause-log : goal.returns-clause-log
returns-clause-log c =
    let e : c.loop-range.all.items ≡ outcomes_of c.args.asked.now c.args.answers.items = grind (arith, common_steps) in
    rw e (log_of-outcomes c.args.asked.now c.args.answers.items)

pub returns-clause-places : goal.returns-clause-places
returns-clause-places c =
    let e : c.loop-range.all.items ≡ outcomes_of c.args.asked.now c.args.answers.items = grind (arith, common_steps) in
    rw e (outcomes-are c.args.asked.now c.args.answers.items)

pub returns-clause-bytes : goal.returns-clause-bytes
returns-clause-bytes c b t =
    let e : c.loop-range.all.items ≡ outcomes_of c.args.asked.now c.args.answers.items = grind (arith, common_steps) in
    rw e (outcomes-bytes b c.args.asked.now c.args.answers.items (recursion_from_All (IsTrueTo b) c.args.answers.items t))
