use Rattle.std.proofs.Common.{◌≡◌, arith}
use Rattle.std.proofs.lemmas.Grind.{common_steps}
use Rattle.vx_base.specs.Asking.{logged, ranges_of-logged}
use Rattle.vx_base.proofs.MatchingLemmas.{logged_outlines-map}
use Rattle.vx_base.proofs.matching.log_answers.Goals as goal

pub loop-range-init : goal.loop-range-init
loop-range-init c = grind (arith, common_steps, logged_outlines-map c.args.asked.now c.args.answers.now)

pub returns-clause-ranges : goal.returns-clause-ranges
returns-clause-ranges c =
    let e : c.loop-range.log.items ≡ logged c.args.asked.now c.args.answers.now = grind (arith, common_steps) in
    rw e (ranges_of-logged c.args.asked.now c.args.answers.now)
