use Rattle.std.proofs.Common.{◌≡◌, arith}
use Rattle.std.proofs.lemmas.Grind.{common_steps}
use Rattle.vx_sched.specs.Scheduling.{all_taken}
use Rattle.vx_sched.proofs.ChainLemmas.{all-fly, turn-apart, ranges-all, fewer-all, same-all}
use Rattle.vx_sched.proofs.state.State.take.Goals as goal

pub returns-clause-flies : goal.returns-clause-flies
returns-clause-flies c =
    let value : c.loop-span.self ≡ all_taken c.args.self.now c.args.batch.now = grind (arith, common_steps) in
    rw value (all-fly c.args.self.now c.args.batch.now c.concurrency.ensures.sound c.requires.merge)

pub returns-clause-apart : goal.returns-clause-apart
returns-clause-apart c = turn-apart c.args.self.now c.args.batch.now c.concurrency.ensures.sound c.requires.merge

pub returns-clause-ranges : goal.returns-clause-ranges
returns-clause-ranges c =
    let value : c.loop-span.self ≡ all_taken c.args.self.now c.args.batch.now = grind (arith, common_steps) in
    rw value (ranges-all c.args.self.now c.args.batch.now c.concurrency.ensures.sound c.requires.merge)

pub returns-clause-fewer : goal.returns-clause-fewer
returns-clause-fewer c =
    let value : c.loop-span.self ≡ all_taken c.args.self.now c.args.batch.now = grind (arith, common_steps) in
    rw value (fewer-all c.args.self.now c.args.batch.now c.requires.some c.requires.merge)

pub returns-clause-settings : goal.returns-clause-settings
returns-clause-settings c =
    let value : c.loop-span.self ≡ all_taken c.args.self.now c.args.batch.now = grind (arith, common_steps) in
    rw value (same-all c.args.self.now c.args.batch.now)
