use Rattle.vx_sched.proofs.PickLemmas.{looked-before}
use Rattle.vx_sched.proofs.gather.look_before.Goals as goal

pub returns-clause-looked : goal.returns-clause-looked
returns-clause-looked c =
    looked-before c.args.rules.now c.args.table.now c.args.before.now c.args.left c.args.seen.left c.args.seen.right c.args.picks.now c.look_between.new.picks
    c.in_ok-look_between.ensures.more c.requires.seen c.in_ok-look_between.ensures.looked
