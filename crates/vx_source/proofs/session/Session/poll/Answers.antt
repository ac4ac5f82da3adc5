use Rattle.vx_source.proofs.BytesLemmas.{polls-bytes, ready-true}
use Rattle.vx_source.proofs.SettingLemmas.{poll-keeps}
use Rattle.vx_source.proofs.StepLemmas.{polls-next}
use Rattle.vx_source.proofs.session.Session.poll.Goals as goal

pub returns-clause-polls : goal.returns-clause-polls
returns-clause-polls c = λ w past st. rw (c.in_ok-reply.ensures.reply, c.in_ok-reply.ensures.after) (polls-next w past c.args.self.now c.args.number st)

pub returns-clause-bytes : goal.returns-clause-bytes
returns-clause-bytes c = λ w past file st h.
    rw (c.in_ok-reply.ensures.reply, c.in_ok-reply.ensures.after) (ready-true file c.args.self.now h w past st c.args.number, polls-bytes file c.args.self.now h c.args.number)

pub returns-clause-settings : goal.returns-clause-settings
returns-clause-settings c = rw c.in_ok-reply.ensures.after (poll-keeps c.args.self.now c.args.number).idle

pub returns-clause-made : goal.returns-clause-made
returns-clause-made c = rw c.in_ok-reply.ensures.after (poll-keeps c.args.self.now c.args.number).made
