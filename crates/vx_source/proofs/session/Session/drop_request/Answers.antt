use Rattle.vx_source.proofs.BytesLemmas.{drops-bytes}
use Rattle.vx_source.proofs.SettingLemmas.{drop-keeps}
use Rattle.vx_source.proofs.StepLemmas.{drops-next}
use Rattle.vx_source.proofs.session.Session.drop_request.Goals as goal

pub returns-clause-drops : goal.returns-clause-drops
returns-clause-drops c = λ w past st. rw (c.drop_kept-reply.ensures.reply, c.drop_kept-reply.ensures.after) (drops-next w past c.args.self.now c.args.number st)

pub returns-clause-bytes : goal.returns-clause-bytes
returns-clause-bytes c = λ file h. rw c.drop_kept-reply.ensures.after (drops-bytes file c.args.self.now h c.args.number)

pub returns-clause-settings : goal.returns-clause-settings
returns-clause-settings c = rw c.drop_kept-reply.ensures.after (drop-keeps c.args.self.now c.args.number).idle

pub returns-clause-made : goal.returns-clause-made
returns-clause-made c = rw c.drop_kept-reply.ensures.after (drop-keeps c.args.self.now c.args.number).made
