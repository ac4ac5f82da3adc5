use Rattle.std.proofs.Common.{[]}
use Rattle.vx_source.proofs.SourceLemmas.{history-then}
use Rattle.vx_source.proofs.session_source.make_room.Goals as goal

pub returns-then-made-count-clause-history : goal.returns-then-made-count-clause-history
returns-then-made-count-clause-history c = λ h. history-then c.args.session.now h c.renew.new.self (λ w past st. ([], c.renew.ensures.stands w past st))
