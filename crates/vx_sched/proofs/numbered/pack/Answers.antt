use Rattle.std.proofs.Common.{rules}
use Rattle.std.proofs.lemmas.List.Elements.{filter_from_retain}
use Rattle.vx_sched.specs.Numbered.{is_full}
use Rattle.vx_sched.proofs.numbered.pack.Goals as goal

pub returns : goal.returns
returns g c = filter_from_retain _ (is_full {V = g.row.V.Denot}) (λ p x b q r. search rules) _ c.args.slots.now.items c.retain.new.self.items c.retain.ensures.filtered
