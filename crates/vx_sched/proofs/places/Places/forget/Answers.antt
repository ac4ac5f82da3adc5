use Rattle.std.proofs.Common.{◌==◌, not, refl, sym, subst}
use Rattle.vx_sched.specs.Places.{AreApart}
use Rattle.vx_sched.proofs.KeptLemmas.{filtered-table, other-number, apart-above, apart-filter}
use Rattle.vx_sched.proofs.places.Places.forget.Goals as goal

pub returns-then-id-self-clause-apart : goal.returns-then-id-self-clause-apart
returns-then-id-self-clause-apart c entries longest t = apart-above c.args.self.now.newest c.args.id c.args.self.now.sorted.items c.if-id-self.true t.newest

pub returns-clause-kept : goal.returns-clause-kept
returns-clause-kept c entries longest t none =
    filtered-table entries c.args.self.now _ longest (λ r. not (r.id == c.args.id)) t (λ r w. other-number entries c.args.id r none w) refl c.keep_others.ensures refl refl refl

pub returns-clause-apart : goal.returns-clause-apart
returns-clause-apart c entries longest t = subst (AreApart c.args.id) (sym c.keep_others.ensures) (apart-filter c.args.id c.args.self.now.sorted.items)
