use Rattle.std.proofs.Common.{ap, refl, subst, ◌∙◌}
use Rattle.vx_sched.specs.Places.{waiting_of, AreUpTo}
use Rattle.vx_sched.proofs.KeptLemmas.{ordered-table}
use Rattle.vx_sched.proofs.places.Places.arrange_all.Goals as goal

pub returns : goal.returns
returns c longest t =
    ordered-table c.args.reads.now c.args.self.now _ longest c.add_all.new.places.items c.in_ok-found.found.items t refl
    c.in_ok-add_all.ensures.kept c.in_ok-add_all.ensures.all
    (c.in_ok-found.ensures ∙ ap (waiting_of c.args.reads.now) c.as_slice.ensures.value)
    c.in_ok-merge.ensures.held c.in_ok-merge.ensures.asked c.in_ok-merge.ensures.newest c.in_ok-merge.ensures.rise
    c.newest_of-newest.ensures.least
    (subst (AreUpTo c.newest_of-newest.result) c.as_slice-2.ensures.value c.newest_of-newest.ensures.all)
