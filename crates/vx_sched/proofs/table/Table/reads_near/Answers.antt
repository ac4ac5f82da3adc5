use Rattle.std.proofs.Common.{arith, sym, ◌∙◌}
use Rattle.std.proofs.lemmas.List.Elements.{recursion_from_All}
use Rattle.vx_sched.specs.Places.{IsWaitingRead}
use Rattle.vx_sched.proofs.SeenLemmas.{stands-kept, waiting-seen, those-wait, all-fit}
use Rattle.vx_sched.proofs.TableLemmas.{near-first, near-none}
use Rattle.vx_sched.proofs.table.Table.reads_near.Goals as goal

pub returns-clause-complete : goal.returns-clause-complete
returns-clause-complete c =
    let stands = stands-kept c.self.inside.reads c.self.inside.places c.self.inside.longest c.self.invariant.kept in
    rw (← c.self.view_is) (λ id r w left from right.
    let waits = sym (waiting-seen c.self.inside.reads id stands.keyed) ∙ w in
    c.in_ok-reads.ensures.all c.self.inside.longest c.self.invariant.kept id r waits
    (near-first c.self.inside.reads c.self.inside.places c.self.inside.longest c.args.left c.args.from c.max-first.result
    c.self.invariant.kept (omega (arith, c.max-first.ensures, c.saturating_sub.ensures)) id r waits left from) right)

pub returns-clause-waits : goal.returns-clause-waits
returns-clause-waits c =
    let stands = stands-kept c.self.inside.reads c.self.inside.places c.self.inside.longest c.self.invariant.kept in
    rw (← c.self.view_is)
    (those-wait c.self.inside.reads c.in_ok-reads.reads.items stands.keyed
    (recursion_from_All (IsWaitingRead c.self.inside.reads) c.in_ok-reads.reads.items (c.in_ok-reads.ensures.wait c.self.inside.longest c.self.invariant.kept)))

pub returns-then-first-right-clause-complete : goal.returns-then-first-right-clause-complete
returns-then-first-right-clause-complete c =
    let stands = stands-kept c.self.inside.reads c.self.inside.places c.self.inside.longest c.self.invariant.kept in
    rw (← c.self.view_is) (λ id r w. near-none c.self.inside.reads c.self.inside.places c.self.inside.longest c.args.left c.args.from c.args.right c.max-first.result _
    c.self.invariant.kept (omega (arith, c.max-first.ensures, c.saturating_sub.ensures)) (omega (arith, c.if-first-right.true)) id r (sym (waiting-seen c.self.inside.reads id stands.keyed) ∙ w))

pub returns-then-first-right-clause-fit : goal.returns-then-first-right-clause-fit
returns-then-first-right-clause-fit c =
    let stands = stands-kept c.self.inside.reads c.self.inside.places c.self.inside.longest c.self.invariant.kept in
    rw (← c.self.view_is) (all-fit c.self.inside.reads c.self.inside.places c.self.inside.longest c.self.invariant.kept stands.keyed)

pub returns-in_err-reads-clause-fit : goal.returns-in_err-reads-clause-fit
returns-in_err-reads-clause-fit c =
    let stands = stands-kept c.self.inside.reads c.self.inside.places c.self.inside.longest c.self.invariant.kept in
    rw (← c.self.view_is) (all-fit c.self.inside.reads c.self.inside.places c.self.inside.longest c.self.invariant.kept stands.keyed)

pub returns-clause-fit : goal.returns-clause-fit
returns-clause-fit c =
    let stands = stands-kept c.self.inside.reads c.self.inside.places c.self.inside.longest c.self.invariant.kept in
    rw (← c.self.view_is) (all-fit c.self.inside.reads c.self.inside.places c.self.inside.longest c.self.invariant.kept stands.keyed)
