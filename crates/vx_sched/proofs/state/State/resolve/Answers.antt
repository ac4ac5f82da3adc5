use Rattle.std.proofs.Common.{◌≡◌, ◌+◌, List, ap, sym, subst, ◌∙◌}
use Rattle.vx_sched.specs.contracts.state.State.{the_view}
use Rattle.vx_sched.specs.Merging.{is_listed}
use Rattle.vx_sched.specs.Reads.{Reads, waiting_at, polled_at, change, resolve_read, ranges_in_flight}
use Rattle.vx_sched.specs.Scheduling.{Scheduler, IsInFlight, resolved}
use Rattle.vx_sched.proofs.SoundLemmas.{sound-resolved, waiting-resolved, polled-resolved}
use Rattle.vx_sched.proofs.ChainLemmas.{ranges-back}
use Rattle.vx_sched.specs.declared.request.ReadRequest.{ReadRequest}
use Rattle.vx_sched.proofs.state.State.resolve.Goals as goal

pub invariant_of-self : goal.invariant_of-self
invariant_of-self c =
    let same : c.resolve.new.self ≡ (resolved (the_view c.self.inside) c.args.range.now).reads =
    c.resolve.ensures ∙ ap (λ (rs : List ReadRequest). change (is_listed rs) resolve_read c.self.inside.table) c.requests.ensures.value in
    let flight = subst (λ (s : Scheduler). IsInFlight s c.args.range.now) (sym c.self.view_is) c.requires in (
      c.self.invariant.0,
      rw same (sound-resolved (the_view c.self.inside) c.args.range.now c.self.invariant.1 flight),
    )

pub returns-clause-waiting : goal.returns-clause-waiting
returns-clause-waiting c q =
    let same : c.resolve.new.self ≡ (resolved (the_view c.self.inside) c.args.range.now).reads =
    c.resolve.ensures ∙ ap (λ (rs : List ReadRequest). change (is_listed rs) resolve_read c.self.inside.table) c.requests.ensures.value in
    ap (λ (reads : Reads). waiting_at reads q) same ∙ waiting-resolved (the_view c.self.inside) c.self.invariant.1 c.args.range.now q ∙ ap (λ (s : Scheduler). waiting_at s.reads q) c.self.view_is

pub returns-clause-polled : goal.returns-clause-polled
returns-clause-polled c q =
    let same : c.resolve.new.self ≡ (resolved (the_view c.self.inside) c.args.range.now).reads =
    c.resolve.ensures ∙ ap (λ (rs : List ReadRequest). change (is_listed rs) resolve_read c.self.inside.table) c.requests.ensures.value in
    ap (λ (reads : Reads). polled_at reads q) same ∙ polled-resolved (the_view c.self.inside) c.self.invariant.1 c.args.range.now q ∙ ap (λ (s : Scheduler). polled_at s.reads q) c.self.view_is

pub returns-clause-ranges : goal.returns-clause-ranges
returns-clause-ranges c =
    let same : c.resolve.new.self ≡ (resolved (the_view c.self.inside) c.args.range.now).reads =
    c.resolve.ensures ∙ ap (λ (rs : List ReadRequest). change (is_listed rs) resolve_read c.self.inside.table) c.requests.ensures.value in
    let flight = subst (λ (s : Scheduler). IsInFlight s c.args.range.now) (sym c.self.view_is) c.requires in
    sym (ap (λ (s : Scheduler). ranges_in_flight s.reads) c.self.view_is) ∙ ranges-back (the_view c.self.inside) c.args.range.now c.self.invariant.1 flight
    ∙ ap (λ (reads : Reads). ranges_in_flight reads + 1) (sym same)
