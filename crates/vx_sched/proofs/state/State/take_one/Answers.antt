use Rattle.std.proofs.Common.{◌≡◌, ◌+◌, ◌∷◌, [], List, ap, sym, subst, ◌∙◌, arith}
use Rattle.vx_sched.specs.contracts.state.State.{the_view}
use Rattle.vx_sched.specs.Merging.{is_listed}
use Rattle.vx_sched.specs.Reads.{Reads, change, take_read, ranges_in_flight}
use Rattle.vx_sched.specs.Counting.{count_in}
use Rattle.vx_sched.specs.Law.{IsSound}
use Rattle.vx_sched.specs.Scheduling.{Scheduler, MergesNow, IsInFlight, taken}
use Rattle.vx_sched.proofs.SoundLemmas.{sound-taken}
use Rattle.vx_sched.proofs.ChainLemmas.{flies-taken, ranges-one, may-take, fewer-one}
use Rattle.vx_sched.specs.declared.request.ReadRequest.{ReadRequest}
use Rattle.vx_sched.specs.declared.read.ReadState.TheVariants.{Polled}
use Rattle.vx_sched.proofs.state.State.take_one.Goals as goal

pub invariant_of-self : goal.invariant_of-self
invariant_of-self c =
    let took : c.take.new.self ≡ (taken (the_view c.self.inside) c.args.span.now).reads =
    c.take.ensures ∙ ap (λ (rs : List ReadRequest). change (is_listed rs) (take_read rs) c.self.inside.table) c.requests.ensures.value in
    let merges : MergesNow (the_view c.self.inside) c.args.span.now = subst (λ (s : Scheduler). MergesNow s c.args.span.now) (sym c.self.view_is) c.requires in (
      c.self.invariant.0,
      rw took (sound-taken (the_view c.self.inside) c.args.span.now c.self.invariant.1 merges),
    )

pub returns-clause-flies : goal.returns-clause-flies
returns-clause-flies c =
    let took : c.take.new.self ≡ (taken (the_view c.self.inside) c.args.span.now).reads =
    c.take.ensures ∙ ap (λ (rs : List ReadRequest). change (is_listed rs) (take_read rs) c.self.inside.table) c.requests.ensures.value in
    let merges : MergesNow (the_view c.self.inside) c.args.span.now = subst (λ (s : Scheduler). MergesNow s c.args.span.now) (sym c.self.view_is) c.requires in
    subst (λ (reads : Reads). IsInFlight (record (the_view c.self.inside) { reads = reads }) c.args.span.now) (sym took) (flies-taken (the_view c.self.inside) c.args.span.now c.self.invariant.1 merges)

pub returns-clause-ranges : goal.returns-clause-ranges
returns-clause-ranges c =
    let took : c.take.new.self ≡ (taken (the_view c.self.inside) c.args.span.now).reads =
    c.take.ensures ∙ ap (λ (rs : List ReadRequest). change (is_listed rs) (take_read rs) c.self.inside.table) c.requests.ensures.value in
    let merges : MergesNow (the_view c.self.inside) c.args.span.now = subst (λ (s : Scheduler). MergesNow s c.args.span.now) (sym c.self.view_is) c.requires in
    ap ranges_in_flight took ∙ ranges-one (the_view c.self.inside) c.args.span.now c.self.invariant.1 merges ∙ ap (λ (s : Scheduler). ranges_in_flight s.reads + 1) c.self.view_is

pub returns-clause-may : goal.returns-clause-may
returns-clause-may c fits =
    let sound = subst IsSound c.self.view_is c.self.invariant.1 in
    may-take c.args.self.now (c.args.span.now ∷ []) 1 sound (c.requires, tt) (omega arith) (omega (arith, fits)) (omega arith)

pub returns-clause-fewer : goal.returns-clause-fewer
returns-clause-fewer c =
    let took : c.take.new.self ≡ (taken (the_view c.self.inside) c.args.span.now).reads =
    c.take.ensures ∙ ap (λ (rs : List ReadRequest). change (is_listed rs) (take_read rs) c.self.inside.table) c.requests.ensures.value in
    let merges : MergesNow (the_view c.self.inside) c.args.span.now = subst (λ (s : Scheduler). MergesNow s c.args.span.now) (sym c.self.view_is) c.requires in
    let fewer = fewer-one (the_view c.self.inside) c.args.span.now merges in
    let now = ap (count_in Polled) took in
    let before = ap (λ (s : Scheduler). count_in Polled s.reads) c.self.view_is in
    omega (arith, fewer, now, before)
