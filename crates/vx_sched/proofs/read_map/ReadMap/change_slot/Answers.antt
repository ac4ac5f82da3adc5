use Rattle.std.proofs.Common.{◌≡◌, ◌==◌, true, false, cond, Some, ap, sym, ◌∙◌, arith}
use Rattle.std.proofs.lemmas.Bool.Decides.{nat_tests}
use Rattle.std.proofs.lemmas.Grind.{common_steps}
use Rattle.vx_sched.specs.BitSet.{is_raised}
use Rattle.vx_sched.specs.Entries.{Entries, entry_at, waits_in, after, changed}
use Rattle.vx_sched.specs.Places.{if_waiting}
use Rattle.vx_sched.specs.Told.{told}
use Rattle.vx_sched.proofs.EntriesLemmas.{sorted-stage}
use Rattle.vx_sched.proofs.ToldLemmas.{told-waits, told-some, put-told, told-put, idle-waits, idle-polls, left-none, left-now}
use Rattle.vx_sched.proofs.read_map.ReadMap.change_slot.Goals as goal

pub put-requires : goal.put-requires
put-requires c =
    told-some c.self.inside.slots c.self.inside.waits c.self.inside.polls c.args.id c.in-Some.read
    (ap (λ (es : Entries). entry_at es c.args.id) c.self.view_is ∙ sym c.get.ensures ∙ c.in-Some.is)

pub put-requires-2 : goal.put-requires-2
put-requires-2 c =
    c.self.invariant.room c.args.id (told-some c.self.inside.slots c.self.inside.waits c.self.inside.polls c.args.id c.in-Some.read
    (ap (λ (es : Entries). entry_at es c.args.id) c.self.view_is ∙ sym c.get.ensures ∙ c.in-Some.is))

pub put-requires-3 : goal.put-requires-3
put-requires-3 c =
    c.self.invariant.room_of_polls c.args.id (told-some c.self.inside.slots c.self.inside.waits c.self.inside.polls c.args.id c.in-Some.read
    (ap (λ (es : Entries). entry_at es c.args.id) c.self.view_is ∙ sym c.get.ensures ∙ c.in-Some.is))

pub invariant_of-self : goal.invariant_of-self
invariant_of-self c =
    let found = ap (λ (es : Entries). entry_at es c.args.id) c.self.view_is ∙ sym c.get.ensures ∙ c.in-Some.is in
    let there = told-some c.self.inside.slots c.self.inside.waits c.self.inside.polls c.args.id c.in-Some.read found in
    let leads = c.stage_after-stage.ensures ∙ ap (after c.args.change) c.stage-before.ensures in
    let idle : waits_in c.in-Some.read.stage ≡ false = grind (arith, common_steps) in
    put-told c.self.inside.slots c.put.new.slots c.self.inside.waits c.self.inside.polls c.self.inside.waits c.self.inside.polls c.self.invariant c.args.id c.request.result c.stage_after-stage.result
    (rw c.put.ensures.entries (sorted-stage c.self.inside.slots c.args.id c.request.result c.stage_after-stage.result c.self.invariant.sorted)) c.put.ensures.lookups
    (c.self.invariant.room c.args.id there) (c.self.invariant.room_of_polls c.args.id there)
    (idle-waits c.self.inside.slots c.self.inside.waits c.self.inside.polls c.self.invariant c.args.id c.args.change c.in-Some.read c.stage_after-stage.result found leads idle) (λ n h. h)
    (idle-polls c.self.inside.slots c.self.inside.waits c.self.inside.polls c.self.invariant c.args.id c.args.change c.in-Some.read c.stage_after-stage.result found leads idle) (λ n h. h)

pub returns-then-not-is_waiting-clause-changed : goal.returns-then-not-is_waiting-clause-changed
returns-then-not-is_waiting-clause-changed c =
    let found = ap (λ (es : Entries). entry_at es c.args.id) c.self.view_is ∙ sym c.get.ensures ∙ c.in-Some.is in
    let there = told-some c.self.inside.slots c.self.inside.waits c.self.inside.polls c.args.id c.in-Some.read found in
    let leads = c.stage_after-stage.ensures ∙ ap (after c.args.change) c.stage-before.ensures in
    let idle : waits_in c.in-Some.read.stage ≡ false = grind (arith, common_steps) in
    told-put c.self.inside.slots c.put.new.slots c.self.inside.waits c.self.inside.polls c.self.inside.waits c.self.inside.polls c.self.invariant c.args.id c.request.result c.stage_after-stage.result
    (rw c.put.ensures.entries (sorted-stage c.self.inside.slots c.args.id c.request.result c.stage_after-stage.result c.self.invariant.sorted)) c.put.ensures.lookups
    (c.self.invariant.room c.args.id there) (c.self.invariant.room_of_polls c.args.id there)
    (idle-waits c.self.inside.slots c.self.inside.waits c.self.inside.polls c.self.invariant c.args.id c.args.change c.in-Some.read c.stage_after-stage.result found leads idle) (λ n h. h)
    (idle-polls c.self.inside.slots c.self.inside.waits c.self.inside.polls c.self.invariant c.args.id c.args.change c.in-Some.read c.stage_after-stage.result found leads idle) (λ n h. h)
    c.args.change c.in-Some.read found c.request.ensures leads
    ∙ ap (λ (es : Entries). changed c.args.change es c.args.id) c.self.view_is

pub returns-then-not-is_waiting-clause-left : goal.returns-then-not-is_waiting-clause-left
returns-then-not-is_waiting-clause-left c =
    let found : entry_at c.args.self.now c.args.id ≡ Some c.in-Some.read = sym c.get.ensures ∙ c.in-Some.is in
    let idle : waits_in c.in-Some.read.stage ≡ false = grind (arith, common_steps) in
    sym (left-none (entry_at c.args.self.now c.args.id) (entry_at (told c.self.inside.waits c.self.inside.polls c.put.new.slots) c.args.id) (ap if_waiting found ∙ idle))

pub invariant_of-self-2 : goal.invariant_of-self-2
invariant_of-self-2 c =
    let found = ap (λ (es : Entries). entry_at es c.args.id) c.self.view_is ∙ sym c.get.ensures ∙ c.in-Some.is in
    let there = told-some c.self.inside.slots c.self.inside.waits c.self.inside.polls c.args.id c.in-Some.read found in
    put-told c.self.inside.slots c.put.new.slots c.self.inside.waits c.self.inside.polls c.put-2.new.self c.put-3.new.self c.self.invariant c.args.id c.request.result c.stage_after-stage.result
    (rw c.put.ensures.entries (sorted-stage c.self.inside.slots c.args.id c.request.result c.stage_after-stage.result c.self.invariant.sorted)) c.put.ensures.lookups
    (c.self.invariant.room c.args.id there) (c.self.invariant.room_of_polls c.args.id there)
    (λ n. c.put-2.ensures.bits n ∙ ap (λ b. cond (c.args.id == n) b (is_raised c.self.inside.waits n)) c.stays_waiting-waits.ensures) c.put-2.ensures.kept
    (λ n. c.put-3.ensures.bits n ∙ ap (λ b. cond (c.args.id == n) b (is_raised c.self.inside.polls n)) c.stays_polled-polled.ensures) c.put-3.ensures.kept

pub returns-clause-changed : goal.returns-clause-changed
returns-clause-changed c =
    let found = ap (λ (es : Entries). entry_at es c.args.id) c.self.view_is ∙ sym c.get.ensures ∙ c.in-Some.is in
    let there = told-some c.self.inside.slots c.self.inside.waits c.self.inside.polls c.args.id c.in-Some.read found in
    told-put c.self.inside.slots c.put.new.slots c.self.inside.waits c.self.inside.polls c.put-2.new.self c.put-3.new.self c.self.invariant c.args.id c.request.result c.stage_after-stage.result
    (rw c.put.ensures.entries (sorted-stage c.self.inside.slots c.args.id c.request.result c.stage_after-stage.result c.self.invariant.sorted)) c.put.ensures.lookups
    (c.self.invariant.room c.args.id there) (c.self.invariant.room_of_polls c.args.id there)
    (λ n. c.put-2.ensures.bits n ∙ ap (λ b. cond (c.args.id == n) b (is_raised c.self.inside.waits n)) c.stays_waiting-waits.ensures) c.put-2.ensures.kept
    (λ n. c.put-3.ensures.bits n ∙ ap (λ b. cond (c.args.id == n) b (is_raised c.self.inside.polls n)) c.stays_polled-polled.ensures) c.put-3.ensures.kept
    c.args.change c.in-Some.read found
    c.request.ensures (c.stage_after-stage.ensures ∙ ap (after c.args.change) c.stage-before.ensures)
    ∙ ap (λ (es : Entries). changed c.args.change es c.args.id) c.self.view_is

pub returns-clause-left : goal.returns-clause-left
returns-clause-left c =
    let found : entry_at c.args.self.now c.args.id ≡ Some c.in-Some.read = sym c.get.ensures ∙ c.in-Some.is in
    let there = told-some c.self.inside.slots c.self.inside.waits c.self.inside.polls c.args.id c.in-Some.read (ap (λ (es : Entries). entry_at es c.args.id) c.self.view_is ∙ found) in
    let waits : waits_in c.in-Some.read.stage ≡ true = grind (arith, common_steps) in
    let same : (c.args.id == c.args.id) ≡ true = grind (arith, nat_tests) in
    sym (left-now (entry_at c.args.self.now c.args.id) (entry_at (told c.put-2.new.self c.put-3.new.self c.put.new.slots) c.args.id) c.stays_waiting-waits.result
    (ap if_waiting found ∙ waits)
    (told-waits c.put.new.slots c.put-2.new.self c.put-3.new.self
    (put-told c.self.inside.slots c.put.new.slots c.self.inside.waits c.self.inside.polls c.put-2.new.self c.put-3.new.self c.self.invariant c.args.id c.request.result c.stage_after-stage.result
    (rw c.put.ensures.entries (sorted-stage c.self.inside.slots c.args.id c.request.result c.stage_after-stage.result c.self.invariant.sorted)) c.put.ensures.lookups
    (c.self.invariant.room c.args.id there) (c.self.invariant.room_of_polls c.args.id there)
    (λ n. c.put-2.ensures.bits n ∙ ap (λ b. cond (c.args.id == n) b (is_raised c.self.inside.waits n)) c.stays_waiting-waits.ensures) c.put-2.ensures.kept
    (λ n. c.put-3.ensures.bits n ∙ ap (λ b. cond (c.args.id == n) b (is_raised c.self.inside.polls n)) c.stays_polled-polled.ensures) c.put-3.ensures.kept) c.args.id
    ∙ c.put-2.ensures.bits c.args.id ∙ ap (λ b. cond b c.stays_waiting-waits.result (is_raised c.self.inside.waits c.args.id)) same))
