use Rattle.std.proofs.Common.{◌≡◌, ℕ, cond, Some, refl, ap, subst, ◌∙◌}
use Rattle.std.specs.BTreeMap.{insert_entry, is_at}
use Rattle.std.specs.Ordering.{nat_cmp}
use Rattle.vx_sched.specs.BitSet.{is_raised}
use Rattle.vx_sched.specs.Entries.{Entries, entry_at}
use Rattle.vx_sched.specs.Stored.{Read}
use Rattle.vx_sched.specs.declared.read.Stage.TheVariants.{Registered}
use Rattle.vx_sched.proofs.EntriesLemmas.{sorted-put}
use Rattle.vx_sched.proofs.ToldLemmas.{opened-told, none-raised, told-same, put-told, told-insert, cleared}
use Rattle.vx_sched.proofs.read_map.ReadMap.add.Goals as goal

pub invariant_of-self-2 : goal.invariant_of-self-2
invariant_of-self-2 c =
    let opened = opened-told c.self.inside.slots c.self.inside.waits c.self.inside.polls c.«open».new.self c.open-2.new.self c.self.invariant
    c.in_ok-open.ensures.same c.in_ok-open.ensures.kept c.in_ok-open-2.ensures.same c.in_ok-open-2.ensures.kept in
    let none = none-raised c.self.inside.slots c.self.inside.waits c.self.inside.polls c.self.invariant c.args.request.id (ap (λ (es : Entries). entry_at es c.args.request.id) c.self.view_is ∙ c.requires) in
    let value : c.new.result ≡ record { request = c.args.request; stage = Registered } = c.new.ensures in
    put-told c.self.inside.slots c.put.new.self c.«open».new.self c.open-2.new.self c.put-2.new.self c.open-2.new.self opened c.args.request.id c.args.request (Some Registered)
    (rw c.in_ok-put.ensures.ok (sorted-put c.args.request.id c.new.result c.self.inside.slots c.self.invariant.sorted))
    (subst (λ (x : Read). (q : ℕ) → entry_at c.put.new.self q ≡ cond (is_at (nat_cmp c.args.request.id) q) (Some x) (entry_at c.self.inside.slots q)) value c.in_ok-put.ensures.lookups)
    c.in_ok-open.ensures.room c.in_ok-open-2.ensures.room
    c.put-2.ensures.bits c.put-2.ensures.kept (λ n. cleared (is_raised c.open-2.new.self) c.args.request.id n (c.in_ok-open-2.ensures.same c.args.request.id ∙ none.1)) (λ n h. h)

pub returns-clause-entries : goal.returns-clause-entries
returns-clause-entries c =
    let opened = opened-told c.self.inside.slots c.self.inside.waits c.self.inside.polls c.«open».new.self c.open-2.new.self c.self.invariant
    c.in_ok-open.ensures.same c.in_ok-open.ensures.kept c.in_ok-open-2.ensures.same c.in_ok-open-2.ensures.kept in
    let none = none-raised c.self.inside.slots c.self.inside.waits c.self.inside.polls c.self.invariant c.args.request.id (ap (λ (es : Entries). entry_at es c.args.request.id) c.self.view_is ∙ c.requires) in
    let value : c.new.result ≡ record { request = c.args.request; stage = Registered } = c.new.ensures in
    told-insert c.self.inside.slots c.put.new.self c.«open».new.self c.open-2.new.self c.put-2.new.self c.open-2.new.self opened c.args.request.id c.args.request (Some Registered)
    (rw c.in_ok-put.ensures.ok (sorted-put c.args.request.id c.new.result c.self.inside.slots c.self.invariant.sorted))
    (subst (λ (x : Read). (q : ℕ) → entry_at c.put.new.self q ≡ cond (is_at (nat_cmp c.args.request.id) q) (Some x) (entry_at c.self.inside.slots q)) value c.in_ok-put.ensures.lookups)
    c.in_ok-open.ensures.room c.in_ok-open-2.ensures.room
    c.put-2.ensures.bits c.put-2.ensures.kept (λ n. cleared (is_raised c.open-2.new.self) c.args.request.id n (c.in_ok-open-2.ensures.same c.args.request.id ∙ none.1)) (λ n h. h) Registered refl
    ∙ ap (λ (es : Entries). insert_entry nat_cmp es c.args.request.id (record { request = c.args.request; stage = Registered }))
    (told-same c.self.inside.waits c.«open».new.self c.self.inside.polls c.open-2.new.self c.self.inside.slots c.in_ok-open.ensures.same c.in_ok-open-2.ensures.same ∙ c.self.view_is)
