use Rattle.std.proofs.Common.{◌≡◌, ℕ, ◌≤◌, ◌<◌, ◌^◌, max, None, sym, subst, arith, rules}
use Rattle.vx_sched.specs.Entries.{Entries, seen}
use Rattle.vx_sched.specs.Kept.{IsKept}
use Rattle.vx_sched.specs.Places.{AreGrouped}
use Rattle.vx_sched.specs.Reads.{read_at}
use Rattle.vx_sched.proofs.EntriesLemmas.{sorted-put}
use Rattle.vx_sched.proofs.TableLemmas.{added-table, added-lookups}
use Rattle.vx_sched.proofs.SeenLemmas.{stands-kept, none-seen, new-view, new-grouped}
use Rattle.vx_sched.specs.declared.read.Stage.TheVariants.{Registered}
use Rattle.vx_sched.proofs.table.Table.register.Goals as goal

pub invariant_of-self : goal.invariant_of-self
invariant_of-self c =
    record {
      kept = subst (λ (es : Entries). IsKept es c.add.new.places c.self.inside.longest) (sym c.in_err-add.ensures.kept)
          (c.add.ensures.places c.self.inside.longest c.self.invariant.kept);
      grouped = subst AreGrouped (sym c.in_err-add.ensures.kept) c.self.invariant.grouped;
    }

pub invariant_of-self-2 : goal.invariant_of-self-2
invariant_of-self-2 c =
    let stands = stands-kept c.self.inside.reads c.self.inside.places c.self.inside.longest c.self.invariant.kept in
    let above : (q : ℕ) → c.args.request.id ≤ q → read_at (seen c.self.inside.reads) q ≡ None = rw c.self.view_is c.requires.fresh in
    let none = none-seen c.self.inside.reads c.args.request.id stands.keyed (above c.args.request.id (omega arith)) in
    let number : c.args.request.id < 2 ^ 64 = search rules in
    let kept = added-table c.self.inside.reads c.add.new.reads c.add.new.places c.self.inside.longest c.args.request
    (c.add.ensures.places c.self.inside.longest c.self.invariant.kept)
    (rw c.in_ok-add.ensures.entries (sorted-put c.args.request.id (record { request = c.args.request; stage = Registered }) c.self.inside.reads stands.sorted))
    none number c.requires.fits (added-lookups c.self.inside.reads c.add.new.reads c.args.request c.in_ok-add.ensures.entries)
    c.in_ok-add.ensures.place (c.add.ensures.apart c.self.inside.longest c.self.invariant.kept) in
    let new = stands-kept c.add.new.reads c.add.new.places (max c.self.inside.longest c.args.request.length) kept in
    record {
      kept = rw c.max-longest.ensures kept;
      grouped = new-grouped c.self.inside.reads c.add.new.reads c.args.request stands new above c.in_ok-add.ensures.entries c.self.invariant.grouped;
    }

pub returns-clause-registered : goal.returns-clause-registered
returns-clause-registered c =
    let stands = stands-kept c.self.inside.reads c.self.inside.places c.self.inside.longest c.self.invariant.kept in
    let above : (q : ℕ) → c.args.request.id ≤ q → read_at (seen c.self.inside.reads) q ≡ None = rw c.self.view_is c.requires.fresh in
    let none = none-seen c.self.inside.reads c.args.request.id stands.keyed (above c.args.request.id (omega arith)) in
    let number : c.args.request.id < 2 ^ 64 = search rules in
    let kept = added-table c.self.inside.reads c.add.new.reads c.add.new.places c.self.inside.longest c.args.request
    (c.add.ensures.places c.self.inside.longest c.self.invariant.kept)
    (rw c.in_ok-add.ensures.entries (sorted-put c.args.request.id (record { request = c.args.request; stage = Registered }) c.self.inside.reads stands.sorted))
    none number c.requires.fits (added-lookups c.self.inside.reads c.add.new.reads c.args.request c.in_ok-add.ensures.entries)
    c.in_ok-add.ensures.place (c.add.ensures.apart c.self.inside.longest c.self.invariant.kept) in
    let new = stands-kept c.add.new.reads c.add.new.places (max c.self.inside.longest c.args.request.length) kept in
    rw (← c.self.view_is) (new-view c.self.inside.reads c.add.new.reads c.args.request stands new above c.in_ok-add.ensures.entries)

pub add-requires : goal.add-requires
add-requires c =
    let stands = stands-kept c.self.inside.reads c.self.inside.places c.self.inside.longest c.self.invariant.kept in
    let above : (q : ℕ) → c.args.request.id ≤ q → read_at (seen c.self.inside.reads) q ≡ None = rw c.self.view_is c.requires.fresh in
    none-seen c.self.inside.reads c.args.request.id stands.keyed (above c.args.request.id (omega arith))
