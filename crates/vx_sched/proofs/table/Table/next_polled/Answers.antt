use Rattle.std.proofs.Common.{◌≡◌, ℕ, ◌<◌, ◌≤◌, true, ap, sym, ◌∙◌}
use Rattle.vx_sched.specs.Picks.{is_among}
use Rattle.vx_sched.specs.Reads.{Reads, polled_at}
use Rattle.vx_sched.proofs.SeenLemmas.{stands-kept, polled-seen}
use Rattle.vx_sched.proofs.TableLemmas.{polls-polled, polled-small, found-along, found-some}
use Rattle.vx_sched.proofs.table.Table.next_polled.Goals as goal

pub returns-in-Some-clause-polled : goal.returns-in-Some-clause-polled
returns-in-Some-clause-polled c =
    let stands = stands-kept c.self.inside.reads c.self.inside.places c.self.inside.longest c.self.invariant.kept in
    found-along (λ n. polled_at c.args.self.now n ≡ true) c.in-Some.id c.waiting.result c.waiting.ensures.keyed
    (sym (ap (λ (reads : Reads). polled_at reads c.in-Some.id) c.self.view_is) ∙ polled-seen c.self.inside.reads c.in-Some.id stands.keyed
    ∙ sym (polls-polled c.self.inside.reads c.in-Some.id) ∙ c.in-Some.ensures.polled)

pub returns-in-Some-clause-least : goal.returns-in-Some-clause-least
returns-in-Some-clause-least c =
    let stands = stands-kept c.self.inside.reads c.self.inside.places c.self.inside.longest c.self.invariant.kept in
    found-along (λ n. (q : ℕ) → c.args.from ≤ q → q < n → polled_at c.args.self.now q ≡ true → is_among c.args.taken.now q ≡ true) c.in-Some.id c.waiting.result c.waiting.ensures.keyed
    (λ q f l p. c.in-Some.ensures.least q f l (polls-polled c.self.inside.reads q
    ∙ sym (polled-seen c.self.inside.reads q stands.keyed) ∙ ap (λ (reads : Reads). polled_at reads q) c.self.view_is ∙ p))

pub returns-in-Some-clause-none : goal.returns-in-Some-clause-none
returns-in-Some-clause-none c =
    let stands = stands-kept c.self.inside.reads c.self.inside.places c.self.inside.longest c.self.invariant.kept in
    found-some _ c.args.self.now c.in-Some.id
    (sym (ap (λ (reads : Reads). polled_at reads c.in-Some.id) c.self.view_is) ∙ polled-seen c.self.inside.reads c.in-Some.id stands.keyed
    ∙ sym (polls-polled c.self.inside.reads c.in-Some.id) ∙ c.in-Some.ensures.polled)
    c.waiting.result c.waiting.ensures.value

pub returns-in-None-clause-none : goal.returns-in-None-clause-none
returns-in-None-clause-none c q f p =
    let stands = stands-kept c.self.inside.reads c.self.inside.places c.self.inside.longest c.self.invariant.kept in
    let entry = sym (polled-seen c.self.inside.reads q stands.keyed) ∙ ap (λ (reads : Reads). polled_at reads q) c.self.view_is ∙ p in
    c.in-None.ensures.none q f (polled-small c.self.inside.reads c.self.inside.places c.self.inside.longest c.self.invariant.kept q entry)
    (polls-polled c.self.inside.reads q ∙ entry)
