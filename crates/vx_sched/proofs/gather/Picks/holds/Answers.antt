use Rattle.std.proofs.Common.{ap, sym, ◌∙◌}
use Rattle.std.specs.Prelude.{is_some}
use Rattle.std.specs.Map.{lookup}
use Rattle.std.specs.BTreeMap.{is_at}
use Rattle.vx_sched.specs.Picks.{entries_of, reads_of}
use Rattle.vx_sched.specs.Places.{place_cmp}
use Rattle.vx_sched.proofs.LaterLemmas.{found-ahead, past-none, past-last, apart-order}
use Rattle.vx_sched.proofs.gather.Picks.holds.Goals as goal

pub returns-then-comes_before-clause-holds : goal.returns-then-comes_before-clause-holds
returns-then-comes_before-clause-holds c =
    sym (past-none c.args.read.now (entries_of c.args.self.now) c.requires.placed
    (past-last c.args.self.now.last c.args.read.now (reads_of c.args.self.now) c.requires.last (sym c.comes_before.ensures ∙ c.if-comes_before.true)))

pub returns-clause-holds : goal.returns-clause-holds
returns-clause-holds c =
    let same = c.in_ok-make_way.ensures.same.entries in
    let new = c.make_way.new.self in
    c.contains_key.ensures
    ∙ sym (found-ahead c.args.read.now new.reads.entries new.later.items
    (apart-order new.reads.entries (entries_of c.args.self.now) new.later.items same c.requires.order) c.in_ok-make_way.ensures.ahead)
    ∙ ap (λ es. is_some (lookup (is_at (place_cmp (c.args.read.now.offset, c.args.read.now.id))) es)) same
