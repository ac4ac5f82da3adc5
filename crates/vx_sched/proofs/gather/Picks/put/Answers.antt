use Rattle.std.proofs.Common.{◌++◌, map, ap, sym, ◌∙◌}
use Rattle.std.specs.BTreeMap.{insert_entry}
use Rattle.vx_sched.specs.Picks.{at_place, reads_of}
use Rattle.vx_sched.specs.Places.{place_cmp}
use Rattle.vx_sched.proofs.LaterLemmas.{push-behind, insert-ahead, past-last}
use Rattle.vx_sched.proofs.gather.Picks.put.Goals as goal

pub returns-then-comes_before-clause-reads : goal.returns-then-comes_before-clause-reads
returns-then-comes_before-clause-reads c =
    ap (λ items. c.args.self.now.reads.entries ++ map at_place items) c.in_ok-push.ensures.items
    ∙ push-behind c.args.self.now.reads.entries c.args.self.now.later.items c.args.read c.requires.placed
    (past-last c.args.self.now.last c.args.read (reads_of c.args.self.now) c.requires.last (sym c.comes_before.ensures ∙ c.if-comes_before.true))

pub returns-clause-reads : goal.returns-clause-reads
returns-clause-reads c =
    let new = c.make_way.new.self in
    ap (λ es. es ++ map at_place new.later.items) c.in_ok-insert.ensures.entries
    ∙ sym (insert-ahead c.args.read new.reads.entries new.later.items c.in_ok-make_way.ensures.ahead)
    ∙ ap (λ es. insert_entry place_cmp es (c.args.read.offset, c.args.read.id) c.args.read) c.in_ok-make_way.ensures.same.entries
