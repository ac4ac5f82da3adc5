use Rattle.std.proofs.Common.{sym, ap, subst, arith, rules, length}
use Rattle.vx_footer.specs.PathTables.{HasParents}
use Rattle.vx_footer.proofs.PathTableSteps.{parents_push, places_long}
use Rattle.vx_footer.proofs.path_table.PathTable.add.Goals as goal

pub invariant_of-self-2 : goal.invariant_of-self-2
invariant_of-self-2 c =
    let ps = c.self.inside.places.items in
    subst HasParents (sym c.in_ok-push.ensures.items) (parents_push ps _ c.args.name.now c.self.invariant
    (omega (arith, ap length c.self.view_is, places_long c.self.inside.places.items, c.requires)) (search rules))
