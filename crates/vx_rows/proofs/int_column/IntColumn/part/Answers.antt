use Rattle.std.proofs.Common.{◌≡◌, subst, sym, arith, ◌-◌, length, Option, List, Bool, IfSome}
use Rattle.vx_rows.proofs.CutLemmas.{ints_seen, place_upto, present_long}
use Rattle.vx_rows.proofs.int_column.IntColumn.part.Goals as goal

pub place_of-place-requires : goal.place_of-place-requires
place_of-place-requires c =
    let s = c.self.inside in
    let inside = ints_seen s.kind s.may_be_null s.present s.held.bytes s.at s.count c.args.to c.args.self.now c.self.view_is c.requires.inside in
    let place = place_upto s.kind s.at c.args.from s.count (length s.held.bytes) (omega (arith, inside, c.requires.ordered)) c.self.invariant.0 in
    omega (arith, place, c.len.ensures.value, c.len.ensures.bound)

pub new-requires-clause-present : goal.new-requires-clause-present
new-requires-clause-present c =
    let s = c.self.inside in
    let inside = ints_seen s.kind s.may_be_null s.present s.held.bytes s.at s.count c.args.to c.args.self.now c.self.view_is c.requires.inside in
    subst (λ (bits : Option (List Bool)). IfSome bits (λ b. length b ≡ c.args.to - c.args.from)) (sym c.in_ok-present.ensures)
    (present_long s.present s.count c.args.from c.args.to c.requires.ordered inside c.self.invariant.1)
