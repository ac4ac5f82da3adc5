use Rattle.std.proofs.Common.{◌≡◌, subst, sym, ◌-◌, length, Option, List, Bool, IfSome}
use Rattle.vx_rows.proofs.CutLemmas.{structs_seen, present_long}
use Rattle.vx_rows.proofs.struct_rows.StructRows.part.Goals as goal

pub new-requires : goal.new-requires
new-requires c =
    let s = c.self.inside in
    let inside = structs_seen s.may_be_null s.bits s.count c.args.to c.args.self.now c.self.view_is c.requires.inside in
    subst (λ (bits : Option (List Bool)). IfSome bits (λ b. length b ≡ c.args.to - c.args.from)) (sym c.in_ok-bits.ensures)
    (present_long s.bits s.count c.args.from c.args.to c.requires.ordered inside c.self.invariant)
