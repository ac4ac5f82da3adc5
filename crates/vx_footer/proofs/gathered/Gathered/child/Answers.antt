use Rattle.std.proofs.Common.{rules, length}
use Rattle.vx_footer.proofs.GatherSteps.{known_kept, kept_long, meets_child}
use Rattle.vx_footer.proofs.gathered.Gathered.child.Goals as goal

pub invariant_of-self : goal.invariant_of-self
invariant_of-self c =
    let old = c.self.inside.table in let new = c.child.new.self in
    known_kept c.self.inside.numbers.items (length old) (length new) (kept_long old new c.child.ensures.kept) c.self.invariant

pub invariant_of-self-2 : goal.invariant_of-self-2
invariant_of-self-2 c =
    let old = c.self.inside.table in let new = c.child.new.self in
    known_kept c.self.inside.numbers.items (length old) (length new) (kept_long old new c.child.ensures.kept) c.self.invariant

pub returns : goal.returns
returns c = record {
  inside = (search rules);
  path = (search rules);
  meets = meets_child c.args.self.now _ c.self.inside.numbers.items _ (search rules) (search rules) (search rules) (search rules) (search rules) (search rules) (search rules);
}
