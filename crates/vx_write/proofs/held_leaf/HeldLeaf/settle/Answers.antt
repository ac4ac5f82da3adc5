use Rattle.std.proofs.Common.{◌∙◌, ap, sym}
use Rattle.vx_write.specs.Leaves.{LeafState}
use Rattle.vx_write.proofs.LeafLemmas.{settled_by, settled_leaf}
use Rattle.vx_write.proofs.held_leaf.HeldLeaf.settle.Goals as goal

pub invariant_of-self-in-Some : goal.invariant_of-self-in-Some
invariant_of-self-in-Some c =
    settled_by c.self.inside.strategy c.self.inside.rows c.replace.new.rows c.in-Some.pending c.self.inside.pending c.take.new.self c.len-self-inside.result c.plain_size-self-inside.result
    c.self.invariant.will_hold (sym c.take.ensures.value ∙ c.in-Some.is) c.replace.ensures c.len-self-inside.ensures.value c.plain_size-self-inside.ensures c.take.ensures.after

pub returns-in-Some : goal.returns-in-Some
returns-in-Some c =
    settled_leaf c.self.inside.strategy c.self.inside.rows c.replace.new.rows c.in-Some.pending c.self.inside.pending c.self.inside.count c.len-self-inside.result
    c.self.invariant.will_hold (sym c.take.ensures.value ∙ c.in-Some.is) c.replace.ensures c.len-self-inside.ensures.value
    ∙ ap (λ (s : LeafState). s.next) c.self.view_is
