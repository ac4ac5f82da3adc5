use Rattle.std.proofs.Common.{◌≡◌, ◌∙◌, List, ap, sym}
use Rattle.vx_write.specs.Leaves.{Leaf, LeafStates, nows, grown, leaf_types}
use Rattle.vx_write.specs.Chunks.{columns_seen}
use Rattle.vx_write.proofs.LeavesLemmas.{push_typed}
use Rattle.vx_write.proofs.held_leaves.HeldLeaves.feed.Goals as goal

pub returns-clause-typed : goal.returns-clause-typed
returns-clause-typed c =
    let now : nows c.self.inside.leaves.items ≡ c.args.self.now.now = ap (λ (s : LeafStates). s.now) c.self.view_is in
    push_typed c.args.self.now.now (columns_seen c.args.columns.now) _ (ap leaf_types (sym (c.in_ok-chunks.ensures.next ∙ ap (λ (ls : List Leaf). grown ls (columns_seen c.args.columns.now)) now))) c.requires.typed
