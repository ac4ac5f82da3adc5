use Rattle.std.proofs.Common.{◌≡◌, ◌∙◌, List, ap, sym, subst}
use Rattle.vx_data.specs.Dtype.{Dtype}
use Rattle.vx_rows.specs.Rows.{Rows, column_view, dtype_of}
use Rattle.vx_rows.specs.Parts.{part, appended}
use Rattle.vx_write.specs.Cutting.{full_chunks}
use Rattle.vx_rows.proofs.ColumnLaws.{part_type}
use Rattle.vx_write.specs.Leaves.{LeafState, leaf_type, AllOfType}
use Rattle.vx_write.proofs.LeafLemmas.{full_typed}
use Rattle.vx_write.proofs.held_leaf.HeldLeaf.feed.Goals as goal

pub feed_held-requires-clause-typed : goal.feed_held-requires-clause-typed
feed_held-requires-clause-typed c = c.requires.typed ∙ sym (ap (λ (s : LeafState). leaf_type s.now) c.self.view_is) ∙ part_type 0 c.self.inside.count c.self.inside.rows

pub returns-clause-sound : goal.returns-clause-sound
returns-clause-sound c =
    let same : dtype_of (part 0 c.self.inside.count c.self.inside.rows) ≡ leaf_type c.args.self.now.now = ap (λ (s : LeafState). leaf_type s.now) c.self.view_is in
    subst (λ (xs : List Rows). AllOfType (leaf_type c.args.self.now.now) xs) (sym c.in_ok-fed.ensures.fed.chunks)
    (subst (λ (d : Dtype). AllOfType d (full_chunks c.self.inside.strategy (appended (part 0 c.self.inside.count c.self.inside.rows) (column_view c.args.column.now)))) same
    (full_typed c.self.inside.strategy (part 0 c.self.inside.count c.self.inside.rows) (column_view c.args.column.now) c.self.invariant.held.held.blocks c.self.invariant.held.held.sound c.requires.even
    (c.requires.typed ∙ sym same)))
