use Rattle.std.proofs.Common.{◌∙◌, ap, sym, subst}
use Rattle.vx_rows.specs.Rows.{Rows, dtype_of}
use Rattle.vx_rows.proofs.ColumnLaws.{part_type}
use Rattle.vx_write.specs.Feeding.{StillThere}
use Rattle.vx_write.proofs.LeafLemmas.{held_still}
use Rattle.vx_write.proofs.held_leaf.feed_held.Goals as goal

pub feed_rows-requires-clause-typed : goal.feed_rows-requires-clause-typed
feed_rows-requires-clause-typed c = c.requires.typed ∙ sym (part_type 0 c.args.count c.args.rows.now) ∙ ap dtype_of (sym c.truncate.ensures)

pub returns-clause-held : goal.returns-clause-held
returns-clause-held c =
    let still = subst (λ (r : Rows). StillThere r c.feed_rows.new.held) c.truncate.ensures c.feed_rows.ensures.still in
    (held_still c.args.strategy c.args.rows.now c.feed_rows.new.held c.args.count c.args.gathered c.requires.held still).0
