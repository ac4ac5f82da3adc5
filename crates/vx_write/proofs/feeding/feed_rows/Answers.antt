use Rattle.std.proofs.Common.{◌≡◌, None, [], sym, subst}
use Rattle.vx_rows.specs.Rows.{column_view, rows_len}
use Rattle.vx_rows.specs.Parts.{part, appended}
use Rattle.vx_write.specs.declared.feeding.Fed.{Fed}
use Rattle.vx_write.specs.declared.strategy.LeafStrategy.{LeafStrategy}
use Rattle.vx_write.specs.Chunks.{chunks_seen}
use Rattle.vx_write.specs.Holding.{Holds}
use Rattle.vx_write.specs.Feeding.{Feeds}
use Rattle.vx_write.proofs.HoldingLemmas.{whole_feeds, ok_by_three}
use Rattle.vx_write.proofs.feeding.feed_rows.Goals as goal

pub returns-in-Whole-clause-fed : goal.returns-in-Whole-clause-fed
returns-in-Whole-clause-fed c =
    ok_by_three c.feed_on.result
    (λ (fed : Fed). c.feed_on.new.held ≡ appended c.args.held.now (part 0 (rows_len (column_view c.args.column.now)) (column_view c.args.column.now)))
    (λ (fed : Fed). fed.pending ≡ record { rows = None; gathered = 0 })
    (λ (fed : Fed). chunks_seen fed.chunks ≡ [])
    (Feeds c.args.strategy c.args.held.now (column_view c.args.column.now) c.feed_on.new.held)
    (λ fed f k n. subst (λ (s : LeafStrategy). Feeds s c.args.held.now (column_view c.args.column.now) c.feed_on.new.held fed) (sym c.in-Whole.is)
    (whole_feeds c.args.gathered c.args.held.now (column_view c.args.column.now) c.feed_on.new.held fed
    (subst (λ (s : LeafStrategy). Holds s c.args.held.now c.args.gathered) c.in-Whole.is c.requires.holds) c.requires.typed c.requires.even f n k))
    c.feed_on.ensures.held c.feed_on.ensures.fed c.feed_on.ensures.none
