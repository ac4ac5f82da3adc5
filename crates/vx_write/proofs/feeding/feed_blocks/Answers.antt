use Rattle.std.proofs.Common.{◌≡◌, ◌-◌, ◌%◌, ◌<◌, None, [], ◌∙◌, ap, sym, arith}
use Rattle.vx_rows.specs.Rows.{column_view, rows_len}
use Rattle.vx_rows.specs.Parts.{part, appended}
use Rattle.vx_write.specs.declared.feeding.Fed.{Fed}
use Rattle.vx_write.specs.declared.strategy.LeafStrategy.TheVariants.{Blocks}
use Rattle.vx_write.specs.Chunks.{chunks_seen}
use Rattle.vx_write.specs.Feeding.{Feeds, FeedsFirst}
use Rattle.vx_write.proofs.HoldingLemmas.{first_feeds, short_feeds, ok_by, ok_by_three}
use Rattle.vx_write.proofs.feeding.feed_blocks.Goals as goal

pub returns-then-len-eq0-clause-fed : goal.returns-then-len-eq0-clause-fed
returns-then-len-eq0-clause-fed c =
    let none : rows_len c.args.held.now ≡ 0 = sym c.len.ensures.value ∙ c.if-len-eq0.true in
    ok_by c.feed_first.result
    (FeedsFirst c.args.rows c.args.target [] (column_view c.args.column.now))
    (Feeds (Blocks c.args.rows c.args.target) c.args.held.now (column_view c.args.column.now) c.args.held.now)
    (λ fed f. first_feeds c.args.rows c.args.target c.args.held.now (column_view c.args.column.now) c.args.held.now fed c.requires.holds.blocks none c.requires.typed c.requires.holds.sound c.requires.even f)
    c.feed_first.ensures

pub returns-then-len-rows-clause-fed : goal.returns-then-len-rows-clause-fed
returns-then-len-rows-clause-fed c =
    let column_long = c.len-2.ensures in
    let missing = ap (λ n. c.args.rows - n % c.args.rows) c.len-3.ensures.value in
    let shorter = c.if-len-rows.true in
    let less : rows_len (column_view c.args.column.now) < c.args.rows - rows_len c.args.held.now % c.args.rows = omega (arith, column_long, missing, shorter) in
    ok_by_three c.feed_on.result
    (λ (fed : Fed). c.feed_on.new.held ≡ appended c.args.held.now (part 0 (rows_len (column_view c.args.column.now)) (column_view c.args.column.now)))
    (λ (fed : Fed). fed.pending ≡ record { rows = None; gathered = c.args.gathered })
    (λ (fed : Fed). chunks_seen fed.chunks ≡ [])
    (Feeds (Blocks c.args.rows c.args.target) c.args.held.now (column_view c.args.column.now) c.feed_on.new.held)
    (λ fed f k n. short_feeds c.args.rows c.args.gathered c.args.target c.args.held.now (column_view c.args.column.now) c.feed_on.new.held fed
    c.requires.holds c.requires.typed c.requires.even less f n k)
    c.feed_on.ensures.held c.feed_on.ensures.fed c.feed_on.ensures.none
