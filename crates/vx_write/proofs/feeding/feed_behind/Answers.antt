use Rattle.std.proofs.Common.{◌≡◌, ◌-◌, ◌%◌, ◌^◌, ◌≤◌, min, None, [], ◌∷◌, ◌∙◌, ap, subst, arith}
use Rattle.vx_rows.specs.Rows.{column_view, rows_len}
use Rattle.vx_rows.specs.Parts.{part, appended, plain_size}
use Rattle.vx_write.specs.declared.feeding.Fed.{Fed}
use Rattle.vx_write.specs.declared.strategy.LeafStrategy.TheVariants.{Blocks}
use Rattle.vx_write.specs.Chunks.{chunks_seen}
use Rattle.vx_write.specs.Feeding.{Feeds, FeedsFirst}
use Rattle.vx_write.proofs.HoldingLemmas.{Found, found_is, full_feeds, on_feeds, ok_by, ok_by_three}
use Rattle.vx_write.proofs.StillLemmas.{still_more, still_twice}
use Rattle.vx_write.proofs.feeding.feed_behind.Goals as goal

pub feed_full-requires-clause-ordered : goal.feed_full-requires-clause-ordered
feed_full-requires-clause-ordered c =
    let missing = ap (λ n. c.args.rows - n % c.args.rows) c.len.ensures.value in
    let come = c.requires.enough in
    let enough : c.args.rows - c.len.result % c.args.rows ≤ rows_len (column_view c.args.column.now) = omega (arith, missing, come) in
    let size = c.plain_size_from-size.ensures ∙ ap (λ n. min (plain_size (part (n - c.args.rows) (rows_len c.append.new.self) c.append.new.self)) (2 ^ 64 - 1)) c.len-2.ensures.value in
    let found = found_is c.args.rows c.args.gathered (c.args.rows - c.len.result % c.args.rows) c.unwrap_or.result c.args.target c.args.held.now (column_view c.args.column.now) c.append.new.self c.in_ok-end.field-0
    c.requires.holds c.requires.typed c.requires.even missing enough c.in_ok-append.ensures.ok c.unwrap_or.ensures
    (c.in_ok-end.ensures.value (plain_size (part (rows_len c.append.new.self - c.args.rows) (rows_len c.append.new.self) c.append.new.self)) size) in
    let is = subst (Found c.args.rows c.args.target c.args.held.now (column_view c.args.column.now) (c.args.rows - c.len.result % c.args.rows)) c.in-Full.is found in
    is.0

pub feed_full-requires-clause-inside : goal.feed_full-requires-clause-inside
feed_full-requires-clause-inside c =
    let missing = ap (λ n. c.args.rows - n % c.args.rows) c.len.ensures.value in
    let come = c.requires.enough in
    let enough : c.args.rows - c.len.result % c.args.rows ≤ rows_len (column_view c.args.column.now) = omega (arith, missing, come) in
    let size = c.plain_size_from-size.ensures ∙ ap (λ n. min (plain_size (part (n - c.args.rows) (rows_len c.append.new.self) c.append.new.self)) (2 ^ 64 - 1)) c.len-2.ensures.value in
    let found = found_is c.args.rows c.args.gathered (c.args.rows - c.len.result % c.args.rows) c.unwrap_or.result c.args.target c.args.held.now (column_view c.args.column.now) c.append.new.self c.in_ok-end.field-0
    c.requires.holds c.requires.typed c.requires.even missing enough c.in_ok-append.ensures.ok c.unwrap_or.ensures
    (c.in_ok-end.ensures.value (plain_size (part (rows_len c.append.new.self - c.args.rows) (rows_len c.append.new.self) c.append.new.self)) size) in
    let is = subst (Found c.args.rows c.args.target c.args.held.now (column_view c.args.column.now) (c.args.rows - c.len.result % c.args.rows)) c.in-Full.is found in
    is.1

pub returns-in-Full-clause-fed : goal.returns-in-Full-clause-fed
returns-in-Full-clause-fed c =
    let missing = ap (λ n. c.args.rows - n % c.args.rows) c.len.ensures.value in
    let come = c.requires.enough in
    let enough : c.args.rows - c.len.result % c.args.rows ≤ rows_len (column_view c.args.column.now) = omega (arith, missing, come) in
    let size = c.plain_size_from-size.ensures ∙ ap (λ n. min (plain_size (part (n - c.args.rows) (rows_len c.append.new.self) c.append.new.self)) (2 ^ 64 - 1)) c.len-2.ensures.value in
    let found = found_is c.args.rows c.args.gathered (c.args.rows - c.len.result % c.args.rows) c.unwrap_or.result c.args.target c.args.held.now (column_view c.args.column.now) c.append.new.self c.in_ok-end.field-0
    c.requires.holds c.requires.typed c.requires.even missing enough c.in_ok-append.ensures.ok c.unwrap_or.ensures
    (c.in_ok-end.ensures.value (plain_size (part (rows_len c.append.new.self - c.args.rows) (rows_len c.append.new.self) c.append.new.self)) size) in
    let is = subst (Found c.args.rows c.args.target c.args.held.now (column_view c.args.column.now) (c.args.rows - c.len.result % c.args.rows)) c.in-Full.is found in
    ok_by c.feed_full.result
    (FeedsFirst c.args.rows c.args.target (appended c.append.new.self (part (c.args.rows - c.len.result % c.args.rows) c.in-Full.end (column_view c.args.column.now)) ∷ [])
    (part c.in-Full.end (rows_len (column_view c.args.column.now)) (column_view c.args.column.now)))
    (Feeds (Blocks c.args.rows c.args.target) c.args.held.now (column_view c.args.column.now) c.feed_full.new.held)
    (λ fed f. full_feeds c.args.rows c.args.gathered (c.args.rows - c.len.result % c.args.rows) c.in-Full.end c.args.target c.args.held.now (column_view c.args.column.now) c.append.new.self c.feed_full.new.held fed
    c.requires.holds c.requires.typed c.requires.even is.0 is.1 c.in_ok-append.ensures.ok is.2 f)
    c.feed_full.ensures.fed

pub returns-in-Full-clause-still : goal.returns-in-Full-clause-still
returns-in-Full-clause-still c =
    still_twice c.args.held.now c.append.new.self c.feed_full.new.held
    (still_more c.args.held.now (part 0 (c.args.rows - c.len.result % c.args.rows) (column_view c.args.column.now)) c.append.new.self c.requires.holds.sound c.in_ok-append.ensures.ok) c.feed_full.ensures.still

pub returns-in-Open-clause-fed : goal.returns-in-Open-clause-fed
returns-in-Open-clause-fed c =
    let missing = ap (λ n. c.args.rows - n % c.args.rows) c.len.ensures.value in
    let come = c.requires.enough in
    let enough : c.args.rows - c.len.result % c.args.rows ≤ rows_len (column_view c.args.column.now) = omega (arith, missing, come) in
    let size = c.plain_size_from-size.ensures ∙ ap (λ n. min (plain_size (part (n - c.args.rows) (rows_len c.append.new.self) c.append.new.self)) (2 ^ 64 - 1)) c.len-2.ensures.value in
    let found = found_is c.args.rows c.args.gathered (c.args.rows - c.len.result % c.args.rows) c.unwrap_or.result c.args.target c.args.held.now (column_view c.args.column.now) c.append.new.self c.in_ok-end.field-0
    c.requires.holds c.requires.typed c.requires.even missing enough c.in_ok-append.ensures.ok c.unwrap_or.ensures
    (c.in_ok-end.ensures.value (plain_size (part (rows_len c.append.new.self - c.args.rows) (rows_len c.append.new.self) c.append.new.self)) size) in
    let is = subst (Found c.args.rows c.args.target c.args.held.now (column_view c.args.column.now) (c.args.rows - c.len.result % c.args.rows)) c.in-Open.is found in
    ok_by_three c.feed_on.result
    (λ (fed : Fed). c.feed_on.new.held
    ≡ appended c.append.new.self (part (c.args.rows - c.len.result % c.args.rows) (rows_len (column_view c.args.column.now)) (column_view c.args.column.now)))
    (λ (fed : Fed). fed.pending ≡ record { rows = None; gathered = c.in-Open.sum })
    (λ (fed : Fed). chunks_seen fed.chunks ≡ [])
    (Feeds (Blocks c.args.rows c.args.target) c.args.held.now (column_view c.args.column.now) c.feed_on.new.held)
    (λ fed f k n. on_feeds c.args.rows c.args.gathered c.in-Open.sum (c.args.rows - c.len.result % c.args.rows) c.args.target c.args.held.now (column_view c.args.column.now) c.append.new.self c.feed_on.new.held fed
    c.requires.holds c.requires.typed c.requires.even enough c.in_ok-append.ensures.ok f is n k)
    c.feed_on.ensures.held c.feed_on.ensures.fed c.feed_on.ensures.none

pub returns-in-Open-clause-still : goal.returns-in-Open-clause-still
returns-in-Open-clause-still c =
    still_twice c.args.held.now c.append.new.self c.feed_on.new.held
    (still_more c.args.held.now (part 0 (c.args.rows - c.len.result % c.args.rows) (column_view c.args.column.now)) c.append.new.self c.requires.holds.sound c.in_ok-append.ensures.ok) c.feed_on.ensures.still
