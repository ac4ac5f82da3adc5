use Rattle.std.proofs.Common.{◌≡◌, ◌+◌, ◌-◌, ◌/◌, ℕ, true, false, sym, ◌∙◌, ap, arith}
use Rattle.std.specs.Prelude.{nat_le}
use Rattle.vx_rows.specs.Rows.{column_view}
use Rattle.vx_rows.specs.Parts.{part, plain_size}
use Rattle.vx_write.specs.Gathering.{gathered_from}
use Rattle.vx_write.proofs.GatherLemmas.{full_anyhow, full_turn, open_turn, place_turn, last_turn}
use Rattle.vx_write.proofs.gathering.gather.Goals as goal

pub returns-then-target-gathered-clause-value : goal.returns-then-target-gathered-clause-value
returns-then-target-gathered-clause-value c =
    let full = full_anyhow c.args.rows c.args.target (column_view c.args.column.now) c.loop-block.gathered c.loop-block.at c.if-target-gathered.true in
    full_turn c.args.rows c.args.target (column_view c.args.column.now) c.loop-block.gathered c.loop-block.at c.loop-block.block ((c.len.result - c.args.from) / c.args.rows) _
    c.loop-block-test.true full c.loop-block.invariant.same
    ∙ ap (λ (n : ℕ). gathered_from c.args.rows c.args.target (column_view c.args.column.now) c.args.before c.args.from ((n - c.args.from) / c.args.rows)) c.len.ensures

pub returns-then-is_full-clause-value : goal.returns-then-is_full-clause-value
returns-then-is_full-clause-value c =
    let size = plain_size (part c.loop-block.at (c.loop-block.at + c.args.rows) (column_view c.args.column.now)) in
    let full : nat_le c.args.target (c.loop-block.gathered + size) ≡ true = sym (c.is_full.ensures.full size c.in_ok-size.ensures) ∙ c.if-is_full.true in
    full_turn c.args.rows c.args.target (column_view c.args.column.now) c.loop-block.gathered c.loop-block.at c.loop-block.block ((c.len.result - c.args.from) / c.args.rows) _
    c.loop-block-test.true full c.loop-block.invariant.same
    ∙ ap (λ (n : ℕ). gathered_from c.args.rows c.args.target (column_view c.args.column.now) c.args.before c.args.from ((n - c.args.from) / c.args.rows)) c.len.ensures

pub loop-block-preserved : goal.loop-block-preserved
loop-block-preserved c =
    let size = plain_size (part c.loop-block.at (c.loop-block.at + c.args.rows) (column_view c.args.column.now)) in
    let less : nat_le c.args.target (c.loop-block.gathered + size) ≡ false = sym (c.is_full.ensures.full size c.in_ok-size.ensures) ∙ c.if-is_full.false in
    let further = c.loop-block.invariant.further in record {
      places = place_turn c.args.rows c.loop-block.at c.loop-block.block ((c.len.result - c.args.from) / c.args.rows) _ c.loop-block-test.true c.loop-block.invariant.places;
      further = omega (arith, further);
      same = open_turn c.args.rows c.args.target (column_view c.args.column.now) c.loop-block.gathered c.loop-block.at c.loop-block.block ((c.len.result - c.args.from) / c.args.rows) c.in_ok-size.size _
          c.loop-block-test.true less (c.is_full.ensures.exact size c.in_ok-size.ensures c.if-is_full.false) c.loop-block.invariant.same;
    }

pub returns-clause-value : goal.returns-clause-value
returns-clause-value c =
    last_turn c.args.rows c.args.target (column_view c.args.column.now) c.loop-block.gathered c.loop-block.at c.loop-block.block ((c.len.result - c.args.from) / c.args.rows) _
    c.loop-block-test.false c.loop-block.invariant.same
    ∙ ap (λ (n : ℕ). gathered_from c.args.rows c.args.target (column_view c.args.column.now) c.args.before c.args.from ((n - c.args.from) / c.args.rows)) c.len.ensures
