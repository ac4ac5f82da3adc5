use Rattle.std.proofs.Common.{◌≤◌, arith, rules, length, subst, ◌+◌}
use Rattle.vx_rows.specs.Rows.{column_view}
use Rattle.vx_write.specs.Leaves.{chunk_at}
use Rattle.vx_write.specs.Sending.{Going}
use Rattle.vx_write.proofs.PlacedLemmas.{going_checks}
use Rattle.vx_write.proofs.SendingLemmas.{left_of, turned, chunk_failed, chunk_step, leaf_end, going_stopped}
use Rattle.vx_write.proofs.TakenLemmas.{calm_step, calm_of}
use Rattle.vx_write.proofs.sending.write_cut.Goals as goal

pub loop-at-preserved : goal.loop-at-preserved
loop-at-preserved g c =
    let state = g.S.Sink.state in
    let done = c.in-Ok-write_chunk.ensures in
    record {
      alive = done.ok.alive;
      going = λ p all rest start going.
          chunk_step c.args.coding.now p c.loop-at.output c.write_chunk.new.output all c.args.leaf c.args.parts.now c.loop-at.at (column_view c.in-Ok.rows) rest start
          (state c.loop-at.out).gained (state c.write_chunk.new.out).gained (omega arith) (c.in-Ok.ensures (column_view c.in-Ok.rows))
          (c.loop-at.invariant.going p all rest start going)
          done.ok done.checked;
      calm = calm_step (state c.args.out.now) (state c.loop-at.out) (state c.write_chunk.new.out) c.loop-at.invariant.calm (calm_of _ _ _ done.cause);
    }

pub returns-in-Err-clause-going : goal.returns-in-Err-clause-going
returns-in-Err-clause-going g c p all rest start going =
    going_stopped c.args.coding.now p c.loop-at.output all (left_of c.args.leaf c.args.parts.now c.loop-at.at rest) start (g.S.Sink.state c.loop-at.out).gained
    (c.loop-at.invariant.going p all rest start going)

pub returns-in-Err-write_chunk-clause-going : goal.returns-in-Err-write_chunk-clause-going
returns-in-Err-write_chunk-clause-going g c p all rest start going =
    let state = g.S.Sink.state in
    let row = column_view c.in-Ok.rows in
    let is = c.in-Ok.ensures row in
    let here = c.loop-at.invariant.going p all rest start going in (
      chunk_failed c.args.coding.now p c.loop-at.output c.write_chunk.new.output all c.args.leaf c.args.parts.now c.loop-at.at row rest start
          (state c.loop-at.out).gained (state c.write_chunk.new.out).gained (omega arith) is here c.in-Err-write_chunk.ensures.err,
      going_checks (Unit {0}) (Unit {0}) c.args.coding.now p c.loop-at.output all (left_of c.args.leaf c.args.parts.now (c.loop-at.at + 1) rest) (chunk_at c.args.leaf row)
          start (state c.loop-at.out).gained c.in-Err-write_chunk.error
          (turned c.args.coding.now p c.loop-at.output c.write_chunk.new.output all c.args.leaf c.args.parts.now c.loop-at.at row rest start
          (state c.loop-at.out).gained (state c.write_chunk.new.out).gained (omega arith) is here) c.in-Err-write_chunk.ensures.checked,
    )

pub returns-clause-going : goal.returns-clause-going
returns-clause-going g c p all rest start going =
    let state = g.S.Sink.state in
    let past : length c.args.parts.now ≤ c.loop-at.at = search rules in
    subst (λ xs. Going c.args.coding.now p all xs start c.loop-at.output (state c.loop-at.out).gained)
    (leaf_end c.args.leaf c.args.parts.now c.loop-at.at rest past) (c.loop-at.invariant.going p all rest start going)
