use Rattle.std.proofs.Common.{◌+◌, arith, drop, subst}
use Rattle.vx_write.specs.Chunks.{chunks_view}
use Rattle.vx_write.specs.Sending.{Going}
use Rattle.vx_write.proofs.SendingLemmas.{leaf_next}
use Rattle.vx_write.proofs.TakenLemmas.{calm_step, calm_of}
use Rattle.vx_write.proofs.sending.write_chunks.Goals as goal

pub loop-at-preserved : goal.loop-at-preserved
loop-at-preserved g c =
    let state = g.S.Sink.state in
    let all = chunks_view c.args.chunks.now in
    let rest = chunks_view (drop (c.loop-at.at + 1) c.args.chunks.now) in
    let here = subst (λ xs. Going c.args.coding.now c.args.output.now all xs (state c.args.out.now).gained c.loop-at.output (state c.loop-at.out).gained)
    (leaf_next c.args.chunks.now c.loop-at.at c.index-chunks-at.result (omega arith) c.index-chunks-at.is) c.loop-at.invariant.going in
    record {
      going = c.in-Ok.ensures.going c.args.output.now all rest (state c.args.out.now).gained here;
      calm = calm_step (state c.args.out.now) (state c.loop-at.out) (state c.write_leaf.new.out) c.loop-at.invariant.calm (calm_of _ _ _ c.in-Ok.ensures.cause);
    }

pub returns-in-Err-clause-err : goal.returns-in-Err-clause-err
returns-in-Err-clause-err g c =
    let state = g.S.Sink.state in
    let all = chunks_view c.args.chunks.now in
    let rest = chunks_view (drop (c.loop-at.at + 1) c.args.chunks.now) in
    let here = subst (λ xs. Going c.args.coding.now c.args.output.now all xs (state c.args.out.now).gained c.loop-at.output (state c.loop-at.out).gained)
    (leaf_next c.args.chunks.now c.loop-at.at c.index-chunks-at.result (omega arith) c.index-chunks-at.is) c.loop-at.invariant.going in
    (c.in-Err.ensures.going c.args.output.now all rest (state c.args.out.now).gained here).0

pub returns-in-Err-clause-checked : goal.returns-in-Err-clause-checked
returns-in-Err-clause-checked g c =
    let state = g.S.Sink.state in
    let all = chunks_view c.args.chunks.now in
    let rest = chunks_view (drop (c.loop-at.at + 1) c.args.chunks.now) in
    let here = subst (λ xs. Going c.args.coding.now c.args.output.now all xs (state c.args.out.now).gained c.loop-at.output (state c.loop-at.out).gained)
    (leaf_next c.args.chunks.now c.loop-at.at c.index-chunks-at.result (omega arith) c.index-chunks-at.is) c.loop-at.invariant.going in
    (c.in-Err.ensures.going c.args.output.now all rest (state c.args.out.now).gained here).1
