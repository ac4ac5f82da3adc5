use Rattle.std.proofs.Common.{drop}
use Rattle.vx_write.specs.Chunks.{chunks_view}
use Rattle.vx_write.specs.Sending.{Going}
use Rattle.vx_write.proofs.TakenLemmas.{IsCalm}
use Rattle.vx_write.proofs.sending.write_chunks.Given as goal

-- the chunks so far were written
abbrev pub invariant-loop-at : goal.invariant-loop-at
invariant-loop-at g l =
    let state = g.S.Sink.state in
    record {
      going : Going l.coding l.fn.output (chunks_view l.chunks) (chunks_view (drop l.at l.chunks)) (state l.fn.out).gained l.output (state l.out).gained;
      calm : IsCalm (state l.fn.out) (state l.out);
    }
