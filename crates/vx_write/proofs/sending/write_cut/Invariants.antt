use Rattle.std.proofs.Common.{ℕ, List, Option, ◌++◌}
use Rattle.vx_write.specs.Leaves.{ChunkRows, chunks_at}
use Rattle.vx_write.specs.Placed.{Place, IsAlive}
use Rattle.vx_write.specs.Sending.{Going}
use Rattle.vx_write.proofs.SendingLemmas.{left_of}
use Rattle.vx_write.proofs.TakenLemmas.{IsCalm}
use Rattle.vx_write.proofs.sending.write_cut.Given as goal

-- the parts so far were written
abbrev pub invariant-loop-at : goal.invariant-loop-at
invariant-loop-at g l =
    let state = g.S.Sink.state in
    record {
      alive : IsAlive l.output;
      going : (p : Place) (all rest : List ChunkRows) (start : Option (List ℕ)) → Going l.coding p all (chunks_at l.leaf l.parts ++ rest) start l.fn.output (state l.fn.out).gained
          → Going l.coding p all (left_of l.leaf l.parts l.at rest) start l.output (state l.out).gained;
      calm : IsCalm (state l.fn.out) (state l.out);
    }
