use Rattle.std.proofs.Common.{List, ℕ, [], drop, Option}
use Rattle.vx_data.specs.Dtype.{Dtype}
use Rattle.vx_write.specs.Chunks.{columns_seen}
use Rattle.vx_write.specs.Options.{Options}
use Rattle.vx_write.specs.Standing.{IsSound, Stands}
use Rattle.vx_write.specs.RowsWritten.{Pushing}
use Rattle.vx_write.proofs.TakenLemmas.{IsCalm}
use Rattle.vx_write.proofs.whole_file.push_all.Given as goal

-- the chunks so far were pushed
abbrev pub invariant-loop-at : goal.invariant-loop-at
invariant-loop-at g l =
    let state = g.S.Sink.state in
    record {
      sound : IsSound l.writer;
      pushing : (o : Options) (d : Dtype) (start : Option (List ℕ)) → Stands o d [] start l.fn.writer (state l.fn.out).gained
          → Pushing o d (columns_seen l.chunks) (columns_seen (drop l.at l.chunks)) start l.writer (state l.out).gained;
      calm : IsCalm (state l.fn.out) (state l.out);
    }
