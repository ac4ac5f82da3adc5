use Rattle.std.proofs.Common.{arith, ◌+◌, List, [], ◌∷◌, drop, subst, Option}
use Rattle.std.proofs.lemmas.List.{drop_all}
use Rattle.vx_data.specs.Dtype.{Dtype}
use Rattle.vx_rows.specs.Rows.{Rows, column_view}
use Rattle.vx_write.specs.Chunks.{columns_seen}
use Rattle.vx_write.specs.RowsWritten.{pushes, Pushing}
use Rattle.vx_write.proofs.RowsLemmas.{pushing_step, pushing_ends, column_next}
use Rattle.vx_write.proofs.TakenLemmas.{calm_step, calm_of}
use Rattle.vx_write.proofs.whole_file.push_all.Goals as goal

pub returns-in-Err-clause-err : goal.returns-in-Err-clause-err
returns-in-Err-clause-err g c o d start s =
    let state = g.S.Sink.state in
    let chunks = c.args.chunks.now in
    let all = columns_seen chunks in
    let chunk = c.index-chunks-at.result in
    let rest = columns_seen (drop (c.loop-at.at + 1) chunks) in
    let before = (state c.loop-at.out).gained in
    let p : Pushing o d all (column_view chunk ∷ rest) start c.loop-at.writer before =
    subst (λ xs. Pushing o d all xs start c.loop-at.writer before) (column_next chunks c.loop-at.at chunk (omega arith) c.index-chunks-at.is) (c.loop-at.invariant.pushing o d start s) in
    pushing_ends o d all rest (column_view chunk) start before (state c.push.new.out).gained c.loop-at.writer c.push.new.self c.in-Err.error p (c.in-Err.ensures.pushed o d (pushes [] p.front) start p.stands)

pub loop-at-preserved : goal.loop-at-preserved
loop-at-preserved g c =
    let state = g.S.Sink.state in
    record {
      sound = c.in-Ok.ensures.sound;
      pushing = λ o d start s.
          let chunks = c.args.chunks.now in
          let all = columns_seen chunks in
          let chunk = c.index-chunks-at.result in
          let rest = columns_seen (drop (c.loop-at.at + 1) chunks) in
          let before = (state c.loop-at.out).gained in
          let p : Pushing o d all (column_view chunk ∷ rest) start c.loop-at.writer before =
          subst (λ xs. Pushing o d all xs start c.loop-at.writer before) (column_next chunks c.loop-at.at chunk (omega arith) c.index-chunks-at.is) (c.loop-at.invariant.pushing o d start s) in
          pushing_step o d all rest (column_view chunk) start before (state c.push.new.out).gained c.loop-at.writer c.push.new.self tt p (c.in-Ok.ensures.pushed o d (pushes [] p.front) start p.stands);
      calm = calm_step (state c.args.out.now) (state c.loop-at.out) (state c.push.new.out) c.loop-at.invariant.calm (calm_of _ _ _ c.in-Ok.ensures.cause);
    }

pub returns-clause-ok : goal.returns-clause-ok
returns-clause-ok g c o d start s =
    let state = g.S.Sink.state in
    let chunks = c.args.chunks.now in
    subst (λ xs. Pushing o d (columns_seen chunks) (columns_seen xs) start c.loop-at.writer (state c.loop-at.out).gained) (drop_all c.loop-at.at chunks (omega arith)) (c.loop-at.invariant.pushing o d start s)
