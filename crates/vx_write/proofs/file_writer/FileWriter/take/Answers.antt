use Rattle.std.proofs.Common.{◌≡◌, ◌∙◌, ◌+◌, ap, sym, subst, refl}
use Rattle.vx_rows.specs.Rows.{column_view}
use Rattle.vx_write.specs.Chunks.{chunks_view}
use Rattle.vx_write.specs.Gathered.{gathered, counted_columns}
use Rattle.vx_write.specs.Leaves.{leaf_types}
use Rattle.vx_write.specs.Placed.{Wrote}
use Rattle.vx_write.specs.Sending.{encoded_chunks, chunks_checks}
use Rattle.vx_write.specs.Standing.{chunks_for}
use Rattle.vx_write.proofs.GatheredLemmas.{gathered_both}
use Rattle.vx_write.proofs.StandingLemmas.{chunk_pairs}
use Rattle.vx_write.proofs.file_writer.FileWriter.take.Goals as goal

pub returns-in-Err-clause-answers : goal.returns-in-Err-clause-answers
returns-in-Err-clause-answers g c =
    let w = c.args.self.now in
    c.in-Err.ensures.err (chunks_checks w.coding w.output (chunks_for w (column_view c.args.chunk.now)))

pub merge-requires : goal.merge-requires
merge-requires g c =
    let w = c.args.self.now in
    let s = c.requires.sound.stats in
    let chunk = c.in-Ok.ensures.ok in
    let column = column_view c.args.chunk.now in
    let pairs = chunk_pairs s.seen column w.rows (s.typed ∙ sym chunk.typed) s.even chunk.even c.in-Ok.ensures.few in
    (w.options.statistics, counted_columns s.seen, counted_columns column, pairs, s.is, c.in-Ok-prepare.ensures.stats ∙ ap (λ x. gathered x column) c.statistics-wanted.ensures)

pub returns-clause-ok : goal.returns-clause-ok
returns-clause-ok g c =
    let state = g.S.Sink.state in
    let w = c.args.self.now in
    let chunk = c.in-Ok.ensures.ok in
    let column = column_view c.args.chunk.now in
    let made = c.in-Ok-prepare.ensures in
    let chunks : chunks_view c.deref.result.now ≡ chunks_for w column = ap chunks_view c.deref.ensures.value ∙ made.chunks in
    let more = made.stats ∙ ap (λ x. gathered x column) c.statistics-wanted.ensures in
    record {
      keeps = record { options = refl; dtype = refl; plan = refl; coding = refl; failed = refl };
      chunk = chunk;
      leaves = c.settle.ensures ∙ made.next;
      types = ap leaf_types c.settle.ensures ∙ made.types;
      columns = made.columns;
      even = made.even;
      wrote = subst (λ cs. Wrote w.output (encoded_chunks w.coding cs) (state c.args.out.now).gained c.write_chunks.new.output (state c.write_chunks.new.out).gained) chunks c.in-Ok-write_chunks.ensures.ok;
      stats = λ seen is typed even.
          let same = typed ∙ sym chunk.typed in
          let pairs = chunk_pairs seen column w.rows same even chunk.even c.in-Ok.ensures.few in
          c.merge.ensures w.options.statistics (counted_columns seen) (counted_columns column) pairs is more ∙ gathered_both w.options.statistics seen column same;
      rows = ap (λ n. w.rows + n) c.len.ensures;
    }
