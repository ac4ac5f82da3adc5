-- A file whose chunks came from a source.
use Rattle.std.proofs.Common.{◌≡◌, ℕ, List, [], ◌++◌, Option, Some, Result, Ok, Err, refl, sym, subst, inl, inr}
use Rattle.std.specs.Prelude.{IsOk}
use Rattle.std.proofs.lemmas.List.{append-nil}
use Rattle.vx_base.specs.Streams.{SinkState}
use Rattle.vx_base.proofs.TakingLemmas.{nothing-took}
use Rattle.vx_data.specs.Dtype.{Dtype}
use Rattle.vx_data.specs.DtypeWritten.{HasTexts}
use Rattle.vx_footer.specs.declared.write_error.WriteError.{WriteError}
use Rattle.vx_footer.specs.declared.write_error.WriteError.TheVariants.{ChunkFault}
use Rattle.vx_rows.specs.Rows.{Rows}
use Rattle.vx_write.specs.ChunkSources.{ChunkState}
use Rattle.vx_write.specs.OpensAgain.{AreTold}
use Rattle.vx_write.specs.Options.{Options}
use Rattle.vx_write.specs.RowsWritten.{pushes, Pushing}
use Rattle.vx_write.specs.Standing.{Stands, Finished}
use Rattle.vx_write.specs.Streamed.{Streams, StreamPushed, StreamCut}
use Rattle.vx_write.specs.Taken.{Checked}
use Rattle.vx_write.specs.Written.{begin_checks}
use Rattle.vx_write.specs.declared.file_writer.FileWriter.{FileWriter}
use Rattle.vx_write.specs.declared.streaming.StreamError.{StreamError}
use Rattle.vx_write.specs.declared.streaming.StreamError.TheVariants.{Chunks, Writer}
use Rattle.vx_write.specs.declared.summary.WriteSummary.{WriteSummary}
use Rattle.vx_write.proofs.ReadBackPushed.{ended_opens}
use Rattle.vx_write.proofs.RowsLemmas.{all-front, begin_refused, begun_answer, pushing_end, pushing_leaves}
use Rattle.vx_write.proofs.StreamLemmas.{came_none}

-- it was refused before the first chunk
pub streams_refused : (o : Options) (d : Dtype) (a : ChunkState) (now : SinkState) (e : WriteError) → Checked {A = Unit {0}} (Err e) (begin_checks o d) → Streams o d a a now now (Err e)
streams_refused o d a now e h = record {
  given = [];
  came = came_none a;
  whole = tt;
  leaves = record { front = []; rest = []; split = refl; took = inl (record { count = 0; took = nothing-took now.gained }) };
  answer = inl (begin_refused o d [] e h);
  opens = tt;
}

-- the source failed
failed : (o : Options) (d : Dtype) (a b : ChunkState) (w : FileWriter) (before now : SinkState) → Stands o d [] before.gained w before.gained
    → StreamCut a b w before.gained now.gained Chunks → Streams o d a b before now (Err ChunkFault)
failed o d a b w before now s x = record {
  given = x.given;
  came = x.came;
  whole = tt;
  leaves = record { front = x.given; rest = []; split = sym (append-nil x.given); took = inl (x.ends.1 o d before.gained s) };
  answer = inr (refl, x.ends.0);
  opens = tt;
}

pub streams_failed : (o : Options) (d : Dtype) (a b : ChunkState) (w : FileWriter) (before now : SinkState) (e : StreamError) → e ≡ Chunks → Stands o d [] before.gained w before.gained
    → StreamCut a b w before.gained now.gained e → Streams o d a b before now (Err ChunkFault)
streams_failed o d a b w before now e is s x = failed o d a b w before now s (subst (λ y. StreamCut a b w before.gained now.gained y) is x)

-- a chunk was refused, or memory ran out
cut : (o : Options) (d : Dtype) (a b : ChunkState) (w : FileWriter) (before now : SinkState) (e : WriteError) → IsOk (begin_checks o d) → Stands o d [] before.gained w before.gained
    → StreamCut a b w before.gained now.gained (Writer e) → Streams o d a b before now (Err e)
cut o d a b w before now e begun s x =
    let y = x.ends o d before.gained s in
    record {
      given = x.given;
      came = x.came;
      whole = tt;
      leaves = record { front = y.front; rest = y.rest; split = y.split; took = inl y.took };
      answer = inl (begun_answer o d x.given (Err e) begun y.answer);
      opens = tt;
    }

pub streams_cut : (o : Options) (d : Dtype) (a b : ChunkState) (w : FileWriter) (before now : SinkState) (e : StreamError) (error : WriteError) → e ≡ Writer error → IsOk (begin_checks o d)
    → Stands o d [] before.gained w before.gained → StreamCut a b w before.gained now.gained e → Streams o d a b before now (Err error)
streams_cut o d a b w before now e error is begun s x = cut o d a b w before now error begun s (subst (λ y. StreamCut a b w before.gained now.gained y) is x)

-- all chunks were pushed, and the end was written or refused
pub streams_finished : (o : Options) (d : Dtype) (a b : ChunkState) (w v : FileWriter) (before now : SinkState) (g : Option (List ℕ)) (r : Result WriteSummary WriteError) → AreTold o → HasTexts d
    → IsOk (begin_checks o d) → Stands o d [] before.gained w before.gained → StreamPushed a b w v before.gained g
    → ((past : List Rows) → Stands o d past before.gained v g → Finished o d past before.gained now r) → Streams o d a b before now r
streams_finished o d a b w v before now g (Ok summary) told texts begun s x end =
    let p = x.pushing o d before.gained s in
    let f = end (pushes [] p.front) p.stands in
    record {
      given = x.given;
      came = x.came;
      whole = x.whole;
      leaves = pushing_leaves o d x.given before now g v (Ok summary) p f;
      answer = inl (begun_answer o d x.given (Ok summary) begun (pushing_end o d x.given before.gained g now v (Ok summary) p f));
      opens = ended_opens o d p.front x.given before.gained now summary told texts (all-front o d x.given before.gained g v p) p.accepted f;
    }
streams_finished o d a b w v before now g (Err e) told texts begun s x end =
    let p = x.pushing o d before.gained s in
    let f = end (pushes [] p.front) p.stands in
    record {
      given = x.given;
      came = x.came;
      whole = tt;
      leaves = pushing_leaves o d x.given before now g v (Err e) p f;
      answer = inl (begun_answer o d x.given (Err e) begun (pushing_end o d x.given before.gained g now v (Err e) p f));
      opens = tt;
    }
