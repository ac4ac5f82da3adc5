-- A writer that a file is pushed to chunk by chunk: what it stands for, and what its calls leave.
use Rattle.std.specs.Prelude.{◌≡◌, ◌⊎◌, ℕ, ◌<◌, List, [], ◌∷◌, ◌++◌, Option, Some, Result, Ok, Err, OnOk, OnErr, IfErr}
use Rattle.vx_base.specs.Streams.{SinkState}
use Rattle.vx_data.specs.Dtype.{Dtype}
use Rattle.vx_data.specs.DtypeWritten.{HasTexts}
use Rattle.vx_footer.specs.ReadAgain.{content_read}
use Rattle.vx_footer.specs.declared.write_error.WriteError.{WriteError}
use Rattle.vx_footer.specs.declared.write_error.WriteError.TheVariants.{ChunkFault, OutOfMemory}
use Rattle.vx_rows.specs.Rows.{Rows}
use Rattle.vx_write.specs.declared.file_writer.FileWriter.{FileWriter}
use Rattle.vx_write.specs.declared.summary.WriteSummary.{WriteSummary}
use Rattle.vx_write.specs.ChunkSources.{ChunkState, Came}
use Rattle.vx_write.specs.OpensAgain.{AreTold, Accepted, OpensAgain}
use Rattle.vx_write.specs.Options.{Options}
use Rattle.vx_write.specs.RowsWritten.{pushes}
use Rattle.vx_write.specs.Standing.{Stands, Broken, PushAnswers, Ended, NotEnded}
use Rattle.vx_write.specs.Streamed.{SourceFailed}
use Rattle.vx_write.specs.Written.{count_after, push_checks}

-- A writer took chunks of rows of a type, newest first, and refused none of them. Its sink gained the chunks of leaves that they
-- filled, behind the magic, since the writer was made, when the sink had gained `start`.
pub record HasPushed (o : Options) (d : Dtype) (past : List Rows) (start : Option (List ℕ)) (w : FileWriter) (gained : Option (List ℕ)) : Type 0 where
  pub stands : Stands o d past start w gained
  pub accepted : Accepted o d past
  pub told : AreTold o
  pub texts : HasTexts d

-- A refused push leaves all as it was, where the sink took no byte of the writer. Else the sink holds a part of what the chunks
-- fill, which is a part of the file, and the writer is broken.
pub record Refuses (o : Options) (d : Dtype) (push : Rows) (past : List Rows) (start : Option (List ℕ)) (w : FileWriter)
    (gained : Option (List ℕ)) : Type 0 where
  pub untouched : w.output.taken ≡ 0 → HasPushed o d past start w gained
  pub begun : 0 < w.output.taken → Broken o d (push ∷ past) start w gained

-- what a push leaves and answers
pub record Pushes (o : Options) (d : Dtype) (past : List Rows) (push : Rows) (start : Option (List ℕ)) (w : FileWriter)
    (gained : Option (List ℕ)) (result : Result (Unit {0}) WriteError) : Type 0 where
  pub ok : OnOk result (HasPushed o d (push ∷ past) start w gained)
  pub err : OnErr result (Refuses o d push past start w gained)
  pub answers : PushAnswers d (count_after past) (push_checks o d past push) push result

-- ---- chunks of a source

-- the last chunk that came was refused
pub record RefusesLast (o : Options) (d : Dtype) (past given : List Rows) (start : Option (List ℕ)) (w : FileWriter)
    (gained : Option (List ℕ)) (e : WriteError) : Type 0 where
  pub front : List Rows
  pub chunk : Rows
  pub split : given ≡ front ++ chunk ∷ []
  pub pushes : Pushes o d (pushes past front) chunk start w gained (Err e)

-- The source failed, or memory ran out, behind chunks that were pushed. Where the sink took no byte of the writer, that is all;
-- else the writer is broken.
pub record StopsBehind (o : Options) (d : Dtype) (past : List Rows) (start : Option (List ℕ)) (chunks chunks_now : ChunkState) (w : FileWriter)
    (gained : Option (List ℕ)) (e : WriteError) : Type 0 where
  pub untouched : w.output.taken ≡ 0 → HasPushed o d past start w gained
  pub begun : 0 < w.output.taken → Broken o d past start w gained
  pub because : ((e ≡ ChunkFault) × SourceFailed chunks chunks_now) ⊎ (e ≡ OutOfMemory)

-- what pushing the chunks of a source leaves and answers: the chunks that came were pushed, and these were all of them, or the
-- last one was refused, or the source failed behind them, or memory ran out
pub record PushesStream (o : Options) (d : Dtype) (past : List Rows) (start : Option (List ℕ)) (chunks chunks_now : ChunkState) (w : FileWriter)
    (gained : Option (List ℕ)) (result : Result (Unit {0}) WriteError) : Type 0 where
  pub given : List Rows
  pub came : Came given chunks chunks_now
  pub whole : OnOk result ((rows : List Rows) → chunks.rest ≡ Some rows → rows ≡ given)
  pub ok : OnOk result (HasPushed o d (pushes past given) start w gained)
  pub err : IfErr result (λ e. RefusesLast o d past given start w gained e ⊎ StopsBehind o d (pushes past given) start chunks chunks_now w gained e)

-- ---- the end

-- the file was written whole, and flushed; it opens again, and has the rows of the chunks
pub record Closed (o : Options) (d : Dtype) (past : List Rows) (start : Option (List ℕ)) (now : SinkState) (s : WriteSummary) : Type 0 where
  pub ended : Ended o d past start now s
  pub opens : OpensAgain o d past (content_read s.footer.content)

-- what the end of a file leaves and answers
abbrev pub Closes : Options → Dtype → List Rows → Option (List ℕ) → SinkState → Result WriteSummary WriteError → Type 0
Closes o d past start now (Ok s) = Closed o d past start now s
Closes o d past start now (Err e) = NotEnded o d past start now e
