-- What writing the chunks of a source as one file leaves and answers.
use Rattle.std.specs.Prelude.{◌≡◌, ◌⊎◌, true, ℕ, List, [], ◌++◌, Option, Some, Result, Ok, Err, IfOk, OnOk}
use Rattle.vx_base.specs.Counts.{Rises}
use Rattle.vx_base.specs.Streams.{SinkState, TookPrefix}
use Rattle.vx_data.specs.Dtype.{Dtype}
use Rattle.vx_footer.specs.ReadAgain.{content_read}
use Rattle.vx_footer.specs.declared.write_error.WriteError.{WriteError}
use Rattle.vx_footer.specs.declared.write_error.WriteError.TheVariants.{ChunkFault}
use Rattle.vx_rows.specs.Rows.{Rows}
use Rattle.vx_write.specs.ChunkSources.{ChunkState, Came}
use Rattle.vx_write.specs.OpensAgain.{OpensAgain}
use Rattle.vx_write.specs.Options.{Options}
use Rattle.vx_write.specs.RowsWritten.{pushes, RowsAnswer, RowsLeave, Pushing, PushingEnds}
use Rattle.vx_write.specs.Standing.{Stands}
use Rattle.vx_write.specs.Written.{sent}
use Rattle.vx_write.specs.declared.file_writer.FileWriter.{FileWriter}
use Rattle.vx_write.specs.declared.streaming.StreamError.{StreamError}
use Rattle.vx_write.specs.declared.streaming.StreamError.TheVariants as stream_error
use Rattle.vx_write.specs.declared.summary.WriteSummary.{WriteSummary}

-- the source failed: it is one that may
pub record SourceFailed (chunks now : ChunkState) : Type 0 where
  pub may : chunks.never_fails ≡ true → ⊥
  pub rises : Rises 1 chunks.faults now.faults

-- The chunks that came were written as one file, as chunks in a list are, or the source failed behind them. Where the file is
-- whole, these are all of the chunks.
pub record Streams (o : Options) (d : Dtype) (chunks chunks_now : ChunkState) (before now : SinkState) (result : Result WriteSummary WriteError) : Type 0 where
  pub given : List Rows
  pub came : Came given chunks chunks_now
  pub whole : OnOk result ((rows : List Rows) → chunks.rest ≡ Some rows → rows ≡ given)
  pub leaves : RowsLeave o d given before now result
  pub answer : RowsAnswer o d given result ⊎ ((result ≡ Err ChunkFault) × SourceFailed chunks chunks_now)
  pub opens : IfOk result (λ s. OpensAgain o d (pushes [] given) (content_read s.footer.content))

-- ---- while chunks come

-- all chunks came, and were pushed
pub record StreamPushed (chunks chunks_now : ChunkState) (old new : FileWriter) (before now : Option (List ℕ)) : Type 0 where
  pub given : List Rows
  pub came : Came given chunks chunks_now
  pub whole : (rows : List Rows) → chunks.rest ≡ Some rows → rows ≡ given
  pub pushing : (o : Options) (d : Dtype) (start : Option (List ℕ)) → Stands o d [] start old before → Pushing o d given [] start new now

-- the source failed behind some, or the last one that came was refused
abbrev pub StreamEnds : StreamError → List Rows → ChunkState → ChunkState → FileWriter → Option (List ℕ) → Option (List ℕ) → Type 0
StreamEnds stream_error.Chunks given chunks chunks_now old before now =
    SourceFailed chunks chunks_now
    × ((o : Options) (d : Dtype) (start : Option (List ℕ)) → Stands o d [] start old before → TookPrefix (sent o d (pushes [] given)) start now)
StreamEnds (stream_error.Writer e) given chunks chunks_now old before now =
    (o : Options) (d : Dtype) (start : Option (List ℕ)) → Stands o d [] start old before → PushingEnds o d given start now e

pub record StreamCut (chunks chunks_now : ChunkState) (old : FileWriter) (before now : Option (List ℕ)) (e : StreamError) : Type 0 where
  pub given : List Rows
  pub came : Came given chunks chunks_now
  pub ends : StreamEnds e given chunks chunks_now old before now

-- how a sink sees it
abbrev pub stream_result : Result (Unit {0}) StreamError → Result (Unit {0}) WriteError
stream_result (Ok x) = Ok x
stream_result (Err stream_error.Chunks) = Err ChunkFault
stream_result (Err (stream_error.Writer e)) = Err e
