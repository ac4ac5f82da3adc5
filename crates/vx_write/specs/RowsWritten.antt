-- What writing chunks of rows as one file leaves and answers.
use Rattle.std.specs.Prelude.{◌≡◌, ◌⊎◌, ℕ, ◌+◌, ◌<◌, ◌≤◌, ◌^◌, List, [], ◌∷◌, ◌++◌, Option, Result, Ok, Err}
use Rattle.vx_base.specs.Streams.{SinkState, TookPrefix}
use Rattle.vx_data.specs.Dtype.{Dtype}
use Rattle.vx_footer.specs.declared.write_error.WriteError.{WriteError}
use Rattle.vx_footer.specs.declared.write_error.WriteError.TheVariants.{ChunkDType, RowsOverflow}
use Rattle.vx_rows.specs.Rows.{Rows, rows_len}
use Rattle.vx_write.specs.declared.file_writer.FileWriter.{FileWriter}
use Rattle.vx_write.specs.declared.summary.WriteSummary.{WriteSummary}
use Rattle.vx_write.specs.OpensAgain.{Accepted}
use Rattle.vx_write.specs.Options.{Options}
use Rattle.vx_write.specs.Standing.{Stands, Ended}
use Rattle.vx_write.specs.Taken.{Checked}
use Rattle.vx_write.specs.Written.{begin_checks, sent, written, count_after, push_checks, end_checks, IsChunk}

-- chunks behind others, newest first
abbrev pub pushes : List Rows → List Rows → List Rows
pushes past [] = past
pushes past (c ∷ cs) = pushes (c ∷ past) cs

-- what comes once checks passed
abbrev pub Then : {A B : Type 0} → Result A WriteError → Result B WriteError → Type 0 → Type 0
Then answer (Ok x) next = next
Then answer (Err e) next = Checked {B = Unit {0}} answer (Err e)

-- what pushing chunks behind others, and then the end, answers: the first chunk that is refused names the refusal
abbrev pub ChunksAnswer : {A : Type 0} → Options → Dtype → List Rows → List Rows → Result A WriteError → Type 0
ChunksAnswer o d past [] answer = Checked answer (end_checks o d past)
ChunksAnswer o d past (c ∷ cs) answer =
    ((IsChunk d c → ⊥) → Checked {B = Unit {0}} answer (Err ChunkDType))
    × (IsChunk d c → 2 ^ 64 ≤ count_after past + rows_len c → Checked {B = Unit {0}} answer (Err RowsOverflow))
    × (IsChunk d c → count_after past + rows_len c < 2 ^ 64 → Then answer (push_checks o d past c) (ChunksAnswer o d (c ∷ past) cs answer))

-- what writing chunks answers: the options and the type come before the chunks
abbrev pub RowsAnswer : {A : Type 0} → Options → Dtype → List Rows → Result A WriteError → Type 0
RowsAnswer o d cs answer = Then answer (begin_checks o d) (ChunksAnswer o d [] cs answer)

-- a part of the file was written: of the first chunks, or of all of them and its end
pub record CutShort (o : Options) (d : Dtype) (cs : List Rows) (start : Option (List ℕ)) (now : SinkState) : Type 0 where
  pub front : List Rows
  pub rest : List Rows
  pub split : cs ≡ front ++ rest
  pub took : TookPrefix (sent o d (pushes [] front)) start now.gained ⊎ TookPrefix (written o d (pushes [] cs)) start now.gained

-- what it leaves
abbrev pub RowsLeave : Options → Dtype → List Rows → SinkState → SinkState → Result WriteSummary WriteError → Type 0
RowsLeave o d cs before now (Ok s) = Ended o d (pushes [] cs) before.gained now s
RowsLeave o d cs before now (Err e) = CutShort o d cs before.gained now

-- ---- while chunks are pushed

-- the chunks before the rest were pushed
pub record Pushing (o : Options) (d : Dtype) (all rest : List Rows) (start : Option (List ℕ)) (w : FileWriter) (gained : Option (List ℕ)) : Type 0 where
  pub front : List Rows
  pub split : all ≡ front ++ rest
  pub stands : Stands o d (pushes [] front) start w gained
  pub accepted : Accepted o d (pushes [] front)
  pub answers : (answer : Result WriteSummary WriteError) → ChunksAnswer o d (pushes [] front) rest answer → ChunksAnswer o d [] all answer

-- what a refused push leaves and answers
pub record PushingEnds (o : Options) (d : Dtype) (all : List Rows) (start : Option (List ℕ)) (gained : Option (List ℕ)) (e : WriteError) : Type 0 where
  pub front : List Rows
  pub rest : List Rows
  pub split : all ≡ front ++ rest
  pub took : TookPrefix (sent o d (pushes [] front)) start gained
  pub answer : ChunksAnswer {A = WriteSummary} o d [] all (Err e)
