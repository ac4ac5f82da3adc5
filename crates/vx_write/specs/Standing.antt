-- What a writer stands for: the chunks that were pushed, newest first, and what a call leaves.
use Rattle.std.specs.Prelude.{◌≡◌, ℕ, ◌+◌, ◌<◌, ◌≤◌, ◌^◌, true, false, List, [], ◌∷◌, length, Option, Result, Ok, Err, OnOk, OnErr}
use Rattle.std.specs.List.{All}
use Rattle.vx_data.specs.Dtype.{Dtype, dtype_view}
use Rattle.vx_footer.specs.declared.write_error.WriteError.{WriteError}
use Rattle.vx_footer.specs.declared.write_error.WriteError.TheVariants.{ChunkDType, RowsOverflow}
use Rattle.vx_rows.specs.Rows.{Rows, rows_len, dtype_of, IsColumn}
use Rattle.vx_write.specs.declared.file_writer.FileWriter.{FileWriter}
use Rattle.vx_write.specs.Gathered.{gathered}
use Rattle.vx_write.specs.Laying.{grouped, leaf_count, AreSums, AreLeaves}
use Rattle.vx_write.specs.Leaves.{ChunkRows, filled, grown, leaf_types, column_types}
use Rattle.vx_write.specs.Options.{Options}
use Rattle.vx_write.specs.Placed.{IsAlive, Wrote, Failed}
use Rattle.vx_write.specs.Plans.{plan_view, IsFor, leaves_of, columns_of}
use Rattle.vx_write.specs.Sending.{encoded_chunks}
use Rattle.vx_write.specs.declared.summary.WriteSummary.{WriteSummary}
use Rattle.vx_base.specs.Streams.{SinkState, Took, TookPrefix}
use Rattle.vx_footer.specs.Serializing.{Parts}
use Rattle.vx_rows.specs.Parts.{appended}
use Rattle.vx_write.specs.Taken.{TookAll, TookPart, Checked}
use Rattle.vx_write.specs.Written.{plan_for, coding_of, leaves_after, place_after, sent, rows_after, count_after, push_checks, end_checks, written, IsChunk}

-- the statistics are those of some rows of a type
pub record AreOfRows (w : FileWriter) : Type 0 where
  pub seen : Rows
  pub is : w.stats.items ≡ gathered w.options.statistics seen
  pub typed : dtype_of seen ≡ dtype_view w.dtype
  pub even : IsColumn w.rows seen

-- what each writer is
pub record IsSound (w : FileWriter) : Type 0 where
  pub fit : IsFor (plan_view w.plan) (dtype_view w.dtype)
  pub types : leaf_types w.held.now ≡ leaf_types (leaves_of (plan_view w.plan) (dtype_view w.dtype))
  pub stats : AreOfRows w
  pub leaves : AreLeaves w.held.now
  pub alive : w.failed ≡ false → IsAlive w.output
  pub sums : w.failed ≡ false → AreSums w.rows (grouped (leaf_count (plan_view w.plan)) w.output.laid) w.held.now

-- a writer stands for pushes, whose sink gained their bytes since it began
pub record Stands (o : Options) (d : Dtype) (past : List Rows) (start : Option (List ℕ)) (w : FileWriter) (gained : Option (List ℕ)) : Type 0 where
  pub options : w.options ≡ o
  pub dtype : dtype_view w.dtype ≡ d
  pub plan : plan_view w.plan ≡ plan_for o d
  pub coding : w.coding ≡ coding_of o
  pub leaves : w.held.now ≡ leaves_after o d past
  pub place : w.output ≡ place_after o d past
  pub stats : w.stats.items ≡ gathered o.statistics (rows_after d past)
  pub typed : dtype_of (rows_after d past) ≡ d
  pub even : IsColumn (count_after past) (rows_after d past)
  pub rows : w.rows ≡ count_after past
  pub fine : w.failed ≡ false
  pub took : TookAll (sent o d past) start gained 0 w.output.taken

-- a writer is broken: its sink gained a part of the bytes of pushes
pub record Broken (o : Options) (d : Dtype) (pushes : List Rows) (start : Option (List ℕ)) (w : FileWriter) (gained : Option (List ℕ)) : Type 0 where
  pub failed : w.failed ≡ true
  pub took : TookPart (sent o d pushes) start gained 0 w.output.taken

-- a refused push leaves all as it was, where no byte was written, and else a broken writer
pub record Refused (o : Options) (d : Dtype) (push : Rows) (past : List Rows) (start : Option (List ℕ)) (w : FileWriter)
    (gained : Option (List ℕ)) : Type 0 where
  pub untouched : w.output.taken ≡ 0 → Stands o d past start w gained
  pub begun : 0 < w.output.taken → Broken o d (push ∷ past) start w gained

-- what a push behind so many rows of a type answers, but for faults of the sink and want of memory: a chunk of another type is
-- refused, then too many rows, and then what checks refuse
pub record PushAnswers (d : Dtype) (rows : ℕ) (checks : Result (Unit {0}) WriteError) (push : Rows) (result : Result (Unit {0}) WriteError) : Type 0 where
  pub typed : (IsChunk d push → ⊥) → result ≡ Err ChunkDType
  pub few : IsChunk d push → 2 ^ 64 ≤ rows + rows_len push → result ≡ Err RowsOverflow
  pub checked : IsChunk d push → rows + rows_len push < 2 ^ 64 → Checked result checks
  pub accepted : OnOk result (IsChunk d push)

-- what a push leaves and answers
pub record Pushed (o : Options) (d : Dtype) (past : List Rows) (push : Rows) (start : Option (List ℕ)) (w : FileWriter)
    (gained : Option (List ℕ)) (result : Result (Unit {0}) WriteError) : Type 0 where
  pub ok : OnOk result (Stands o d (push ∷ past) start w gained)
  pub err : OnErr result (Refused o d push past start w gained)
  pub answers : PushAnswers d (count_after past) (push_checks o d past push) push result

-- ---- what taking a chunk in leaves

abbrev pub chunks_for : FileWriter → Rows → List ChunkRows
chunks_for w c = filled w.held.now (columns_of (plan_view w.plan) c)

pub record Keeps (old new : FileWriter) : Type 0 where
  pub options : new.options ≡ old.options
  pub dtype : new.dtype ≡ old.dtype
  pub plan : new.plan ≡ old.plan
  pub coding : new.coding ≡ old.coding
  pub failed : new.failed ≡ old.failed

pub record TakenIn (c : Rows) (old new : FileWriter) (g h : Option (List ℕ)) : Type 0 where
  pub keeps : Keeps old new
  pub chunk : IsChunk (dtype_view old.dtype) c
  pub leaves : new.held.now ≡ grown old.held.now (columns_of (plan_view old.plan) c)
  pub types : leaf_types new.held.now ≡ leaf_types old.held.now
  pub columns : column_types (columns_of (plan_view old.plan) c) ≡ leaf_types old.held.now
  pub even : All (IsColumn (rows_len c)) (columns_of (plan_view old.plan) c)
  pub wrote : Wrote old.output (encoded_chunks old.coding (chunks_for old c)) g new.output h
  pub stats : (seen : Rows) → old.stats.items ≡ gathered old.options.statistics seen → dtype_of seen ≡ dtype_view old.dtype → IsColumn old.rows seen
      → new.stats.items ≡ gathered old.options.statistics (appended seen c)
  pub rows : new.rows ≡ old.rows + rows_len c

pub record NotTaken (c : Rows) (old new : FileWriter) (g h : Option (List ℕ)) : Type 0 where
  pub keeps : Keeps old new
  pub leaves : new.held.now ≡ old.held.now
  pub failed : Failed old.output (encoded_chunks old.coding (chunks_for old c)) g new.output h
  pub stats : new.stats ≡ old.stats
  pub rows : new.rows ≡ old.rows

-- ---- what the end of a file leaves

-- the file was written, and flushed
pub record Ended (o : Options) (d : Dtype) (past : List Rows) (start : Option (List ℕ)) (now : SinkState) (s : WriteSummary) : Type 0 where
  pub took : Took (written o d past) start now.gained
  pub flushed : now.is_flushed ≡ true
  pub parts : Parts
  pub checks : end_checks o d past ≡ Ok parts
  pub footer : s.footer.content ≡ parts.content
  pub size : s.size ≡ length (written o d past)
  pub rows : s.row_count ≡ count_after past

-- a part of it was
pub record NotEnded (o : Options) (d : Dtype) (past : List Rows) (start : Option (List ℕ)) (now : SinkState) (e : WriteError) : Type 0 where
  pub took : TookPrefix (written o d past) start now.gained
  pub checked : Checked {A = Unit {0}} (Err e) (end_checks o d past)

abbrev pub Finished : Options → Dtype → List Rows → Option (List ℕ) → SinkState → Result WriteSummary WriteError → Type 0
Finished o d past start now (Ok s) = Ended o d past start now s
Finished o d past start now (Err e) = NotEnded o d past start now e
