-- Writing the rows of an input as a file.
use Rattle.std.specs.Prelude.{◌≡◌, ℕ, true, List, [], ◌∷◌, Option, Some, None, Result, Ok, Err}
use Rattle.vx_base.specs.Checks.{◌>>=◌}
use Rattle.vx_base.specs.Counts.{Rises}
use Rattle.vx_base.specs.Streams.{SinkState, Took, TookPrefix}
use Rattle.vx_data.specs.Dtype.{Dtype}
use Rattle.vx_footer.specs.Footers.{FooterContent}
use Rattle.vx_footer.specs.Serializing.{Parts}
use Rattle.vx_footer.specs.declared.write_error.WriteError.{WriteError}
use Rattle.vx_footer.specs.declared.write_error.WriteError.TheVariants as write_error
use Rattle.vx_rows.specs.Rows.{Rows}
use Rattle.vx_write.specs.OpensAgain.{OpensAgain}
use Rattle.vx_write.specs.Options.{Options}
use Rattle.vx_write.specs.declared.summary.WriteSummary.{WriteSummary}
use Rattle.vx_write.specs.Written.{begin_checks, push_checks, end_checks, written}
use Rattle.vx_commands.specs.Tables.{TableValue}
use Rattle.vx_commands.specs.WriteWords.{WriteValue, options_of}
use Rattle.vx_commands.specs.declared.failure.Failure.{Failure}
use Rattle.vx_commands.specs.declared.failure.Failure.TheVariants as failures
use Rattle.vx_commands.specs.declared.rows_file.RowsFile.{RowsFile}

-- the file of rows that are pushed as one chunk
abbrev pub bytes_of : WriteValue → TableValue → List ℕ
bytes_of w t = written (options_of w) t.dtype (t.rows ∷ [])

-- what is checked of them: the options and the type, the chunk, and then the end of the file
abbrev pub file_checks : Options → Dtype → Rows → Result Parts WriteError
file_checks o d c = begin_checks o d >>= λ _. push_checks o d [] c >>= λ _. end_checks o d (c ∷ [])

abbrev pub refusal_in : {A : Type 0} → Result A WriteError → Option WriteError
refusal_in (Ok x) = None
refusal_in (Err e) = Some e

-- the first check that fails, if one does
abbrev pub refusal_of : WriteValue → TableValue → Option WriteError
refusal_of w t = refusal_in (file_checks (options_of w) t.dtype t.rows)

abbrev pub write_failure : WriteError → Failure
write_failure write_error.WriteFault = failures.Output
write_failure write_error.OutOfMemory = failures.OutOfMemory
write_failure e = failures.Unwritten e

-- what the program answers where a writer answers this
abbrev pub told : Result WriteSummary WriteError → Result (Unit {0}) Failure
told (Ok summary) = Ok tt
told (Err e) = Err (write_failure e)

-- the file opens to a footer, where the type of the rows is supplied or was written, and its rows are those of the input
abbrev pub RowsOpen : RowsFile → Type 0
RowsOpen f = (footer : FooterContent) × OpensAgain (options_of f.arguments) f.table.dtype (f.table.rows ∷ []) footer

-- the file was written whole and flushed, or a prefix of it was taken: a check refused it, or the sink did, or memory ran out
abbrev pub WritesFile : RowsFile → SinkState → SinkState → Result (Unit {0}) Failure → Type 0
WritesFile f before now (Ok _) =
    Took (bytes_of f.arguments f.table) before.gained now.gained × (now.is_flushed ≡ true) × (refusal_of f.arguments f.table ≡ None) × RowsOpen f
WritesFile f before now (Err (failures.Unwritten e)) =
    TookPrefix (bytes_of f.arguments f.table) before.gained now.gained × (refusal_of f.arguments f.table ≡ Some e)
WritesFile f before now (Err failures.Output) =
    TookPrefix (bytes_of f.arguments f.table) before.gained now.gained × Rises 1 before.faults now.faults
WritesFile f before now (Err failures.OutOfMemory) = TookPrefix (bytes_of f.arguments f.table) before.gained now.gained
WritesFile f before now (Err _) = ⊥
