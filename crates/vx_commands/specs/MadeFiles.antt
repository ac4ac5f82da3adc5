-- A file of rows that a command writes to memory.
use Rattle.std.specs.Prelude.{◌≡◌, ℕ, List, [], ◌∷◌, length, Option, None, Some, Result, Ok, Err}
use Rattle.vx_data.specs.Dtype.{Dtype}
use Rattle.vx_footer.specs.FieldSizes.{missing}
use Rattle.vx_footer.specs.ReadAgain.{content_read}
use Rattle.vx_footer.specs.declared.write_error.WriteError.{WriteError}
use Rattle.vx_rows.specs.Rows.{Rows, rows_len}
use Rattle.vx_write.specs.OpensAgain.{OpensAgain}
use Rattle.vx_write.specs.Options.{Options}
use Rattle.vx_write.specs.Written.{written}
use Rattle.vx_commands.specs.RowsFiles.{file_checks, refusal_in}
use Rattle.vx_commands.specs.declared.failure.Failure.{Failure}
use Rattle.vx_commands.specs.declared.failure.Failure.TheVariants as failures
use Rattle.vx_commands.specs.declared.made_file.MadeFile.{MadeFile}

-- the file of rows that are pushed as one chunk
abbrev pub made_bytes : Options → Dtype → Rows → List ℕ
made_bytes o d c = written o d (c ∷ [])

-- the first check of it that fails, if one does
abbrev pub file_refusal : Options → Dtype → Rows → Option WriteError
file_refusal o d c = refusal_in (file_checks o d c)

-- no check refuses it, it opens to the footer of its summary, and has the rows; its layout names only segments that it has
pub record IsMade (o : Options) (d : Dtype) (c : Rows) (made : MadeFile) : Type 0 where
  pub bytes : made.bytes.items ≡ made_bytes o d c
  pub checked : file_refusal o d c ≡ None
  pub opens : OpensAgain o d (c ∷ []) (content_read made.summary.footer.content)
  pub there : missing made.summary.footer.content.layout made.summary.footer.content.segments ≡ None
  pub size : made.summary.size ≡ length (made_bytes o d c)
  pub rows : made.summary.row_count ≡ rows_len c

-- the file was made, or the first check that fails is named, or memory ran out
abbrev pub MakesFile : Options → Dtype → Rows → Result MadeFile Failure → Type 0
MakesFile o d c (Ok made) = IsMade o d c made
MakesFile o d c (Err (failures.Unwritten e)) = file_refusal o d c ≡ Some e
MakesFile o d c (Err failures.OutOfMemory) = Unit {0}
MakesFile o d c (Err _) = ⊥
