-- What is told of a file of generated rows that was written to memory and opened.
use Rattle.std.specs.Prelude.{◌≡◌, ℕ, length, Some, None, Result, Ok, Err}
use Rattle.vx_file.specs.Hints.{no_hints}
use Rattle.vx_file.specs.Ranges.{tail_ranges}
use Rattle.vx_footer.specs.Footers.{FooterContent, segment_table}
use Rattle.vx_footer.specs.Opening.{vx_grammar}
use Rattle.vx_rows.specs.LayoutRows.{rows_of}
use Rattle.vx_write.specs.ColumnSizes.{HasColumnSizes}
use Rattle.vx_write.specs.OpensAgain.{slices}
use Rattle.vx_generate.specs.Generated.{generated}
use Rattle.vx_commands.specs.Generated.{gen_bytes, gen_refusal}
use Rattle.vx_commands.specs.declared.failure.Failure.{Failure}
use Rattle.vx_commands.specs.declared.failure.Failure.TheVariants as failures
use Rattle.vx_commands.specs.declared.summary.FileSummary.{FileSummary}

-- No check refuses the file. It opens to a footer, and has the rows. This is told of it: how many rows and bytes it has, how many
-- segments of data, what its columns take, and the ranges that opening it reads, where nothing of it is known.
pub record SumsUp (seed count : ℕ) (s : FileSummary) : Type 0 where
  pub whole : gen_refusal seed count ≡ None
  pub footer : FooterContent
  pub grammar : vx_grammar (gen_bytes seed count) None ≡ Ok footer
  pub has_rows : rows_of (slices (gen_bytes seed count) (segment_table footer)) footer.array_ids footer.layout ≡ Some (generated seed count)
  pub rows : s.rows ≡ count
  pub size : s.size ≡ length (gen_bytes seed count)
  pub segments : s.segments ≡ length footer.segments
  pub columns : HasColumnSizes footer.layout footer.segments s.columns
  pub opening : s.opening ≡ tail_ranges no_hints (gen_bytes seed count)

-- what is told of the file, or the first check that fails; memory may run out
abbrev pub SummaryCause : ℕ → ℕ → Result FileSummary Failure → Type 0
SummaryCause seed rows (Ok s) = SumsUp seed rows s
SummaryCause seed rows (Err (failures.Unwritten e)) = gen_refusal seed rows ≡ Some e
SummaryCause seed rows (Err failures.OutOfMemory) = Unit {0}
SummaryCause seed rows (Err _) = ⊥
