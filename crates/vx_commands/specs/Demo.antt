-- What demonstrating some values gives.
use Rattle.std.specs.Prelude.{◌≡◌, ℕ, ℤ, false, List, [], map, Option, Some, None, Result, Ok, Err}
use Rattle.vx_data.specs.declared.ptype.PType.TheVariants.{I32}
use Rattle.vx_data.specs.Dtype.{Dtype, int}
use Rattle.vx_data.specs.Session.{all_enabled}
use Rattle.vx_footer.specs.Footers.{FooterContent, segment_table}
use Rattle.vx_footer.specs.Opening.{vx_grammar}
use Rattle.vx_footer.specs.declared.write_error.WriteError.{WriteError}
use Rattle.vx_file.specs.declared.step.Step.{Step}
use Rattle.vx_file.specs.declared.served.Served.{Served}
use Rattle.vx_file.specs.Memory.{ServedWhole}
use Rattle.vx_rows.specs.LayoutRows.{rows_of}
use Rattle.vx_rows.specs.Rows.{Rows, ints}
use Rattle.vx_write.specs.OpensAgain.{slices}
use Rattle.vx_write.specs.Options.{Options, default_options}
use Rattle.vx_commands.specs.MadeFiles.{made_bytes, file_refusal}
use Rattle.vx_commands.specs.declared.failure.Failure.{Failure}
use Rattle.vx_commands.specs.declared.failure.Failure.TheVariants as failures

-- ---- the file of some values

-- integers of 32 bits, of which none is null
abbrev pub demo_dtype : Dtype
demo_dtype = int I32 false

abbrev pub demo_rows : List ℤ → Rows
demo_rows values = ints (record { ptype = I32; nullable = false; rows = map Some values })

-- the default options, but no statistics
abbrev pub demo_options : Options
demo_options = record (default_options all_enabled) { statistics = [] }

unfoldable pub demo_bytes : List ℤ → List ℕ
demo_bytes values = made_bytes demo_options demo_dtype (demo_rows values)

-- the first check that fails, if one does
unfoldable pub demo_refusal : List ℤ → Option WriteError
demo_refusal values = file_refusal demo_options demo_dtype (demo_rows values)

-- ---- serving it

-- the file of some values opens to this footer, and these are its rows
pub record HoldsRows (values : List ℤ) (footer : FooterContent) : Type 0 where
  pub grammar : vx_grammar (demo_bytes values) None ≡ Ok footer
  pub rows : rows_of (slices (demo_bytes values) (segment_table footer)) footer.array_ids footer.layout ≡ Some (demo_rows values)

-- a script was served from the file of some values: no check refused it, the values are its rows, and no read failed
pub record Demonstrates (values : List ℤ) (script : List Step) (served : Served) : Type 0 where
  pub whole : demo_refusal values ≡ None
  pub holds : HoldsRows values served.footer.content
  pub serves : ServedWhole (demo_bytes values) script served

-- what was served, unless a check refuses the file or memory runs out
abbrev pub DemoCause : List ℤ → List Step → Result Served Failure → Type 0
DemoCause values script (Ok served) = Demonstrates values script served
DemoCause values script (Err (failures.Unwritten e)) = demo_refusal values ≡ Some e
DemoCause values script (Err failures.OutOfMemory) = Unit {0}
DemoCause values script (Err _) = ⊥
