-- What opening a file in memory gives.
use Rattle.std.specs.Prelude.{◌≡◌, ℕ, Bool, true, false, List, length, map, Option, Some, None, Result, Ok, Err}
use Rattle.vx_base.specs.Buffer.{Buffer}
use Rattle.vx_footer.specs.Footers.{FooterContent, segment_table}
use Rattle.vx_source.specs.Sources.{FileInMemory}
use Rattle.vx_file.specs.declared.metadata.MetadataValue.{MetadataValue}
use Rattle.vx_file.specs.declared.prepared.Prepared.{Prepared}
use Rattle.vx_file.specs.declared.served.ServeError.{ServeError}
use Rattle.vx_file.specs.declared.served.ServeError.TheVariants as errors
use Rattle.vx_file.specs.Hints.{Hints}
use Rattle.vx_file.specs.Loading.{value_in}
use Rattle.vx_file.specs.Plans.{Plan, plan_of}

-- what is known of a file in memory: its size is that of its bytes
abbrev pub in_buffer : Hints → List ℕ → Hints
in_buffer hints bytes = record hints { size = Some (length bytes); initial = 0 }

-- the plan by which it is opened
abbrev pub buffer_plan : Hints → List ℕ → Plan
buffer_plan hints bytes = plan_of (in_buffer hints bytes) bytes

-- the values of the metadata, where they are to be loaded
abbrev pub values_if : Bool → List ℕ → FooterContent → Option (List MetadataValue)
values_if false bytes footer = None
values_if true bytes footer = Some (map (value_in bytes) footer.metadata)

-- a file in memory was prepared, without a reader that may fail
pub record PreparedBuffer (hints : Hints) (bytes : List ℕ) (p : Prepared) : Type 0 where
  pub footer : (buffer_plan hints bytes).footer ≡ Ok p.footer.content
  pub metadata : p.metadata ≡ values_if hints.metadata bytes p.footer.content

-- the footer is the plan's, or the refusal; nothing else but want of memory comes
abbrev pub PreparesBuffer : Hints → List ℕ → Result Prepared ServeError → Type 0
PreparesBuffer hints bytes (Ok p) = PreparedBuffer hints bytes p
PreparesBuffer hints bytes (Err (errors.Open e)) = (buffer_plan hints bytes).footer ≡ Err e
PreparesBuffer hints bytes (Err (errors.Fault fault)) = ⊥
PreparesBuffer hints bytes (Err errors.CacheFault) = ⊥
PreparesBuffer hints bytes (Err errors.OutOfMemory) = Unit {0}

-- A file in memory was opened: its footer is the plan's, its segments are those of its bytes, and the values of the metadata
-- are theirs, where they are to be loaded.
pub record OpensBuffer (hints : Hints) (buffer : Buffer) (footer : FooterContent) (source : FileInMemory)
    (metadata : Option (List MetadataValue)) : Type 0 where
  pub footer_is : (buffer_plan hints buffer.bytes).footer ≡ Ok footer
  pub source_is : source ≡ record { buffer = buffer; table = segment_table footer }
  pub metadata_is : metadata ≡ values_if hints.metadata buffer.bytes footer
