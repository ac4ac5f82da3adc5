-- What the file of generated rows is written with.
use Rattle.std.specs.Prelude.{ℕ, List, [], ◌∷◌, codes, decimal, Option}
use Rattle.vx_base.specs.Buffer.{Buffer}
use Rattle.vx_data.specs.Session.{all_enabled}
use Rattle.vx_footer.specs.declared.write_error.WriteError.{WriteError}
use Rattle.vx_write.specs.Options.{Options, default_options}
use Rattle.vx_generate.specs.Generated.{generated, generated_dtype}
use Rattle.vx_commands.specs.MadeFiles.{made_bytes, file_refusal}

-- ---- options

-- a seed in decimal
abbrev pub seed_value : ℕ → Buffer
seed_value seed = record { bytes = decimal seed; alignment = 0 }

-- the default options, with a seed as metadata
abbrev pub gen_options : ℕ → Options
gen_options seed = record (default_options all_enabled) { metadata = (codes "org.apache.spark.sql.parquet.row.metadata", seed_value seed) ∷ [] }

-- ---- the file

unfoldable pub gen_bytes : ℕ → ℕ → List ℕ
gen_bytes seed rows = made_bytes (gen_options seed) generated_dtype (generated seed rows)

-- the first check that fails, if one does
unfoldable pub gen_refusal : ℕ → ℕ → Option WriteError
gen_refusal seed rows = file_refusal (gen_options seed) generated_dtype (generated seed rows)
