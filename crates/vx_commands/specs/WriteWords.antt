-- What the words of `write` say of a file.
use Rattle.std.specs.Prelude.{ℕ, ◌≤◌, Bool, if◌then◌else◌, List, [], ◌∷◌, codes, Option, Some, None, is_some, unwrap_or}
use Rattle.vx_data.specs.Session.{all_enabled}
use Rattle.vx_footer.specs.declared.version.FileVersion.TheVariants.{V1, V2}
use Rattle.vx_write.specs.Options.{Options, default_options, with_values}
use Rattle.vx_write.specs.Strategies.{Strategy, default_settings, built}
use Rattle.vx_commands.specs.MetadataWords.{entries_of}
use Rattle.vx_text.specs.Options.{OptionShape, once, repeated}

-- whether the type and the statistics are left out, how many rows a block has and how many bytes a chunk gathers, where
-- that is said, the words that spell the metadata, and whether the file is of the second version
pub record WriteValue : Type 0 where
  pub excludes_dtype : Bool
  pub excludes_statistics : Bool
  pub block : Option ℕ
  pub target : Option ℕ
  pub metadata : List (List ℕ)
  pub is_second : Bool

-- whether the type, or statistics, are left out, how many rows a block has, how many bytes a chunk gathers, values of metadata,
-- and whether the file is of the second version
abbrev pub write_shapes : List OptionShape
write_shapes =
    once (codes "--no-dtype") 0 ∷ once (codes "--no-stats") 0 ∷ once (codes "--block") 1 ∷ once (codes "--target") 1
    ∷ repeated (codes "--meta") 2 ∷ once (codes "--v2") 0 ∷ []

-- options of which those of metadata spell entries
abbrev pub metadata_of : List (List ℕ) → Option (List (List ℕ))
metadata_of words = if is_some (entries_of write_shapes words) then Some words else None

-- a number is from one on, where it is said
abbrev pub IsFromOne : Option ℕ → Type 0
IsFromOne None = Unit {0}
IsFromOne (Some n) = 1 ≤ n

-- a number in place of another, where it is said
abbrev pub target_of : Option ℕ → Option ℕ → Option ℕ
target_of None own = own
target_of (Some bytes) own = Some bytes

-- the default strategy, but for what is said
abbrev pub strategy_of : WriteValue → Strategy
strategy_of w = built (record default_settings {
  block_rows = unwrap_or w.block default_settings.block_rows;
  block_bytes = target_of w.target default_settings.block_bytes;
})

-- the default options, but for what is said
abbrev pub options_of : WriteValue → Options
options_of w = record (default_options all_enabled) {
  strategy = strategy_of w;
  excludes_dtype = w.excludes_dtype;
  metadata = with_values [] (unwrap_or (entries_of write_shapes w.metadata) []);
  statistics = if w.excludes_statistics then [] else (default_options all_enabled).statistics;
  version = if w.is_second then V2 else V1;
}
