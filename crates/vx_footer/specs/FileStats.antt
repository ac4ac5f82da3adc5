-- The statistics of a file as plain data.
use Rattle.std.specs.Prelude.{List}
use Rattle.vx_data.specs.Dtype.{Dtype}
use Rattle.vx_data.specs.Stats.{Stats}

-- one set for each of some types
pub record FileStats : Type 0 where
  pub sets : List Stats
  pub dtypes : List Dtype
