-- The statistics of a column that are known, as plain data.
use Rattle.std.specs.Prelude.{Option, None}
use Rattle.std.specs.Option.{option_map}
use Rattle.vx_data.specs.declared.scalar.Scalar.{Scalar}
use Rattle.vx_data.specs.declared.stats_set.Stat.{Stat}
use Rattle.vx_data.specs.declared.stats_set.Stat.TheVariants.{Min, Max, NullCount}
use Rattle.vx_data.specs.declared.stats_set.Precision.{Precision}
use Rattle.vx_data.specs.Scalar.{Value, scalar_view}

pub record Stats : Type 0 where
  pub min : Option (Value × Precision)
  pub max : Option (Value × Precision)
  pub null_count : Option (Value × Precision)

abbrev pub kept_view : Option (Scalar × Precision) → Option (Value × Precision)
kept_view kept = option_map (λ p. (scalar_view p.0, p.1)) kept

abbrev pub no_stats : Stats
no_stats = record { min = None; max = None; null_count = None }

abbrev pub stat_in : Stat → Stats → Option (Value × Precision)
stat_in Min s = s.min
stat_in Max s = s.max
stat_in NullCount s = s.null_count

abbrev pub with_stat : Stat → Option (Value × Precision) → Stats → Stats
with_stat Min value s = record s { min = value }
with_stat Max value s = record s { max = value }
with_stat NullCount value s = record s { null_count = value }
