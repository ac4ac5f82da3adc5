-- Sets of statistics, one after the other.
use Rattle.std.proofs.Common.{◌≡◌, ℕ, List, [], ◌++◌, map, drop, Option, Some, None, refl}
use Rattle.vx_data.specs.declared.dtype.DType.{DType}
use Rattle.vx_data.specs.Dtype.{dtype_view}
use Rattle.vx_data.specs.Stats.{Stats}
use Rattle.vx_data.specs.StatsEntry.{Entry}
use Rattle.vx_data.specs.StatsTable.{all_stats}

-- what still comes
abbrev pub rest_sets : List Entry → List DType → ℕ → Option (List Stats)
rest_sets es ds i = all_stats (drop i es) (map dtype_view (drop i ds))

-- sets that were made, before others
abbrev pub sets_before : List Stats → Option (List Stats) → Option (List Stats)
sets_before made None = None
sets_before made (Some ss) = Some (made ++ ss)

pub sets_none : (o : Option (List Stats)) → sets_before [] o ≡ o
sets_none None = refl
sets_none (Some ss) = refl
