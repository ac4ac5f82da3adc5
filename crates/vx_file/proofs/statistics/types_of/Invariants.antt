use Rattle.std.proofs.Common.{◌≡◌, ◌++◌, drop, map}
use Rattle.vx_data.specs.Dtype.{dtype_view}
use Rattle.vx_file.proofs.statistics.types_of.Given as goal

-- the types so far and those still to come
abbrev pub invariant-loop-dtype : goal.invariant-loop-dtype
invariant-loop-dtype l = map dtype_view l.copies.items ++ map dtype_view (drop l.dtype-index l.dtypes) ≡ map dtype_view l.dtypes
