use Rattle.std.proofs.Common.{◌≡◌, ◌++◌, ◌+◌, ◌≤◌, ◌<◌, ◌^◌, [], map, drop, take, length}
use Rattle.vx_data.specs.Dtype.{dtype_view}
use Rattle.vx_write.specs.Laying.{flat}
use Rattle.vx_write.proofs.laying.flats.Given as goal

abbrev pub invariant-loop-chunk : goal.invariant-loop-chunk
invariant-loop-chunk l = l.layouts.items ++ map (flat (dtype_view l.dtype)) (drop l.chunk-index l.chunks) ≡ map (flat (dtype_view l.dtype)) l.chunks
