use Rattle.vx_data.specs.Dtype.{dtype_view}
use Rattle.vx_file.specs.Scans.{seen}
use Rattle.vx_file.proofs.JoiningLemmas.{Joins}
use Rattle.vx_file.proofs.column_joining.join.Given as goal

-- the chunks in front are joined
abbrev pub invariant-loop-chunk : goal.invariant-loop-chunk
invariant-loop-chunk l = Joins (dtype_view l.dtype) (seen l.fn.chunks.items) (seen l.chunk-iterator.rest.items) l.growing
