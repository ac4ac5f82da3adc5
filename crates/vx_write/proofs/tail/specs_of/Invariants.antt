use Rattle.std.proofs.Common.{◌≡◌, ◌++◌, ◌+◌, ◌≤◌, ◌<◌, ◌^◌, [], map, drop, take, length}
use Rattle.vx_write.proofs.tail.specs_of.Given as goal

abbrev pub invariant-loop-chunk : goal.invariant-loop-chunk
invariant-loop-chunk l = l.specs.items ++ map (λ x. x.spec) (drop l.chunk-index l.laid) ≡ map (λ x. x.spec) l.laid
