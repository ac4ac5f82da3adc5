use Rattle.std.proofs.Common.{◌≡◌, drop}
use Rattle.vx_base.specs.Caches.{buffer_of}
use Rattle.vx_base.proofs.mem_cache.find_buffer.Given as goal

abbrev pub invariant-loop-key : goal.invariant-loop-key
invariant-loop-key l = buffer_of (drop l.key-index l.entries) l.id.0 ≡ buffer_of l.fn.entries l.id.0
