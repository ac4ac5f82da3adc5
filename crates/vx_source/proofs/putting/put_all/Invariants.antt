use Rattle.vx_base.specs.Caches.{CacheState, SameCache}
use Rattle.vx_source.specs.Puts.{Gains}
use Rattle.vx_source.proofs.putting.put_all.Given as goal

abbrev pub invariant-loop-id : goal.invariant-loop-id
invariant-loop-id g l =
    let state = g.C.SegmentCache.state in
    record {
      gains : (s : CacheState) → Gains l.id-iterator.rest.items (state l.cache) s → Gains l.fn.puts.items (state l.fn.cache) s;
      same : SameCache (state l.fn.cache) (state l.cache);
    }
