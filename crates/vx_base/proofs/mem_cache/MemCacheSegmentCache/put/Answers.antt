use Rattle.vx_base.specs.Caches.{cache_state, same_cache-then}
use Rattle.vx_base.proofs.mem_cache.MemCacheSegmentCache.put.Goals as goal

pub returns-then-is_err-clause-same : goal.returns-then-is_err-clause-same
returns-then-is_err-clause-same c =
    same_cache-then (cache_state c.args.self.now) (cache_state c.fails-fails.new.self) (cache_state c.lose.new.self) c.fails-fails.ensures.same
    (same_cache-then (cache_state c.fails-fails.new.self) (cache_state c.note.new.self) (cache_state c.lose.new.self) c.note.ensures.same c.lose.ensures.same)

pub returns-then-fails-clause-same : goal.returns-then-fails-clause-same
returns-then-fails-clause-same c =
    same_cache-then (cache_state c.args.self.now) (cache_state c.fails-fails.new.self) (cache_state c.note.new.self) c.fails-fails.ensures.same c.note.ensures.same

pub returns-then-is_err-2-clause-same : goal.returns-then-is_err-2-clause-same
returns-then-is_err-2-clause-same c =
    same_cache-then (cache_state c.args.self.now) (cache_state c.fails-fails.new.self) (cache_state c.lose-then-is_err-2.new.self) c.fails-fails.ensures.same
    (same_cache-then (cache_state c.fails-fails.new.self) (cache_state c.note.new.self) (cache_state c.lose-then-is_err-2.new.self) c.note.ensures.same
    (same_cache-then (cache_state c.note.new.self) (cache_state c.add.new.self) (cache_state c.lose-then-is_err-2.new.self) c.add.ensures.same c.lose-then-is_err-2.ensures.same))
