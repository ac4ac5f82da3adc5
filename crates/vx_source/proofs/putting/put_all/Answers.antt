use Rattle.std.proofs.Common.{[], ◌∷◌, arith}
use Rattle.vx_base.specs.Caches.{same_cache-then}
use Rattle.vx_source.proofs.PutLemmas.{gains-none, gains-one, gains-then, nothing-left}
use Rattle.vx_source.proofs.putting.put_all.Goals as goal

pub loop-id-preserved : goal.loop-id-preserved
loop-id-preserved g c =
    let state = g.C.SegmentCache.state in
    let steps = c.in-Some.ensures.steps in
    record {
      gains = λ s h. c.loop-id.invariant.gains s
          (rw steps.0 (gains-then ((c.in-Some.id, c.in-Some.buffer) ∷ []) c.next.new.self.rest.items (state c.loop-id.cache) (state c.put.new.self) s
          (gains-one c.in-Some.id c.in-Some.buffer (state c.loop-id.cache) (state c.put.new.self) c.put.result c.put.ensures.same.lost_never_falls c.put.ensures.cause) h));
      same = same_cache-then (state c.args.cache.now) (state c.loop-id.cache) (state c.put.new.self) c.loop-id.invariant.same c.put.ensures.same;
    }

pub returns-clause-gains : goal.returns-clause-gains
returns-clause-gains g c =
    let state = g.C.SegmentCache.state in
    let steps = c.in-None.ensures.steps in
    c.loop-id.invariant.gains (state c.loop-id.cache) (rw (nothing-left c.loop-id.id-iterator.rest.items (omega (arith, steps.0))) (gains-none (state c.loop-id.cache)))
