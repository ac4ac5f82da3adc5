use Rattle.std.proofs.Common.{ℕ, List, Some}
use Rattle.vx_base.specs.Caches.{CacheState, SameCache}
use Rattle.vx_source.specs.Bytes.{IsEnd}
use Rattle.vx_source.specs.Puts.{Gains}
use Rattle.vx_file.specs.Covered.{covered_segments}
use Rattle.vx_file.proofs.Covering.{from_place}
use Rattle.vx_file.proofs.covered.put_covered.Given as goal

abbrev pub invariant-loop-number : goal.invariant-loop-number
invariant-loop-number g l =
    let state = g.C.SegmentCache.state in
    record {
      gains : (file : List ℕ) → IsEnd file (Some l.tail) → (last : CacheState) → Gains (from_place file l.tail.start l.segments l.number) (state l.cache) last → Gains (covered_segments file l.tail.start l.segments) (state l.fn.cache) last;
      same : SameCache (state l.fn.cache) (state l.cache);
    }
