use Rattle.std.proofs.Common.{◌≡◌, ◌+◌, ◌≤◌, ℕ, List, length, drop}
use Rattle.vx_base.specs.Caches.{SameCache}
use Rattle.vx_source.specs.Bytes.{HasBytes, TellsSlices}
use Rattle.vx_source.specs.Fetching.{RegistersSome}
use Rattle.vx_source.specs.Fits.{World}
use Rattle.vx_source.specs.History.{Moment}
use Rattle.vx_source.specs.Stands.{Stands}
use Rattle.vx_source.proofs.fetching.register_all.Given as goal

abbrev pub invariant-loop-id : goal.invariant-loop-id
invariant-loop-id g l =
    let cache = g.C.SegmentCache.state in
    record {
      registered : (w : World) (past : List Moment) → Stands w past l.fn.session →
          RegistersSome w past (cache l.fn.cache) (cache l.cache) l.ids (drop l.id-index l.ids) l.fetches.items l.session;
      bytes : (w : World) (past : List Moment) (file : List ℕ) → Stands w past l.fn.session → HasBytes file l.fn.session → TellsSlices file w.table (cache l.fn.cache) →
          HasBytes file l.session × TellsSlices file w.table (cache l.cache);
      settings : l.session.idle ≡ l.fn.session.idle;
      room : length l.session.requests ≤ length l.fn.session.requests + l.id-index;
      same : SameCache (cache l.fn.cache) (cache l.cache);
    }
