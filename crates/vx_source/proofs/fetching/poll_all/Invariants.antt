use Rattle.std.proofs.Common.{◌≡◌, ◌++◌, ℕ, List, length}
use Rattle.vx_source.specs.Bytes.{HasBytes}
use Rattle.vx_source.specs.Fetching.{PollsSome, AreTruePolls}
use Rattle.vx_source.specs.Fits.{World}
use Rattle.vx_source.specs.History.{Moment}
use Rattle.vx_source.specs.Stands.{Stands}
use Rattle.vx_source.specs.declared.fetching.Fetch.{Fetch}
use Rattle.vx_source.proofs.fetching.poll_all.Given as goal

abbrev pub invariant-loop-fetch : goal.invariant-loop-fetch
invariant-loop-fetch l = record {
  polled : (w : World) (past : List Moment) → Stands w past l.fn.session → PollsSome w past l.fn.fetches.items l.fetch-iterator.rest.items l.polled.items l.session;
  slices : (w : World) (past : List Moment) (file : List ℕ) → Stands w past l.fn.session → HasBytes file l.fn.session → (more : List Fetch) →
      AreTruePolls file w past l.fetch-iterator.rest.items more → AreTruePolls file w past l.fn.fetches.items (l.polled.items ++ more);
  bytes : (w : World) (past : List Moment) (file : List ℕ) → Stands w past l.fn.session → HasBytes file l.fn.session → HasBytes file l.session;
  settings : l.session.idle ≡ l.fn.session.idle;
  made : length l.session.requests ≡ length l.fn.session.requests;
}
