use Rattle.std.proofs.Common.{◌≡◌, ◌++◌, map}
use Rattle.vx_source.specs.declared.fetching.Fetch.{Fetch}
use Rattle.vx_source.proofs.fetching.last_replies.Given as goal

abbrev pub invariant-loop-fetch : goal.invariant-loop-fetch
invariant-loop-fetch l = l.replies ++ map (λ (f : Fetch). f.reply) l.fetch-iterator.rest.items ≡ map (λ (f : Fetch). f.reply) l.fn.fetches.items
