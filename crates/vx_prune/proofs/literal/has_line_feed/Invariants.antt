use Rattle.std.proofs.Common.{◌≡◌, drop}
use Rattle.vx_prune.specs.PredicateWords.{has_line_feed}
use Rattle.vx_prune.proofs.literal.has_line_feed.Given as goal

-- it is there where it is among those still to come
abbrev pub invariant-loop-byte : goal.invariant-loop-byte
invariant-loop-byte l = has_line_feed (drop l.byte-index l.text) ≡ has_line_feed l.text
