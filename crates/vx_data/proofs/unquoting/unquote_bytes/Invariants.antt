use Rattle.std.proofs.Common.{◌≡◌, length}
use Rattle.vx_data.specs.TextsRead.{unquoted_bytes}
use Rattle.vx_data.proofs.QuoteSteps.{bytes_before}
use Rattle.vx_data.proofs.unquoting.unquote_bytes.Given as goal

-- the bytes so far and those still to come
abbrev pub invariant-loop-first : goal.invariant-loop-first
invariant-loop-first l = bytes_before l.bytes.items (unquoted_bytes l.rest) ≡ unquoted_bytes l.fn.text

abbrev pub decreases-loop-first : goal.decreases-loop-first
decreases-loop-first l = length l.rest
