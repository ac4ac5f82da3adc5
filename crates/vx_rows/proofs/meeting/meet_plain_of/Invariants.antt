use Rattle.std.proofs.Common.{◌≡◌, ◌≤◌, ◌+◌, map, vec_len, vec_capacity}
use Rattle.vx_rows.specs.Keys.{of_key}
use Rattle.vx_rows.specs.Span.{span}
use Rattle.vx_rows.specs.Truth.{is_true}
use Rattle.vx_rows.specs.Verdicts.{plain_told}
use Rattle.vx_rows.proofs.meeting.meet_plain_of.Given as goal

abbrev pub invariant-loop-row : goal.invariant-loop-row
invariant-loop-row l =
    (l.flags.items ≡ map is_true (span (plain_told l.verdict l.ptype l.bytes l.at (of_key l.ptype l.key)) 0 l.row)) × (vec_len l.flags + l.count ≤ vec_capacity l.flags + l.row) × (l.row ≤ l.count)
