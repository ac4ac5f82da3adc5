use Rattle.std.proofs.Common.{◌≡◌, ◌≤◌, ◌+◌, ◌++◌, vec_len, vec_capacity}
use Rattle.vx_rows.specs.Span.{span}
use Rattle.vx_rows.specs.TextsBehind.{end_from}
use Rattle.vx_rows.proofs.text_places.push_narrow_ends.Given as goal

-- the ends so far, and room for the others
abbrev pub invariant-loop-row : goal.invariant-loop-row
invariant-loop-row l =
    (l.narrow.items ≡ l.fn.narrow.items ++ span (end_from l.places l.start) 0 l.row) × (vec_len l.narrow + l.rows ≤ vec_capacity l.narrow + l.row) × (l.row ≤ l.rows)

abbrev pub invariant-loop-row-2 : goal.invariant-loop-row-2
invariant-loop-row-2 l =
    (l.narrow.items ≡ l.fn.narrow.items ++ span (end_from l.places l.start) 0 l.row) × (vec_len l.narrow + l.rows ≤ vec_capacity l.narrow + l.row) × (l.row ≤ l.rows)
