use Rattle.std.proofs.Common.{◌≡◌, ◌+◌, ◌≤◌, length}
use Rattle.vx_rows.specs.ReadRows.{rows_behind, lines_of}
use Rattle.vx_rows.specs.Builders.{builder_view}
use Rattle.vx_rows.proofs.row_reading.read_lines.Given as goal

-- the rows so far and those still to come; each line has a byte at least
abbrev pub invariant-loop-rest : goal.invariant-loop-rest
invariant-loop-rest l =
    (rows_behind (builder_view l.builder) l.number (lines_of l.rest) ≡ rows_behind (builder_view l.fn.builder) 0 (lines_of l.fn.text))
    × (l.number + length l.rest ≤ length l.fn.text)

abbrev pub decreases-loop-rest : goal.decreases-loop-rest
decreases-loop-rest l = length l.rest
