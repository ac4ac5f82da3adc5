use Rattle.std.proofs.Common.{◌≡◌, ◌-◌}
use Rattle.vx_rows.specs.Span.{every}
use Rattle.vx_rows.specs.Arrays.{is_text}
use Rattle.vx_rows.proofs.text_reading.are_texts.Given as goal

abbrev pub invariant-loop-row : goal.invariant-loop-row
invariant-loop-row l = every (is_text l.bytes l.places) l.row (l.rows - l.row) ≡ every (is_text l.bytes l.places) 0 l.rows
