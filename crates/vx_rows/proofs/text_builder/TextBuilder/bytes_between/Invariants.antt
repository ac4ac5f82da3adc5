use Rattle.std.proofs.Common.{◌≡◌, ◌+◌, ◌-◌, ◌^◌, ◌<◌, min, length}
use Rattle.std.specs.Prelude.{sum_by, slice_range}
use Rattle.vx_rows.specs.Written.{text_bytes}
use Rattle.vx_rows.proofs.text_builder.TextBuilder.bytes_between.Given as goal

-- the sizes so far and those still to come
abbrev pub invariant-loop-row : goal.invariant-loop-row
invariant-loop-row l =
    (min (l.size + sum_by (λ row. length (text_bytes row)) (slice_range l.self.rows l.row l.to)) (2 ^ 64 - 1) ≡ min (sum_by (λ row. length (text_bytes row)) (slice_range l.self.rows l.from l.to)) (2 ^ 64 - 1))
    × (l.size < 2 ^ 64)
