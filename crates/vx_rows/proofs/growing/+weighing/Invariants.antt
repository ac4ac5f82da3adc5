use Rattle.std.proofs.Common.{◌≡◌, ◌+◌, ◌-◌, ◌^◌, ◌<◌, min, drop}
use Rattle.vx_rows.specs.Builders.{pairs_view}
use Rattle.vx_rows.specs.Parts.{field_parts, fields_plain_size}
use Rattle.vx_rows.proofs.growing.+weighing.Given as goal

-- the sizes so far and those still to come
abbrev pub invariant-size_of_all-loop-at : goal.invariant-size_of_all-loop-at
invariant-size_of_all-loop-at l =
    (min (l.size + fields_plain_size (field_parts l.from l.to (pairs_view (drop l.at l.builders)))) (2 ^ 64 - 1) ≡ min (fields_plain_size (field_parts l.from l.to (pairs_view l.builders))) (2 ^ 64 - 1))
    × (l.size < 2 ^ 64)
