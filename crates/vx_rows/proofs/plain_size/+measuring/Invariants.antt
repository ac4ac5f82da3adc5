use Rattle.std.proofs.Common.{◌≡◌, ◌+◌, ◌-◌, ◌^◌, ◌<◌, min, drop}
use Rattle.vx_rows.specs.Rows.{pairs_view}
use Rattle.vx_rows.specs.Parts.{fields_plain_size}
use Rattle.vx_rows.proofs.plain_size.+measuring.Given as goal

-- the sizes so far and those still to come
abbrev pub invariant-size_of_all-loop-at : goal.invariant-size_of_all-loop-at
invariant-size_of_all-loop-at l =
    (min (l.size + fields_plain_size (pairs_view (drop l.at l.columns))) (2 ^ 64 - 1) ≡ min (fields_plain_size (pairs_view l.columns)) (2 ^ 64 - 1)) × (l.size < 2 ^ 64)
