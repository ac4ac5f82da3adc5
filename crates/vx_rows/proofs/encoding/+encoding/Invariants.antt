use Rattle.std.proofs.Common.{◌≡◌, ◌++◌, map, drop, true}
use Rattle.std.specs.Prelude.{string_bytes}
use Rattle.vx_rows.specs.Rows.{pairs_view}
use Rattle.vx_rows.specs.Encoded.{are_permitted, arrays_bytes}
use Rattle.vx_rows.proofs.encoding.+encoding.Given as goal

-- the bytes so far and those still to come, which are permitted
abbrev pub invariant-push_all-loop-at : goal.invariant-push_all-loop-at
invariant-push_all-loop-at l =
    (l.bytes.items ++ arrays_bytes (map string_bytes l.ids) (pairs_view (drop l.at l.columns)) ≡ l.fn.bytes.items ++ arrays_bytes (map string_bytes l.ids) (pairs_view l.columns))
    × (are_permitted (map string_bytes l.ids) (pairs_view (drop l.at l.columns)) ≡ true)
