use Rattle.std.proofs.Common.{◌≡◌, map, drop}
use Rattle.std.specs.Prelude.{string_bytes}
use Rattle.vx_rows.specs.Rows.{pairs_view}
use Rattle.vx_rows.specs.Encoded.{are_permitted}
use Rattle.vx_rows.proofs.encoding.+permitting.Given as goal

abbrev pub invariant-are_permitted-loop-at : goal.invariant-are_permitted-loop-at
invariant-are_permitted-loop-at l = are_permitted (map string_bytes l.ids) (pairs_view (drop l.at l.columns)) ≡ are_permitted (map string_bytes l.ids) (pairs_view l.columns)
