use Rattle.std.proofs.Common.{◌≡◌, ◌+◌, map, drop}
use Rattle.std.specs.Prelude.{string_bytes}
use Rattle.vx_data.specs.LayoutWritten.{place_in}
use Rattle.vx_rows.proofs.encoding.place_of.Given as goal

-- the place among those still to come, behind those so far
abbrev pub invariant-loop-other : goal.invariant-loop-other
invariant-loop-other l =
    (l.place + place_in (map string_bytes (drop l.other-index l.ids)) l.id ≡ place_in (map string_bytes l.ids) l.id) × (l.place ≡ l.other-index)
