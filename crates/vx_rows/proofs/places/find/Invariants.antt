use Rattle.std.proofs.Common.{◌≡◌, drop}
use Rattle.vx_data.specs.Dtype.{pairs_view}
use Rattle.vx_rows.specs.Binding.{place_from}
use Rattle.vx_rows.proofs.places.find.Given as goal

abbrev pub invariant-loop-at : goal.invariant-loop-at
invariant-loop-at l = place_from l.at l.name (pairs_view (drop l.at l.fields)) ≡ place_from 0 l.name (pairs_view l.fields)
