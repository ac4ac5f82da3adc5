use Rattle.std.specs.Prelude.{◌≡◌, ◌++◌}
use Rattle.vx_rows.specs.Span.{span}
use Rattle.vx_rows.specs.TextsBehind.{end_from}
use Rattle.vx_rows.proofs.text_places.TextPlaces.push_ends.Given as goal

-- the ends so far
abbrev pub invariant-loop-row : goal.invariant-loop-row
invariant-loop-row l = l.self ≡ l.fn.self ++ span (end_from l.places l.start) 0 l.row
