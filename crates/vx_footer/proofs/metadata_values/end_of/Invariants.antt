use Rattle.std.proofs.Common.{◌≡◌, drop}
use Rattle.vx_footer.specs.Serializing.{values_view, values_end}
use Rattle.vx_footer.proofs.metadata_values.end_of.Given as goal

-- the values still to come
abbrev pub invariant-loop-at : goal.invariant-loop-at
invariant-loop-at l = values_end l.end (values_view (drop l.at l.values)) ≡ values_end l.offset (values_view l.values)
