use Rattle.std.proofs.Common.{◌≡◌, ◌++◌}
use Rattle.vx_footer.specs.Serializing.{values_view, bytes_of, value_parts, values_end}
use Rattle.vx_footer.proofs.metadata_values.parts_of.Given as goal

-- the parts so far and those still to come, which end where all do
abbrev pub invariant-loop-value : goal.invariant-loop-value
invariant-loop-value l =
    (bytes_of l.parts.items ++ value_parts l.at (values_view l.value-iterator.rest.items) ≡ value_parts l.offset (values_view l.fn.values.items))
    × (values_end l.at (values_view l.value-iterator.rest.items) ≡ values_end l.offset (values_view l.fn.values.items))
