use Rattle.std.proofs.Common.{◌≡◌, []}
use Rattle.vx_footer.specs.Serializing.{put_values, values_view}
use Rattle.vx_footer.proofs.metadata_values.sorted.Given as goal

-- the values so far, and those still to come
abbrev pub invariant-loop-value : goal.invariant-loop-value
invariant-loop-value l = put_values (values_view l.sorted.items) (values_view l.value-iterator.rest.items) ≡ put_values [] (values_view l.fn.values.items)
