use Rattle.std.proofs.Common.{◌≡◌}
use Rattle.vx_footer.specs.Serializing.{values_view}
use Rattle.vx_write.specs.Options.{with_values}
use Rattle.vx_write.proofs.options.put_all.Given as goal

-- the values so far, and those still to come
abbrev pub invariant-loop-value : goal.invariant-loop-value
invariant-loop-value l = with_values (values_view l.values.items) (values_view l.value-iterator.rest.items) ≡ with_values (values_view l.fn.values.items) (values_view l.fn.more.items)
