use Rattle.std.proofs.Common.{drop}
use Rattle.std.specs.List.{AllByRecursion}
use Rattle.vx_footer.specs.ReadAgain.{IsValue}
use Rattle.vx_footer.specs.Serializing.{values_view}
use Rattle.vx_write.proofs.options.are_values.Given as goal

-- all values are, where those still to come are
abbrev pub invariant-loop-at : goal.invariant-loop-at
invariant-loop-at l = AllByRecursion IsValue (values_view (drop l.at l.values)) → AllByRecursion IsValue (values_view l.values)
