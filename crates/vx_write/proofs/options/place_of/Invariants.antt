use Rattle.vx_footer.specs.Serializing.{values_view}
use Rattle.vx_write.proofs.OptionsLemmas.{NoneBefore}
use Rattle.vx_write.proofs.options.place_of.Given as goal

abbrev pub invariant-loop-at : goal.invariant-loop-at
invariant-loop-at l = NoneBefore l.at (values_view l.values) l.key
