use Rattle.std.proofs.Common.{◌≡◌, ◌++◌, ◌+◌, ◌≤◌, ◌<◌, ◌^◌, [], map, drop, take, length}
use Rattle.std.specs.Prelude.{nat_le}
use Rattle.std.specs.List.{list_all}
use Rattle.vx_footer.specs.Serializing.{values_view}
use Rattle.vx_write.specs.Options.{keys_of}
use Rattle.vx_write.proofs.options.have_short_keys.Given as goal

abbrev pub invariant-loop-value : goal.invariant-loop-value
invariant-loop-value l = list_all (λ k. nat_le (length k) l.most) (keys_of (values_view (drop l.value-index l.values))) ≡ list_all (λ k. nat_le (length k) l.most) (keys_of (values_view l.values))
