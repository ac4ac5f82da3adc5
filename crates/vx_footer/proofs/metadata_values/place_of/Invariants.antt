use Rattle.std.proofs.Common.{◌≡◌, ◌++◌, take, drop}
use Rattle.vx_base.specs.Buffer.{Buffer}
use Rattle.vx_footer.specs.Serializing.{put_value, values_view}
use Rattle.vx_footer.proofs.metadata_values.place_of.Given as goal

-- it comes behind those so far
abbrev pub invariant-loop-at : goal.invariant-loop-at
invariant-loop-at l = (b : Buffer) → values_view (take l.at l.sorted) ++ put_value (l.key, b) (values_view (drop l.at l.sorted)) ≡ put_value (l.key, b) (values_view l.sorted)
