use Rattle.std.proofs.Common.{◌≡◌}
use Rattle.std.specs.List.{All}
use Rattle.vx_prune.proofs.kept_answers.slots_of.Given as goal

abbrev pub invariant-loop-slot : goal.invariant-loop-slot
invariant-loop-slot l = All (λ slot. slot.tag ≡ l.tag.numbers) l.slots.items
