use Rattle.std.proofs.Common.{◌≡◌, ◌++◌, drop, All}
use Rattle.vx_base.specs.Asking.{IsTrueTo}
use Rattle.vx_base.specs.Mischiefs.{turn}
use Rattle.vx_base.proofs.mem_answers.push_turn.Given as goal

abbrev pub invariant-loop-range : goal.invariant-loop-range
invariant-loop-range l = record {
  slices : All (IsTrueTo l.held.bytes) l.answers.items;
  value : l.answers.items ++ turn l.late l.held.bytes l.mischief l.at (drop l.range-index l.asked) ≡ l.initial.answers.items ++ turn l.late l.held.bytes l.mischief l.place l.asked;
}
