use Rattle.std.proofs.Common.{◌≡◌, ◌++◌, ◌-◌, ◌≤◌}
use Rattle.vx_file.specs.Loading.{numbers_from}
use Rattle.vx_file.proofs.metadata.numbers.Given as goal

-- the numbers in front stand there
abbrev pub invariant-loop-number : goal.invariant-loop-number
invariant-loop-number l = record {
  all : l.ids.items ++ numbers_from l.number (l.end - l.number) ≡ numbers_from l.first (l.end - l.first);
  inside : l.number ≤ l.end;
}
