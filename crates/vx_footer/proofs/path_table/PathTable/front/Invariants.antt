use Rattle.std.proofs.Common.{◌≡◌, ◌≤◌, ◌<◌, length, take}
use Rattle.vx_footer.specs.Gathering.{path_at}
use Rattle.vx_footer.proofs.path_table.PathTable.front.Given as goal

abbrev pub decreases-loop-self : goal.decreases-loop-self
decreases-loop-self l = length (path_at l.self l.number)

-- a front of the path that is long enough
abbrev pub invariant-loop-self : goal.invariant-loop-self
invariant-loop-self l = record {
  inside : l.number < length l.self;
  long : l.count ≤ length (path_at l.self l.number);
  front : take l.count (path_at l.self l.number) ≡ take l.count (path_at l.self l.from);
}
