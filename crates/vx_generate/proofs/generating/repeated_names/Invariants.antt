use Rattle.std.proofs.Common.{◌≡◌, ◌-◌, ◌≤◌}
use Rattle.vx_generate.specs.Generated.{names, name_of}
use Rattle.vx_generate.proofs.GeneratedLemmas.{Again}
use Rattle.vx_generate.proofs.generating.repeated_names.Given as goal

abbrev pub decreases-loop-first : goal.decreases-loop-first
decreases-loop-first l = l.rows - l.first

-- the names of the rows in front are there, and those that follow come again
abbrev pub invariant-loop-first : goal.invariant-loop-first
invariant-loop-first l = record { inside : l.first ≤ l.rows; there : l.growing ≡ names l._seed l.first; again : Again (name_of l._seed) l.first l.rows }
