use Rattle.std.proofs.Common.{◌≡◌, ◌-◌, length}
use Rattle.vx_prune.specs.PredicateWords.{names_in}
use Rattle.vx_prune.proofs.NameSteps.{names_before}
use Rattle.vx_prune.proofs.predicate_words.names.Given as goal

-- the names so far and those still to come
abbrev pub invariant-loop-name : goal.invariant-loop-name
invariant-loop-name l = names_before l.names.items (names_in (length l.text - l._name) l.left) ≡ names_in (length l.text) l.text
