-- How a script is kept in few bytes: a kind for each step, and the numbers that steps are made of in a list of their own.
use Rattle.std.specs.Prelude.{ℕ, ◌+◌, ◌*◌, List, [], ◌∷◌, take, drop}
use Rattle.vx_file.specs.declared.script.StepKind.{StepKind}
use Rattle.vx_file.specs.declared.script.StepKind.TheVariants as kinds
use Rattle.vx_file.specs.declared.step.Step.{Step}
use Rattle.vx_file.specs.declared.step.Step.TheVariants.{Register, Poll, Drop, Drive}

-- of how many numbers a step of a kind is made
abbrev pub number_count : StepKind → ℕ
number_count kinds.Register = 1
number_count kinds.Poll = 1
number_count kinds.LongPoll = 2
number_count kinds.Drop = 1
number_count kinds.LongDrop = 2
number_count kinds.Drive = 0

-- a step of a kind and its numbers; a long number is two of 32 bits
abbrev pub step_by : StepKind → List ℕ → Step
step_by kinds.Register (segment ∷ []) = Register segment
step_by kinds.Poll (number ∷ []) = Poll number
step_by kinds.LongPoll (high ∷ low ∷ []) = Poll (high * 4294967296 + low)
step_by kinds.Drop (number ∷ []) = Drop number
step_by kinds.LongDrop (high ∷ low ∷ []) = Drop (high * 4294967296 + low)
step_by kind numbers = Drive

-- the steps of some kinds, each with its part of the numbers
abbrev pub steps_by : List StepKind → List ℕ → List Step
steps_by [] numbers = []
steps_by (kind ∷ kinds) numbers = step_by kind (take (number_count kind) numbers) ∷ steps_by kinds (drop (number_count kind) numbers)

-- of how many numbers the steps of some kinds are made
abbrev pub numbers_of_kinds : List StepKind → ℕ
numbers_of_kinds [] = 0
numbers_of_kinds (kind ∷ kinds) = number_count kind + numbers_of_kinds kinds
