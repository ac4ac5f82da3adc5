-- The steps that are left to be taken.
use Rattle.std.specs.Prelude.{List}
use Rattle.vx_file.specs.declared.script.Steps.{Steps}
use Rattle.vx_file.specs.declared.script.Steps.TheVariants.{Plain, Compact}
use Rattle.vx_file.specs.declared.step.Step.{Step}

-- the steps that are left to be taken
abbrev pub steps_left : Steps → List Step
steps_left (Plain steps) = steps.now
steps_left (Compact steps) = steps
