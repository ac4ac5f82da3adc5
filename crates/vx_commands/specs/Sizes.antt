-- What opening the file of a name without a step gives.
use Rattle.std.specs.Prelude.{[], Result, List, ℕ}
use Rattle.vx_base.specs.Caches.{nothing_held}
use Rattle.vx_base.specs.Openers.{OpenerState}
use Rattle.vx_file.specs.Hints.{Hints}
use Rattle.vx_file.specs.declared.served.Served.{Served}
use Rattle.vx_commands.specs.declared.failure.Failure.{Failure}
use Rattle.vx_commands.specs.Reading.{plain_reading, settings_by}
use Rattle.vx_commands.specs.Served.{FileCause}

-- the file of a name was opened, and served no step
abbrev pub OpensFile : Hints → List ℕ → OpenerState → OpenerState → Result Served Failure → Type 0
OpensFile hints name before now answer = FileCause hints (settings_by plain_reading) nothing_held name [] before now answer
