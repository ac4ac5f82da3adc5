-- What serving a script from a file in memory gives.
use Rattle.std.specs.Prelude.{◌≡◌, ℕ, false, List, None, Result, Ok, Err}
use Rattle.vx_base.specs.Caches.{nothing_held}
use Rattle.vx_base.specs.Memory.{plain_settings}
use Rattle.vx_footer.specs.Opening.{vx_grammar}
use Rattle.vx_file.specs.declared.step.Step.{Step}
use Rattle.vx_file.specs.declared.served.Served.{Served}
use Rattle.vx_file.specs.declared.served.ServeError.{ServeError}
use Rattle.vx_file.specs.declared.served.ServeError.TheVariants as errors
use Rattle.vx_file.specs.Hints.{no_hints}
use Rattle.vx_file.specs.Scripts.{bad_replies}
use Rattle.vx_file.specs.Plans.{plan_of}
use Rattle.vx_file.specs.Serving.{Serves}

-- A script was served from a file in memory, no read of which fails: the footer is that of the grammar, a history
-- answers the script, one reply for each step, without a cache and without the metadata, and no span is bad.
pub record ServedWhole (file : List ℕ) (script : List Step) (s : Served) : Type 0 where
  pub footer : vx_grammar file None ≡ Ok s.footer.content
  pub serves : Serves (plan_of no_hints file) false file script plain_settings nothing_held nothing_held s
  pub good : bad_replies s.replies ≡ 0

-- a file in memory is served where it is in the grammar, and else refused by the name of the check that it fails,
-- or memory runs out
abbrev pub ServesMemory : List ℕ → List Step → Result Served ServeError → Type 0
ServesMemory file script (Ok s) = ServedWhole file script s
ServesMemory file script (Err (errors.Open e)) = vx_grammar file None ≡ Err e
ServesMemory file script (Err (errors.Fault fault)) = ⊥
ServesMemory file script (Err errors.CacheFault) = ⊥
ServesMemory file script (Err errors.OutOfMemory) = Unit {0}
