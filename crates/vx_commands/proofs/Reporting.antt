-- A line that was reported.
use Rattle.std.proofs.Common.{ℕ, List, Result, Ok, Err, refl, ◌⊎◌, inl, inr}
use Rattle.vx_base.specs.Counts.{Rises}
use Rattle.vx_base.specs.Streams.{SinkState, RefusalCause}
use Rattle.vx_base.specs.declared.fault.SinkError.{SinkError}
use Rattle.vx_base.specs.declared.fault.SinkError.TheVariants as sink_error
use Rattle.vx_commands.specs.Performs.{Reports}
use Rattle.vx_text.specs.Text.{Writes}

error-reported : (e : SinkError) (before now : SinkState) → RefusalCause {A = Unit {0}} before now (Err e) → Rises 1 before.faults now.faults ⊎ Rises 1 before.memory_faults now.memory_faults
error-reported sink_error.Failed before now h = inl (h.failed refl)
error-reported sink_error.OutOfMemory before now h = inr (h.memory refl)

pub reports : (text : List ℕ) (before now : SinkState) (result : Result (Unit {0}) SinkError) → Writes text before now result → Reports text before now
reports text before now (Ok u) h = inl h.written.took
reports text before now (Err e) h = inr (h.written.prefix, error-reported e before now h.written.refused)
