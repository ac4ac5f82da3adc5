-- What a sink took of some bytes, counted, and why a writer was refused.
use Rattle.std.specs.Prelude.{◌≡◌, ℕ, ◌+◌, ◌≤◌, ◌++◌, true, List, length, take, Option, Result, Ok, Err, IsOk}
use Rattle.vx_base.specs.Counts.{Rises}
use Rattle.vx_base.specs.Streams.{SinkState, SameSink, Took}
use Rattle.vx_footer.specs.declared.write_error.WriteError.{WriteError}
use Rattle.vx_footer.specs.declared.write_error.WriteError.TheVariants.{WriteFault, OutOfMemory}

-- all of the bytes were taken, and counted
pub record TookAll (bytes : List ℕ) (before now : Option (List ℕ)) (old new : ℕ) : Type 0 where
  pub took : Took bytes before now
  pub counted : new ≡ old + length bytes

-- the first ones of the bytes were taken, and counted
pub record TookPart (bytes : List ℕ) (before now : Option (List ℕ)) (old new : ℕ) : Type 0 where
  pub count : ℕ
  pub inside : count ≤ length bytes
  pub took : Took (take count bytes) before now
  pub counted : new ≡ old + count

-- the bytes before the rest were taken, and counted
pub record Sent (all rest : List ℕ) (before now : Option (List ℕ)) (old new : ℕ) : Type 0 where
  pub front : List ℕ
  pub split : all ≡ front ++ rest
  pub took : TookAll front before now old new

-- a fault is one of the sink, and a sink that never fails has none
pub record SinkCause {A : Type 0} (before now : SinkState) (result : Result A WriteError) : Type 0 where
  pub same : SameSink before now
  pub fault : result ≡ Err WriteFault → Rises 1 before.faults now.faults
  pub sound : before.never_fails ≡ true → (result ≡ Err WriteFault → ⊥) × (now.faults ≡ before.faults)

-- no check refuses where a function answers; a refusal that is neither a fault of the sink nor want of memory is that of the checks
abbrev pub Checked : {A B : Type 0} → Result A WriteError → Result B WriteError → Type 0
Checked (Ok x) checks = IsOk checks
Checked (Err e) checks = (e ≡ WriteFault → ⊥) → (e ≡ OutOfMemory → ⊥) → checks ≡ Err e
