-- What an opener tells, and what its calls answer and leave.
use Rattle.std.specs.Prelude.{◌≡◌, ℕ, ◌+◌, ◌≤◌, min, ◌++◌, ◌∷◌, ◌⊎◌, Bool, true, List, [], Option, Some, Result, Err, IfOk, OnOk, OnErr}
use Rattle.std.specs.Option.{option_map}
use Rattle.std.proofs.Common.{◌∙◌, refl, arith}
use Rattle.vx_base.specs.Asking.{Log}
use Rattle.vx_base.specs.Counts.{Rises, last_count}
use Rattle.vx_base.specs.Readers.{ReaderState, ReaderSettings, settings_of}
use Rattle.vx_base.specs.declared.fault.OpenerError.{OpenerError}
use Rattle.vx_base.specs.declared.fault.OpenerError.TheVariants as opener_error

-- a reader that was taken back: the name that it was opened by, and its log
pub record Returned : Type 0 where
  pub name : List ℕ
  pub log : Option Log

-- An opener: what each name holds, where that is told; the settings of each name's readers; whether a name never
-- fails to open, and its readers never fail; the names that were asked for and the readers that were taken back, in
-- order, where they are told; how many names failed to open; how many faults the readers taken back had; how many of
-- its calls found no memory.
pub record OpenerState : Type 0 where
  pub file : List ℕ → Option (List ℕ)
  pub settings : List ℕ → ReaderSettings
  pub never_fails : List ℕ → Bool
  pub asked : Option (List (List ℕ))
  pub returned : Option (List Returned)
  pub faults : ℕ
  pub read_faults : ℕ
  pub memory_faults : ℕ

-- no call changes what the names hold and their readers' settings, and no count falls
pub record SameOpener (before now : OpenerState) : Type 0 where
  pub file : now.file ≡ before.file
  pub settings : now.settings ≡ before.settings
  pub never_fails : now.never_fails ≡ before.never_fails
  pub never_falls : before.faults ≤ now.faults
  pub read_never_falls : before.read_faults ≤ now.read_faults
  pub memory_never_falls : before.memory_faults ≤ now.memory_faults

pub same_opener : (a : OpenerState) → SameOpener a a
same_opener a =
    record {
      file = refl;
      settings = refl;
      never_fails = refl;
      never_falls = omega arith;
      read_never_falls = omega arith;
      memory_never_falls = omega arith;
    }

pub same_opener-then : (a b c : OpenerState) → SameOpener a b → SameOpener b c → SameOpener a c
same_opener-then a b c h k = record {
  file = k.file ∙ h.file;
  settings = k.settings ∙ h.settings;
  never_fails = k.never_fails ∙ h.never_fails;
  never_falls = omega (arith, h.never_falls, k.never_falls);
  read_never_falls = omega (arith, h.read_never_falls, k.read_never_falls);
  memory_never_falls = omega (arith, h.memory_never_falls, k.memory_never_falls);
}

-- the name was asked for, once
abbrev pub AsksFor : List ℕ → OpenerState → OpenerState → Type 0
AsksFor name before now = now.asked ≡ option_map (λ names. names ++ name ∷ []) before.asked

-- a reader of what the name holds, with the name's settings, which was asked nothing and has no faults
pub record IsOpened (name : List ℕ) (opener : OpenerState) (reader : ReaderState) : Type 0 where
  pub told : (b : List ℕ) → opener.file name ≡ Some b → reader.bytes ≡ Some b
  pub settings : settings_of reader ≡ opener.settings name
  pub fresh : (l : List Returned) → opener.returned ≡ Some l → reader.log ≡ Some []
  pub faultless : reader.faults ≡ 0
  pub sound : opener.never_fails name ≡ true → reader.never_fails ≡ true

-- a reader of a name, or a fault; without memory the name was asked for or not
pub record OpenCause {R : Type 0} (state : R → ReaderState) (name : List ℕ) (before now : OpenerState) (result : Result R OpenerError) : Type 0 where
  pub opened : IfOk result (λ r. IsOpened name before (state r))
  pub asked : OnOk result (AsksFor name before now)
  pub failed : result ≡ Err opener_error.Failed → AsksFor name before now × Rises 1 before.faults now.faults
  pub memory : result ≡ Err opener_error.OutOfMemory → (AsksFor name before now ⊎ (now.asked ≡ before.asked)) × Rises 1 before.memory_faults now.memory_faults
  pub sound : before.never_fails name ≡ true → (result ≡ Err opener_error.Failed → ⊥) × (now.faults ≡ before.faults)
  pub returned : now.returned ≡ before.returned
  pub read_faults : now.read_faults ≡ before.read_faults

-- a reader was taken back with its log, and its faults are counted; without memory it is counted alone
pub record ReturnCause {E : Type 0} (name : List ℕ) (reader : ReaderState) (before now : OpenerState) (result : Result (Unit {0}) E) : Type 0 where
  pub returned : OnOk result (now.returned ≡ option_map (λ all. all ++ record { name = name; log = reader.log } ∷ []) before.returned)
  pub kept : OnErr result (now.returned ≡ before.returned)
  pub memory : OnErr result (Rises 1 before.memory_faults now.memory_faults)
  pub counted : now.read_faults ≡ min (before.read_faults + reader.faults) last_count
  pub asked : now.asked ≡ before.asked
  pub faults : now.faults ≡ before.faults
