-- What streams of bytes tell, and what their calls answer and leave.
use Rattle.std.specs.Prelude.{◌≡◌, ℕ, ◌<◌, ◌≤◌, ◌++◌, Bool, true, List, [], length, take, drop, Option, Some, Result, Ok, Err, IsOk, IfOk, OnOk, OnErr}
use Rattle.std.specs.Option.{option_map}
use Rattle.std.proofs.Common.{◌∙◌, arith}
use Rattle.vx_base.specs.Counts.{Rises}
use Rattle.vx_base.specs.declared.fault.Failed.{Failed}
use Rattle.vx_base.specs.declared.fault.SinkError.{SinkError}
use Rattle.vx_base.specs.declared.fault.SinkError.TheVariants as sink_error

-- ---- sources

-- A source: the bytes still to come, where they are told; whether no read of it fails; its count of faults.
pub record SourceState : Type 0 where
  pub rest : Option (List ℕ)
  pub never_fails : Bool
  pub faults : ℕ

pub record SameSource (before now : SourceState) : Type 0 where
  pub never_fails : now.never_fails ≡ before.never_fails
  pub never_falls : before.faults ≤ now.faults

pub same_source-then : (a b c : SourceState) → SameSource a b → SameSource b c → SameSource a c
same_source-then a b c h k = record { never_fails = k.never_fails ∙ h.never_fails; never_falls = omega (arith, h.never_falls, k.never_falls) }

-- the next bytes stand at the front of the buffer, and none for a buffer that is not empty is the end
pub record ReadCause (into into_now : List ℕ) (before now : SourceState) (count : Result ℕ Failed) : Type 0 where
  pub bound : IfOk count (λ n. n ≤ length into)
  pub told : IfOk count (λ n. (r : List ℕ) → before.rest ≡ Some r → (n ≤ length r) × (now.rest ≡ Some (drop n r)) × (take n into_now ≡ take n r))
  pub end : (r : List ℕ) → count ≡ Ok 0 → 0 < length into → before.rest ≡ Some r → r ≡ []
  pub kept : OnErr count (now.rest ≡ before.rest)
  pub failed : OnErr count (Rises 1 before.faults now.faults)
  pub sound : before.never_fails ≡ true → IsOk count × (now.faults ≡ before.faults)

-- ---- sinks

-- A sink: the bytes that it took, where they are told; whether all of them were flushed; whether no call of
-- it fails, though a write may still find no memory; its count of faults, and that of writes without memory.
pub record SinkState : Type 0 where
  pub gained : Option (List ℕ)
  pub is_flushed : Bool
  pub never_fails : Bool
  pub faults : ℕ
  pub memory_faults : ℕ

pub record SameSink (before now : SinkState) : Type 0 where
  pub never_fails : now.never_fails ≡ before.never_fails
  pub never_falls : before.faults ≤ now.faults
  pub memory_never_falls : before.memory_faults ≤ now.memory_faults

pub same_sink-then : (a b c : SinkState) → SameSink a b → SameSink b c → SameSink a c
same_sink-then a b c h k = record {
  never_fails = k.never_fails ∙ h.never_fails;
  never_falls = omega (arith, h.never_falls, k.never_falls);
  memory_never_falls = omega (arith, h.memory_never_falls, k.memory_never_falls);
}

-- the sink took these bytes
abbrev pub Took : List ℕ → Option (List ℕ) → Option (List ℕ) → Type 0
Took bytes before now = now ≡ option_map (λ g. g ++ bytes) before

-- the sink took a prefix of these bytes
pub record TookPrefix (bytes : List ℕ) (before now : Option (List ℕ)) : Type 0 where
  pub count : ℕ
  pub took : Took (take count bytes) before now

-- why a write is refused: its count rose, and a sink that never fails does not fail
pub record RefusalCause {A : Type 0} (before now : SinkState) (result : Result A SinkError) : Type 0 where
  pub failed : result ≡ Err sink_error.Failed → Rises 1 before.faults now.faults
  pub memory : result ≡ Err sink_error.OutOfMemory → Rises 1 before.memory_faults now.memory_faults
  pub sound : before.never_fails ≡ true → (result ≡ Err sink_error.Failed → ⊥) × (now.faults ≡ before.faults)

-- some bytes of the front of a piece were taken, at least one unless it is empty; none after an error
pub record WriteCause (piece : List ℕ) (before now : SinkState) (count : Result ℕ SinkError) : Type 0 where
  pub bound : IfOk count (λ n. n ≤ length piece)
  pub some : 0 < length piece → IfOk count (λ n. 0 < n)
  pub taken : IfOk count (λ n. Took (take n piece) before.gained now.gained)
  pub kept : OnErr count (now.gained ≡ before.gained)
  pub refused : RefusalCause before now count

-- what was taken is flushed
pub record FlushCause (before now : SinkState) (result : Result (Unit {0}) Failed) : Type 0 where
  pub kept : now.gained ≡ before.gained
  pub flushed : OnOk result (now.is_flushed ≡ true)
  pub failed : OnErr result (Rises 1 before.faults now.faults)
  pub sound : before.never_fails ≡ true → IsOk result × (now.faults ≡ before.faults)

-- all of the bytes were taken, or a prefix of them after an error
pub record WritesAll (bytes : List ℕ) (before now : SinkState) (result : Result (Unit {0}) SinkError) : Type 0 where
  pub took : OnOk result (Took bytes before.gained now.gained)
  pub prefix : OnErr result (TookPrefix bytes before.gained now.gained)
  pub refused : RefusalCause before now result
