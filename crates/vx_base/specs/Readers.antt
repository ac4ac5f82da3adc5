-- What a reader tells, and what its calls answer and leave.
use Rattle.std.specs.Prelude.{◌≡◌, ℕ, ◌≤◌, ◌++◌, Bool, true, List, [], length, All, Option, Some, IsSome, Result, Err, IsOk, IfOk, OnErr, Vec}
use Rattle.std.specs.Global.{Global}
use Rattle.std.specs.Option.{option_map}
use Rattle.std.proofs.Common.{◌∙◌, refl, arith}
use Rattle.vx_base.specs.Asking.{Log, logged, faulted, GrewOrStayed, IsInside, IsTrueTo}
use Rattle.vx_base.specs.Buffer.{Buffer}
use Rattle.vx_base.specs.Counts.{Rises}
use Rattle.vx_base.specs.declared.answer.ReadAtRequest.{ReadAtRequest}
use Rattle.vx_base.specs.declared.answer.RangeAnswer.{RangeAnswer}
use Rattle.vx_base.specs.declared.fault.CloneError.{CloneError}
use Rattle.vx_base.specs.declared.fault.CloneError.TheVariants as clone_error
use Rattle.vx_base.specs.declared.fault.Failed.{Failed}

-- A reader: its bytes and the log of what it was asked, where they are told; its name; its settings, which
-- are the gap that its reads may bridge, the greatest read that they may make, and the most ranges of one
-- call; whether only ranges outside its bytes, which it then tells, fail; and its count of faults.
pub record ReaderState : Type 0 where
  pub bytes : Option (List ℕ)
  pub uri : Option (List ℕ)
  pub distance : Option ℕ
  pub max_read_size : Option ℕ
  pub concurrency : ℕ
  pub never_fails : Bool
  pub log : Option Log
  pub faults : ℕ

-- the settings of a reader
pub record ReaderSettings : Type 0 where
  pub distance : Option ℕ
  pub max_read_size : Option ℕ
  pub concurrency : ℕ

abbrev pub settings_of : ReaderState → ReaderSettings
settings_of r = record { distance = r.distance; max_read_size = r.max_read_size; concurrency = r.concurrency }

-- no call changes what a reader is, and its count of faults never falls
pub record SameReader (before now : ReaderState) : Type 0 where
  pub bytes : now.bytes ≡ before.bytes
  pub uri : now.uri ≡ before.uri
  pub distance : now.distance ≡ before.distance
  pub max_read_size : now.max_read_size ≡ before.max_read_size
  pub concurrency : now.concurrency ≡ before.concurrency
  pub never_fails : now.never_fails ≡ before.never_fails
  pub never_falls : before.faults ≤ now.faults

pub same_reader : (a : ReaderState) → SameReader a a
same_reader a = record { bytes = refl; uri = refl; distance = refl; max_read_size = refl; concurrency = refl; never_fails = refl; never_falls = omega arith }

pub same_reader-then : (a b c : ReaderState) → SameReader a b → SameReader b c → SameReader a c
same_reader-then a b c h k = record {
  bytes = k.bytes ∙ h.bytes;
  uri = k.uri ∙ h.uri;
  distance = k.distance ∙ h.distance;
  max_read_size = k.max_read_size ∙ h.max_read_size;
  concurrency = k.concurrency ∙ h.concurrency;
  never_fails = k.never_fails ∙ h.never_fails;
  never_falls = omega (arith, h.never_falls, k.never_falls);
}

-- the number of bytes, or a fault
pub record SizeCause (before now : ReaderState) (size : Result ℕ Failed) : Type 0 where
  pub told : IfOk size (λ n. (b : List ℕ) → before.bytes ≡ Some b → n ≡ length b)
  pub failed : OnErr size (Rises 1 before.faults now.faults)
  pub sound : before.never_fails ≡ true → IsOk size × (now.faults ≡ before.faults) × IsSome before.bytes
  pub log : now.log ≡ before.log

-- The answers to ranges: each that has as many bytes as it names has those of its range. The log gained the
-- ranges, each with the mark that its answer gives it; without memory it gained them with any marks, or
-- nothing. Each range that got no bytes of its length counts as a fault.
pub record RangesCause {E : Type 0} (ranges : List ReadAtRequest) (before now : ReaderState)
    (answers : Result (Vec (RangeAnswer Buffer) Global) E) : Type 0 where
  pub log : IfOk answers (λ all. now.log ≡ option_map (λ l. l ++ logged ranges all.items) before.log)
  pub memory : OnErr answers (GrewOrStayed ranges before.log now.log)
  pub rises : IfOk answers (λ all. Rises (faulted (logged ranges all.items)) before.faults now.faults)
  pub slices : IfOk answers (λ all. (b : List ℕ) → before.bytes ≡ Some b → All (IsTrueTo b) all.items)
  pub told : before.never_fails ≡ true → IsSome before.bytes
  pub sound : (b : List ℕ) → before.never_fails ≡ true → before.bytes ≡ Some b → All (IsInside b) ranges → now.faults ≡ before.faults
  pub complete : IfOk answers (λ all. (b : List ℕ) → before.never_fails ≡ true → before.bytes ≡ Some b → All (IsInside b) ranges →
      faulted (logged ranges all.items) ≡ 0)

-- a reader of the same bytes with the same settings, which was asked nothing and has no faults
pub record IsClone (before clone : ReaderState) : Type 0 where
  pub bytes : clone.bytes ≡ before.bytes
  pub uri : clone.uri ≡ before.uri
  pub distance : clone.distance ≡ before.distance
  pub max_read_size : clone.max_read_size ≡ before.max_read_size
  pub concurrency : clone.concurrency ≡ before.concurrency
  pub never_fails : before.never_fails ≡ true → clone.never_fails ≡ true
  pub log : clone.log ≡ option_map (λ _. []) before.log
  pub faults : clone.faults ≡ 0

-- a clone, or a fault
pub record CloneCause {R : Type 0} (state : R → ReaderState) (before now : ReaderState) (result : Result R CloneError) : Type 0 where
  pub clone : IfOk result (λ r. IsClone before (state r))
  pub failed : result ≡ Err clone_error.Failed → Rises 1 before.faults now.faults
  pub sound : before.never_fails ≡ true → (result ≡ Err clone_error.Failed → ⊥) × (now.faults ≡ before.faults)
  pub log : now.log ≡ before.log
