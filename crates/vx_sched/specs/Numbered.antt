-- Values by number, in slots in the order of the numbers. A slot without a value is that of a number whose value was taken away.
use Rattle.std.specs.Prelude.{◌≡◌, ℕ, ◌+◌, ◌<◌, ◌≤◌, length, slice_get, List, [], ◌∷◌, Option, Some, None, is_some, Bool}
use Rattle.vx_sched.specs.declared.numbered.Slot.{Slot}

abbrev pub with_value : {V : Type 0} → ℕ → Option V → List (ℕ × V) → List (ℕ × V)
with_value number None rest = rest
with_value number (Some value) rest = (number, value) ∷ rest

-- the values that slots hold, by number
abbrev pub held : {V : Type 0} → List (Slot V) → List (ℕ × V)
held [] = []
held (slot ∷ slots) = with_value slot.number slot.value (held slots)

-- the numbers rise, from one at or above this
abbrev pub RiseFrom : {V : Type 0} → ℕ → List (Slot V) → Type 0
RiseFrom from [] = Unit {0}
RiseFrom from (slot ∷ slots) = (from ≤ slot.number) × RiseFrom (slot.number + 1) slots

-- whether a slot has a value
abbrev pub is_full : {V : Type 0} → Slot V → Bool
is_full slot = is_some slot.value

-- a number has no slot, and would stand at this place
pub record IsGap {V : Type 0} (slots : List (Slot V)) (number at : ℕ) : Type 0 where
  pub within : at ≤ length slots
  pub below : (i : ℕ) (x : Slot V) → slice_get slots i ≡ Some x → i < at → x.number < number
  pub above : (i : ℕ) (x : Slot V) → slice_get slots i ≡ Some x → at ≤ i → number < x.number

-- the slot of a number stands at this place
pub record IsSlot {V : Type 0} (slots : List (Slot V)) (number at : ℕ) : Type 0 where
  pub slot : Slot V
  pub there : slice_get slots at ≡ Some slot
  pub number_is : slot.number ≡ number
