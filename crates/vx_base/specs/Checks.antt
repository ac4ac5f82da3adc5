-- Checks in order: the first that fails names the refusal.
use Rattle.std.specs.Prelude.{◌≡◌, Bool, Option, Some, None, Result, Ok, Err, if◌then◌else◌}

-- what comes after a check, which is looked at only where the check passes
infixl 10 ◌>>=◌
abbrev pub ◌>>=◌ : {A B E : Type 0} → Result A E → (A → Result B E) → Result B E
(Ok x) >>= f = f x
(Err e) >>= f = Err e

-- a named check: this refusal, unless the condition holds
infixl 20 ◌unless◌
abbrev pub ◌unless◌ : {E : Type 0} → E → Bool → Result (Unit {0}) E
e unless condition = if condition then Ok tt else Err e

-- a value that a check gives: this refusal, where there is none
infixl 20 ◌lacking◌
abbrev pub ◌lacking◌ : {A E : Type 0} → E → Option A → Result A E
e lacking None = Err e
e lacking (Some x) = Ok x

-- what a function returned, seen by a view, is what a definition gives; `fails` says what an error tells
abbrev pub Gives : {X A E : Type 0} → (E → Result A E → Type 0) → (X → A) → Result X E → Result A E → Type 0
Gives fails view (Ok x) answer = answer ≡ Ok (view x)
Gives fails view (Err e) answer = fails e answer
