-- No call changes a session's settings, and a register makes at most one number.
use Rattle.std.proofs.Common.{◌≡◌, ℕ, ◌+◌, ◌≤◌, ◌++◌, Bool, true, false, List, [], ◌∷◌, length, Option, Some, None, refl, arith}
use Rattle.std.specs.Prelude.{slice_get}
use Rattle.vx_base.specs.Buffer.{Buffer}
use Rattle.vx_base.specs.declared.segment.SegmentSpec.{SegmentSpec}
use Rattle.vx_source.specs.Kept.{Kept, ended, without_held, without_user, with_poll, after_good, after_outcome, after_read, after_standing, after_found, after_poll, standing_at, drop_standing, after_drop, joinable_at, with_registered, with_found, after_look}
use Rattle.vx_source.specs.declared.look.Look.{Look}
use Rattle.vx_source.specs.declared.look.Look.TheVariants.{Missing, InTail, InCache, CacheFailed, Nowhere}
use Rattle.vx_source.specs.Requests.{Request, SharedRead, Standing, Held, Reads, Ended}
use Rattle.vx_source.specs.declared.span.SpanOutcome.{SpanOutcome}
use Rattle.vx_source.specs.declared.span.SpanOutcome.TheVariants.{Good, Bad}
use Rattle.vx_source.proofs.SlotLemmas.{length-update}

-- a poll and a drop keep the settings, and make no number
pub record Keeps (k now : Kept) : Type 0 where
  pub idle : now.idle ≡ k.idle
  pub made : length now.requests ≡ length k.requests

same : (k : Kept) → Keeps k k
same k = record { idle = refl; made = refl }

held-keeps : (k : Kept) (n : ℕ) → Keeps k (without_held k n)
held-keeps k n = record { idle = refl; made = length-update ended k.requests n }

user-keeps : (k : Kept) (n r : ℕ) → Keeps k (without_user k n r)
user-keeps k n r = record { idle = refl; made = length-update ended k.requests n }

poll-marks : (k : Kept) (r : ℕ) (polled : Bool) → Keeps k (with_poll k r polled)
poll-marks k r true = same k
poll-marks k r false = record { idle = refl; made = refl }

good-keeps : (k : Kept) (n r : ℕ) (bytes : Option Buffer) → Keeps k (after_good k n r bytes)
good-keeps k n r None = same k
good-keeps k n r (Some buffer) = user-keeps k n r

outcome-keeps : (k : Kept) (n r : ℕ) (x : SharedRead) (o : Option SpanOutcome) → Keeps k (after_outcome k n r x o)
outcome-keeps k n r x None = poll-marks k r x.polled
outcome-keeps k n r x (Some Good) = good-keeps k n r x.bytes
outcome-keeps k n r x (Some (Bad fault)) = user-keeps k n r

read-keeps : (k : Kept) (n r : ℕ) (x : Option SharedRead) → Keeps k (after_read k n r x)
read-keeps k n r None = same k
read-keeps k n r (Some x) = outcome-keeps k n r x x.outcome

standing-keeps : (k : Kept) (n : ℕ) (s : Standing) → Keeps k (after_standing k n s)
standing-keeps k n (Held buffer) = held-keeps k n
standing-keeps k n (Reads r) = read-keeps k n r (slice_get k.reads r)
standing-keeps k n Ended = same k

found-keeps : (k : Kept) (n : ℕ) (q : Option Request) → Keeps k (after_found k n q)
found-keeps k n None = same k
found-keeps k n (Some q) = standing-keeps k n q.standing

pub poll-keeps : (k : Kept) (n : ℕ) → Keeps k (after_poll k n)
poll-keeps k n = found-keeps k n (slice_get k.requests n)

dropped-keeps : (k : Kept) (n : ℕ) (s : Option (Option ℕ)) → Keeps k (drop_standing k n s)
dropped-keeps k n None = same k
dropped-keeps k n (Some None) = held-keeps k n
dropped-keeps k n (Some (Some r)) = user-keeps k n r

pub drop-keeps : (k : Kept) (n : ℕ) → Keeps k (after_drop k n)
drop-keeps k n = dropped-keeps k n (standing_at k.requests n)

-- a register keeps the settings, and makes at most one number
pub record Registered (k now : Kept) : Type 0 where
  pub idle : now.idle ≡ k.idle
  pub room : length now.requests ≤ length k.requests + 1

one-more : (xs : List Request) (x : Request) → length (xs ++ x ∷ []) ≤ length xs + 1
one-more [] x = omega arith
one-more (y ∷ xs) x = let h = one-more xs x in omega (arith, h)

registered : (k : Kept) (s : ℕ) (spec : SegmentSpec) (r : Option ℕ) → Registered k (with_registered k s spec r)
registered k s spec None = record { idle = refl; room = one-more k.requests (record { segment = s; standing = Reads (length k.requests) }) }
registered k s spec (Some r) = record { idle = refl; room = one-more k.requests (record { segment = s; standing = Reads r }) }

found : (k : Kept) (s : ℕ) (spec : Option SegmentSpec) → Registered k (with_found k s spec)
found k s None = record { idle = refl; room = omega arith }
found k s (Some spec) = registered k s spec (joinable_at k s)

pub look-registered : (k : Kept) (s : ℕ) (look : Look) → Registered k (after_look k s look)
look-registered k s Missing = record { idle = refl; room = omega arith }
look-registered k s (InTail buffer) = record { idle = refl; room = one-more k.requests (record { segment = s; standing = Held buffer }) }
look-registered k s (InCache buffer) = record { idle = refl; room = one-more k.requests (record { segment = s; standing = Held buffer }) }
look-registered k s CacheFailed = record { idle = refl; room = omega arith }
look-registered k s Nowhere = found k s (slice_get k.table s)
