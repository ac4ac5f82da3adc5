-- What a history of deeds and replies says of its requests and their reads. A history is a list of moments, the
-- newest first, and each word is taken after all of them.
use Rattle.std.specs.Prelude.{ℕ, zero, suc, ◌+◌, ◌==◌, ◌&&◌, nat_le, Bool, true, false, not, List, [], ◌∷◌, Option, Some, None, is_none, unwrap_or, option_and_then, if◌then◌else◌}
use Rattle.std.specs.List.{list_any}
use Rattle.std.specs.Option.{option_map_or}
use Rattle.vx_source.specs.declared.reply.Reply.{Reply}
use Rattle.vx_source.specs.declared.reply.Reply.TheVariants.{Registered, Ready, Failed, Dropped, NotLive, Driven}
use Rattle.vx_source.specs.declared.span.Span.{Span}
use Rattle.vx_source.specs.declared.span.SpanOutcome.{SpanOutcome}
use Rattle.vx_source.specs.declared.span.SpanOutcome.TheVariants.{Good, Bad}

-- what a cache did when a register asked it: it gave the segment, it failed, or neither, as where it was not asked
pub data Got : Type 0 where
  gave : Got
  failing : Got
  neither : Got

-- what was done: a register of a segment, a poll and a drop of a number, a drive, and a drive that stopped for want
-- of memory
pub data Deed : Type 0 where
  registers : ℕ → Got → Deed
  polls : ℕ → Deed
  drops : ℕ → Deed
  drives : Deed
  stops : Deed

-- a deed and the reply to it
pub record Moment : Type 0 where
  pub deed : Deed
  pub reply : Reply

abbrev pub moment : Deed → Reply → Moment
moment deed reply = record { deed = deed; reply = reply }

-- ---- numbers: each register that was answered so has one, from 0

abbrev pub made_after : Reply → ℕ → ℕ
made_after (Registered number held) before = before + 1
made_after _ before = before

-- how many numbers were made
abbrev pub made : List Moment → ℕ
made [] = 0
made (m ∷ past) = made_after m.reply (made past)

-- whether a reply makes a number
abbrev pub makes : Reply → ℕ → Bool
makes (Registered number held) n = n == number
makes _ n = false

abbrev pub segment_in : Deed → Option ℕ
segment_in (registers segment got) = Some segment
segment_in _ = None

-- the segment that a number asks for
abbrev pub segment_of : List Moment → ℕ → Option ℕ
segment_of [] n = None
segment_of (m ∷ past) n = if makes m.reply n then segment_in m.deed else segment_of past n

abbrev pub is_held_in : Reply → Bool
is_held_in (Registered number held) = held
is_held_in _ = false

-- whether a number's bytes were at hand from its register on
abbrev pub is_held : List Moment → ℕ → Bool
is_held [] n = false
is_held (m ∷ past) n = if makes m.reply n then is_held_in m.reply else is_held past n

-- whether a reply ends a number: Ready or Failed to its poll, Dropped to its drop
abbrev pub ends : Deed → Reply → ℕ → Bool
ends (polls number) (Ready buffer) n = n == number
ends (polls number) (Failed cause) n = n == number
ends (drops number) Dropped n = n == number
ends _ _ n = false

-- whether a number is live: from its register until its end
abbrev pub is_live : List Moment → ℕ → Bool
is_live [] n = false
is_live (m ∷ past) n = if makes m.reply n then true else if ends m.deed m.reply n then false else is_live past n

-- ---- spans

abbrev pub spans_in : Reply → List Span
spans_in (Driven spans) = spans
spans_in _ = []

-- whether a number is among numbers
abbrev pub is_among : ℕ → List ℕ → Bool
is_among n ms = list_any (λ m. m == n) ms

abbrev pub first_of : Option SpanOutcome → Option SpanOutcome → Option SpanOutcome
first_of None other = other
first_of (Some outcome) other = Some outcome

abbrev pub outcome_by : Span → ℕ → Option SpanOutcome
outcome_by span r = if is_among r span.reads then Some span.outcome else None

abbrev pub outcome_after : List Span → ℕ → Option SpanOutcome → Option SpanOutcome
outcome_after [] r before = before
outcome_after (span ∷ spans) r before = outcome_after spans r (first_of before (outcome_by span r))

-- how the span that lists a read went, where one does
abbrev pub outcome_of : List Moment → ℕ → Option SpanOutcome
outcome_of [] r = None
outcome_of (m ∷ past) r = outcome_after (spans_in m.reply) r (outcome_of past r)

abbrev pub is_good : Option SpanOutcome → Bool
is_good (Some Good) = true
is_good _ = false

-- whether a read failed
abbrev pub is_bad : Option SpanOutcome → Bool
is_bad (Some (Bad fault)) = true
is_bad _ = false

-- ---- reads: a number that is not held shares the newest read of its segment where some live number has it and it
-- did not fail, and else begins a read, which bears the number

-- the read of each number, and the newest read of each segment
pub record Joins : Type 0 where
  pub read_of : ℕ → Option ℕ
  pub latest : ℕ → Option ℕ

abbrev pub is_that : ℕ → Option ℕ → Bool
is_that r read = option_map_or (λ q. q == r) read false

-- how many numbers below one pass a test
abbrev pub count_below : ℕ → (ℕ → Bool) → ℕ
count_below zero test = 0
count_below (suc n) test = count_below n test + (if test n then 1 else 0)

-- whether a number is live and has this read
abbrev pub uses : (ℕ → Bool) → (ℕ → Option ℕ) → ℕ → ℕ → Bool
uses live read r n = live n && is_that r (read n)

-- how many live numbers have a read
abbrev pub users_by : Joins → List Moment → ℕ → ℕ
users_by j past r = count_below (made past) (uses (is_live past) j.read_of r)

-- a read that a register may join
abbrev pub if_open : Joins → List Moment → ℕ → Option ℕ
if_open j past r = if nat_le 1 (users_by j past r) && not (is_bad (outcome_of past r)) then Some r else None

abbrev pub joinable_by : Joins → List Moment → ℕ → Option ℕ
joinable_by j past segment = option_and_then (if_open j past) (j.latest segment)

abbrev pub with_read : Joins → ℕ → ℕ → ℕ → Joins
with_read j segment n r = record {
  read_of = λ q. if q == n then Some r else j.read_of q;
  latest = λ t. if t == segment then Some r else j.latest t;
}

-- a held number has no read
abbrev pub without_read : Joins → ℕ → Joins
without_read j n = record j { read_of = λ q. if q == n then None else j.read_of q }

abbrev pub joins_at : Deed → Reply → List Moment → Joins → Joins
joins_at (registers segment got) (Registered n false) past j = with_read j segment n (unwrap_or (joinable_by j past segment) n)
joins_at (registers segment got) (Registered n true) past j = without_read j n
joins_at _ _ past j = j

abbrev pub joins : List Moment → Joins
joins [] = record { read_of = λ _. None; latest = λ _. None }
joins (m ∷ past) = joins_at m.deed m.reply past (joins past)

-- the read of a number that is not held
abbrev pub read_of : List Moment → ℕ → Option ℕ
read_of past n = (joins past).read_of n

-- the newest read of a segment
abbrev pub latest : List Moment → ℕ → Option ℕ
latest past segment = (joins past).latest segment

-- the read that a register of a segment joins, if there is one
abbrev pub joinable : List Moment → ℕ → Option ℕ
joinable past segment = joinable_by (joins past) past segment

-- how many live numbers have a read
abbrev pub users : List Moment → ℕ → ℕ
users past r = users_by (joins past) past r

abbrev pub polled_in : Deed → Reply → (ℕ → Option ℕ) → ℕ → Bool
polled_in (polls n) NotLive read_of r = false
polled_in (polls n) _ read_of r = is_that r (read_of n)
polled_in _ _ read_of r = false

-- whether a poll of a number with this read was answered other than NotLive
abbrev pub is_polled : List Moment → ℕ → Bool
is_polled [] r = false
is_polled (m ∷ past) r = if polled_in m.deed m.reply (read_of past) r then true else is_polled past r

-- a read waits while no span lists it and some number with it is live
abbrev pub waits : List Moment → ℕ → Bool
waits past r = is_none (outcome_of past r) && nat_le 1 (users past r)

-- a polled read that waits
abbrev pub is_due : List Moment → ℕ → Bool
is_due past r = is_polled past r && waits past r

-- whether the read of a number waits
abbrev pub waits_at : List Moment → ℕ → Bool
waits_at past n = option_map_or (waits past) (read_of past n) false

-- how the read of a number went
abbrev pub outcome_at : List Moment → ℕ → Option SpanOutcome
outcome_at past n = option_and_then (outcome_of past) (read_of past n)
