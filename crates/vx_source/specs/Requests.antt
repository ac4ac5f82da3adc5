-- What a session keeps of its requests and their reads, and what a block files.
use Rattle.std.specs.Prelude.{ℕ, Bool, Option, Some, None}
use Rattle.vx_base.specs.Buffer.{Buffer}
use Rattle.vx_source.specs.declared.request.Fate.{Fate}
use Rattle.vx_source.specs.declared.request.Fate.TheVariants as fate
use Rattle.vx_source.specs.declared.request.Place.{Place}
use Rattle.vx_source.specs.declared.request.Place.TheVariants as place
use Rattle.vx_source.specs.declared.span.SpanOutcome.{SpanOutcome}
use Rattle.vx_source.specs.declared.span.SpanOutcome.TheVariants.{Good, Bad}

-- where a request stands: its bytes are at hand, it shares a read, or it ended
pub data Standing : Type 0 where
  Held : Buffer → Standing
  Reads : ℕ → Standing
  Ended : Standing

-- a request for a segment
pub record Request : Type 0 where
  pub segment : ℕ
  pub standing : Standing

-- a read: how many live requests share it, whether one of them was polled, how its span was read, and its bytes while
-- a request may want them
pub record SharedRead : Type 0 where
  pub users : ℕ
  pub polled : Bool
  pub outcome : Option SpanOutcome
  pub bytes : Option Buffer

-- what a span gives one of its reads: how the span was read, and the read's bytes
pub record Filed : Type 0 where
  pub read : ℕ
  pub outcome : SpanOutcome
  pub bytes : Option Buffer

-- ---- how they are kept

abbrev pub standing_in : Place → Standing
standing_in (place.Held buffer) = Held buffer.value
standing_in (place.Reads r) = Reads r
standing_in place.Ended = Ended

abbrev pub outcome_in : Fate → Option SpanOutcome
outcome_in fate.Waits = None
outcome_in (fate.Good buffer) = Some Good
outcome_in fate.Spent = Some Good
outcome_in (fate.Bad fault) = Some (Bad fault)

abbrev pub bytes_in : Fate → Option Buffer
bytes_in fate.Waits = None
bytes_in (fate.Good buffer) = Some buffer
bytes_in fate.Spent = None
bytes_in (fate.Bad fault) = None
