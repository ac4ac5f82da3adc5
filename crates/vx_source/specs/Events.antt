-- The events of a history, as its scheduler sees them.
use Rattle.std.specs.Prelude.{ℕ, zero, suc, ◌-◌, nat_le, Bool, false, List, [], ◌∷◌, ◌++◌, map, length, Option, Some, None, slice_get, if◌then◌else◌}
use Rattle.std.specs.List.{flat_map}
use Rattle.vx_sched.specs.Metrics.{with_span, with_call}
use Rattle.vx_sched.specs.Span as sched
use Rattle.vx_sched.specs.declared.metrics.RequestMetrics.{RequestMetrics}
use Rattle.vx_sched.specs.declared.event.Event.{Event}
use Rattle.vx_sched.specs.declared.event.Event.TheVariants as event
use Rattle.vx_base.specs.declared.segment.SegmentSpec.{SegmentSpec}
use Rattle.vx_source.specs.History.{Deed, registers, polls, drops, drives, stops, Moment, spans_in, read_of, joinable, users, is_polled}
use Rattle.vx_source.specs.Fits.{World, read_request, core_span}
use Rattle.vx_source.specs.declared.reply.Reply.{Reply}
use Rattle.vx_source.specs.declared.reply.Reply.TheVariants.{Registered, Ready, Pending, Failed, Dropped, Driven}
use Rattle.vx_source.specs.declared.span.Span.{Span}

-- ---- blocks: the spans of a drive are asked so many at a time

abbrev pub add_first : {X : Type 0} → X → List (List X) → List (List X)
add_first x [] = (x ∷ []) ∷ []
add_first x (block ∷ rest) = (x ∷ block) ∷ rest

abbrev pub rest_of : {X : Type 0} → List X → List X
rest_of [] = []
rest_of (_ ∷ rest) = rest

-- the first block has room for so many, the others for `size`
abbrev pub cut : {X : Type 0} → ℕ → ℕ → List X → List (List X)
cut size room [] = [] ∷ []
cut size zero (x ∷ rest) = [] ∷ add_first x (cut size (size - 1) rest)
cut size (suc room) (x ∷ rest) = add_first x (cut size room rest)

-- a list in blocks of this size, the last one holding what is left
abbrev pub blocks : {X : Type 0} → ℕ → List X → List (List X)
blocks size xs = rest_of (cut size 0 xs)

-- a block is taken, and each of its spans is resolved
abbrev pub told_block : List sched.Span → List Event
told_block spans = event.Take spans ∷ map event.Resolve spans

-- the events of a drive, block by block
abbrev pub told_spans : World → List Moment → List Span → List Event
told_spans w past spans = flat_map (λ block. told_block (map (core_span w past) block)) (blocks w.idle.concurrency spans)

-- ---- counts

-- with spans that were asked
abbrev pub with_spans : List Span → RequestMetrics → RequestMetrics
with_spans [] m = m
with_spans (span ∷ rest) m = with_spans rest (with_span (length span.reads) m)

-- with blocks that were asked, one call each
abbrev pub with_blocks : List (List Span) → RequestMetrics → RequestMetrics
with_blocks [] m = m
with_blocks (block ∷ rest) m = with_blocks rest (with_spans block (with_call (length block) m))

-- with what a reply says that was asked
abbrev pub counted : ℕ → Reply → RequestMetrics → RequestMetrics
counted size reply m = with_blocks (blocks size (spans_in reply)) m

-- nothing was asked
abbrev pub no_metrics : RequestMetrics
no_metrics = record {
  individual_requests = 0;
  coalesced_requests = 0;
  num_requests_coalesced = 0;
  read_ranges_calls = 0;
  read_ranges_multi = 0;
  read_ranges_num_ranges = 0;
}

-- the counts of a history
abbrev pub metrics : World → List Moment → RequestMetrics
metrics w [] = no_metrics
metrics w (m ∷ past) = counted w.idle.concurrency m.reply (metrics w past)

-- ---- requests

-- a read begins
abbrev pub told_read : ℕ → Option SegmentSpec → List Event
told_read r None = []
told_read r (Some s) = event.Request (read_request r s) ∷ []

-- a register that joins no read begins one
abbrev pub told_register : Option ℕ → ℕ → Option SegmentSpec → List Event
told_register (Some r) number s = []
told_register None number s = told_read number s

-- the first poll of a read, by what was polled
abbrev pub told_poll : (ℕ → Bool) → Option ℕ → List Event
told_poll polled None = []
told_poll polled (Some r) = if polled r then [] else event.Polled r ∷ []

-- the end of the last live number of a read, by how many have it
abbrev pub told_end : (ℕ → ℕ) → Option ℕ → List Event
told_end users None = []
told_end users (Some r) = if nat_le (users r) 1 then event.Dropped r ∷ [] else []

-- the events of a deed and its reply
abbrev pub told : World → List Moment → Deed → Reply → List Event
told w past (registers s got) (Registered number false) = told_register (joinable past s) number (slice_get w.table s)
told w past (polls n) Pending = told_poll (is_polled past) (read_of past n)
told w past (polls n) (Ready buffer) = told_end (users past) (read_of past n)
told w past (polls n) (Failed cause) = told_end (users past) (read_of past n)
told w past (drops n) Dropped = told_end (users past) (read_of past n)
told w past drives (Driven spans) = told_spans w past spans
told w past stops (Driven spans) = told_spans w past spans
told w past _ _ = []

-- the events of a history, oldest first
abbrev pub events : World → List Moment → List Event
events w [] = []
events w (m ∷ past) = events w past ++ told w past m.deed m.reply
