-- What asking a block of spans gives, and how it is filed.
use Rattle.std.specs.Prelude.{◌≡◌, ℕ, ◌-◌, ◌++◌, true, List, [], ◌∷◌, map, length, All, Option, Some, None, Result, IfOk, OnErr}
use Rattle.vx_base.specs.Asking.{GrewOrStayed, IsInside}
use Rattle.vx_base.specs.Buffer.{Buffer, bytes_at}
use Rattle.vx_base.specs.Counts.{Rises}
use Rattle.vx_base.specs.Readers.{ReaderState}
use Rattle.vx_sched.specs.Io.{request_of}
use Rattle.vx_sched.specs.Metrics.{with_span, with_call}
use Rattle.vx_sched.specs.Outcomes.{AreOutcomesOf, HaveBytesOf}
use Rattle.vx_sched.specs.Scheduling.{settled}
use Rattle.vx_sched.specs.Span as sched
use Rattle.vx_sched.specs.declared.fault.Outcome.{Outcome}
use Rattle.vx_sched.specs.declared.fault.Outcome.TheVariants as out
use Rattle.vx_sched.specs.declared.metrics.RequestMetrics.{RequestMetrics}
use Rattle.vx_sched.specs.declared.request.ReadRequest.{ReadRequest}
use Rattle.vx_source.specs.Asks.{Grew, asked_by, bad_spans}
use Rattle.vx_source.specs.Kept.{Kept, update}
use Rattle.vx_source.specs.declared.filing.Block.{Block}
use Rattle.vx_source.specs.Requests.{Filed, SharedRead}
use Rattle.vx_source.specs.declared.span.Span.{Span}
use Rattle.vx_source.specs.declared.span.SpanOutcome.{SpanOutcome}
use Rattle.vx_source.specs.declared.span.SpanOutcome.TheVariants.{Good, Bad}

abbrev pub number_of : ReadRequest → ℕ
number_of r = r.id

-- a span of the scheduler as a drive reports it
abbrev pub reported : SpanOutcome → sched.Span → Span
reported outcome core = record {
  start = core.start;
  end = core.end;
  alignment = core.alignment;
  reads = map number_of core.reads;
  outcome = outcome;
}

-- how a span was read; that a range has no memory never happens here
abbrev pub span_outcome : Outcome → SpanOutcome
span_outcome (out.Bytes buffer) = Good
span_outcome (out.Fault fault) = Bad fault
span_outcome out.NoMemory = Good

abbrev pub reports_of : List sched.Span → List Outcome → List Span
reports_of [] outcomes = []
reports_of (core ∷ rest) [] = []
reports_of (core ∷ rest) (o ∷ more) = reported (span_outcome o) core ∷ reports_of rest more

-- a read's bytes, cut from those of its span
abbrev pub cut_of : sched.Span → Buffer → ReadRequest → Buffer
cut_of core buffer r = record { bytes = bytes_at buffer.bytes (r.offset - core.start) r.length; alignment = r.alignment }

abbrev pub filed_good : sched.Span → Buffer → ReadRequest → Filed
filed_good core buffer r = record { read = r.id; outcome = Good; bytes = Some (cut_of core buffer r) }

abbrev pub filed_bad : SpanOutcome → ReadRequest → Filed
filed_bad outcome r = record { read = r.id; outcome = outcome; bytes = None }

-- what a span gives each of its reads
abbrev pub filed_by : sched.Span → Outcome → List Filed
filed_by core (out.Bytes buffer) = map (filed_good core buffer) core.reads
filed_by core (out.Fault fault) = map (filed_bad (Bad fault)) core.reads
filed_by core out.NoMemory = []

abbrev pub filed_of : List sched.Span → List Outcome → List Filed
filed_of [] outcomes = []
filed_of (core ∷ rest) [] = []
filed_of (core ∷ rest) (o ∷ more) = filed_by core o ++ filed_of rest more

-- ---- filing

abbrev pub file_into : Filed → SharedRead → Option SpanOutcome → SharedRead
file_into f x None = record x { outcome = Some f.outcome; bytes = f.bytes }
file_into f x (Some outcome) = x

-- a read with what its span gave, the first time
abbrev pub with_filed : Filed → SharedRead → SharedRead
with_filed f x = file_into f x x.outcome

abbrev pub file_reads : List SharedRead → List Filed → List SharedRead
file_reads reads [] = reads
file_reads reads (f ∷ rest) = file_reads (update (with_filed f) reads f.read) rest

-- the counts with spans of the scheduler
abbrev pub with_cores : List sched.Span → RequestMetrics → RequestMetrics
with_cores [] m = m
with_cores (core ∷ rest) m = with_cores rest (with_span (length core.reads) m)

-- what a block leaves
abbrev pub after_block : Kept → List sched.Span → List Outcome → Kept
after_block k cores outcomes = record k {
  core = settled k.core cores;
  reads = file_reads k.reads (filed_of cores outcomes);
  metrics = with_cores cores (with_call (length cores) k.metrics);
}

-- the outcomes of the ranges of spans
pub record HasOutcomes (cores : List sched.Span) (outcomes : List Outcome) (b : Block) : Type 0 where
  pub places : AreOutcomesOf (map request_of cores) outcomes
  pub reports : b.reports.items ≡ reports_of cores outcomes
  pub filed : b.filed.items ≡ filed_of cores outcomes

-- a reader was asked for a block of spans: its log gained their ranges with marks, and each bad span counts; without
-- memory the log gained the ranges, with any marks, or nothing
pub record AskedBlock {E : Type 0} (cores : List sched.Span) (before now : ReaderState) (block : Result Block E) : Type 0 where
  pub outcomes : IfOk block (λ b. (outcomes : List Outcome) × (HasOutcomes cores outcomes b
      × ((bytes : List ℕ) → before.bytes ≡ Some bytes → HaveBytesOf bytes (map request_of cores) outcomes)))
  pub log : IfOk block (λ b. Grew (asked_by b.reports.items) before.log now.log)
  pub rises : IfOk block (λ b. Rises (bad_spans b.reports.items) before.faults now.faults)
  pub memory : OnErr block (GrewOrStayed (map request_of cores) before.log now.log)
  pub sound : (bytes : List ℕ) → before.never_fails ≡ true → before.bytes ≡ Some bytes → All (IsInside bytes) (map request_of cores)
      → now.faults ≡ before.faults
  pub complete : IfOk block (λ b. (bytes : List ℕ) → before.never_fails ≡ true → before.bytes ≡ Some bytes → All (IsInside bytes) (map request_of cores) →
      bad_spans b.reports.items ≡ 0)
