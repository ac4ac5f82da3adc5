-- What a reader is asked for spans.
use Rattle.std.specs.Prelude.{◌≡◌, ℕ, ◌+◌, ◌-◌, ◌++◌, List, [], ◌∷◌, map, Option, Some, None}
use Rattle.std.specs.Option.{option_map}
use Rattle.vx_base.specs.Asking.{Log}
use Rattle.vx_base.specs.declared.answer.Asked.{Asked}
use Rattle.vx_base.specs.declared.answer.ReadAtRequest.{ReadAtRequest}
use Rattle.vx_base.specs.declared.fault.FaultKind.{FaultKind}
use Rattle.vx_source.specs.declared.span.Span.{Span}
use Rattle.vx_source.specs.declared.span.SpanOutcome.{SpanOutcome}
use Rattle.vx_source.specs.declared.span.SpanOutcome.TheVariants.{Good, Bad}

-- the log grew by these ranges, each with its mark
abbrev pub Grew : Log → Option Log → Option Log → Type 0
Grew gained before now = now ≡ option_map (λ l. l ++ gained) before

abbrev pub mark_of : SpanOutcome → Option FaultKind
mark_of Good = None
mark_of (Bad fault) = Some fault.kind

-- a span is asked as its range, with its alignment
abbrev pub span_range : Span → ReadAtRequest
span_range span = record { offset = span.start; length = span.end - span.start; alignment = span.alignment }

abbrev pub span_asked : Span → Asked
span_asked span = record { range = span_range span; mark = mark_of span.outcome }

-- what spans ask
abbrev pub asked_by : List Span → Log
asked_by spans = map span_asked spans

abbrev pub is_bad_span : SpanOutcome → ℕ
is_bad_span Good = 0
is_bad_span (Bad fault) = 1

-- how many spans failed
abbrev pub bad_spans : List Span → ℕ
bad_spans [] = 0
bad_spans (span ∷ spans) = is_bad_span span.outcome + bad_spans spans
