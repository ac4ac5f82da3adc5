-- The text of what was served.
use Rattle.std.specs.Prelude.{ℕ, Bool, true, false, List, [], ◌∷◌, ◌++◌, length, codes, Option, Some, None}
use Rattle.std.specs.List.{flat_map}
use Rattle.vx_base.specs.FaultName.{fault_name}
use Rattle.vx_data.specs.Texts.{quoted}
use Rattle.vx_sched.specs.declared.fault.Fault.{Fault}
use Rattle.vx_sched.specs.declared.fault.Place.{Place}
use Rattle.vx_sched.specs.declared.fault.Place.TheVariants.{Size, Range}
use Rattle.vx_source.specs.declared.reply.FailCause.{FailCause}
use Rattle.vx_source.specs.declared.reply.FailCause.TheVariants as cause
use Rattle.vx_source.specs.declared.reply.Reply.{Reply}
use Rattle.vx_source.specs.declared.reply.Reply.TheVariants.{Registered, MissingSegment, Ready, Pending, Failed, Dropped, NotLive, Driven}
use Rattle.vx_source.specs.declared.span.Span.{Span}
use Rattle.vx_source.specs.declared.span.SpanOutcome.{SpanOutcome}
use Rattle.vx_source.specs.declared.span.SpanOutcome.TheVariants.{Good, Bad}
use Rattle.vx_file.specs.declared.metadata.MetadataValue.{MetadataValue}
use Rattle.vx_file.specs.declared.served.Served.{Served}
use Rattle.vx_text.specs.Hexadecimal.{hex_text}
use Rattle.vx_print.specs.Lines.{numbers_after, words, line}
use Rattle.vx_print.specs.FooterText.{footer_text}

abbrev pub read_line : ℕ × ℕ → List ℕ
read_line range = line (codes "read") (range.0 ∷ range.1 ∷ [])

abbrev pub place_words : Place → List ℕ
place_words Size = codes " size"
place_words (Range offset size) = numbers_after (offset ∷ size ∷ [])

abbrev pub fault_words : Fault → List ℕ
fault_words fault = fault_name fault.kind ++ place_words fault.place

abbrev pub outcome_word : SpanOutcome → List ℕ
outcome_word Good = codes " ok"
outcome_word (Bad fault) = 32 ∷ fault_name fault.kind

abbrev pub span_line : Span → List ℕ
span_line span = words (codes "span") (span.start ∷ span.end ∷ []) ++ outcome_word span.outcome ++ numbers_after span.reads ++ 10 ∷ []

abbrev pub held_word : Bool → List ℕ
held_word true = codes " held\n"
held_word false = codes "\n"

abbrev pub cause_words : FailCause → List ℕ
cause_words (cause.Fault fault) = fault_words fault
cause_words cause.Cache = codes "cache"

abbrev pub reply_text : Reply → List ℕ
reply_text (Registered number held) = words (codes "registered") (number ∷ []) ++ held_word held
reply_text MissingSegment = codes "missing-segment\n"
reply_text (Ready buffer) = codes "ready " ++ hex_text buffer.bytes ++ 10 ∷ []
reply_text Pending = codes "pending\n"
reply_text (Failed failure) = codes "failed " ++ cause_words failure ++ 10 ∷ []
reply_text Dropped = codes "dropped\n"
reply_text NotLive = codes "not-live\n"
reply_text (Driven spans) = line (codes "driven") (length spans ∷ []) ++ flat_map span_line spans

-- a value of the metadata under its key
abbrev pub value_line : MetadataValue → List ℕ
value_line v = codes "value " ++ quoted v.key ++ codes " " ++ hex_text v.value.bytes ++ 10 ∷ []

-- the values, where they were loaded
abbrev pub values_text : Option (List MetadataValue) → List ℕ
values_text None = []
values_text (Some values) = flat_map value_line values

-- the text of what was served: the footer, the values of the metadata, what was read before the script, and the replies
abbrev pub render_text : Served → List ℕ
render_text s = footer_text s.footer.content ++ values_text s.metadata ++ flat_map read_line s.opening ++ flat_map reply_text s.replies
