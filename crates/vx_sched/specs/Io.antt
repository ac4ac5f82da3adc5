-- What is asked of a reader in one range.
use Rattle.std.specs.Prelude.{ℕ, ◌-◌}
use Rattle.vx_base.specs.declared.answer.ReadAtRequest.{ReadAtRequest}
use Rattle.vx_sched.specs.Span.{Span}
use Rattle.vx_sched.specs.declared.io_request.IoRequest.{IoRequest}
use Rattle.vx_sched.specs.declared.io_request.IoRequest.TheVariants.{Single, Coalesced}

-- where it begins
abbrev pub io_offset : IoRequest → ℕ
io_offset (Single r) = r.offset
io_offset (Coalesced s) = s.start

-- how many bytes it has
abbrev pub io_len : IoRequest → ℕ
io_len (Single r) = r.length
io_len (Coalesced s) = s.end - s.start

-- the alignment that its bytes are to claim
abbrev pub io_alignment : IoRequest → ℕ
io_alignment (Single r) = r.alignment
io_alignment (Coalesced s) = s.alignment

-- the range that is asked
abbrev pub io_range : IoRequest → ReadAtRequest
io_range io = record { offset = io_offset io; length = io_len io; alignment = io_alignment io }

-- the range that a span is asked as
abbrev pub request_of : Span → ReadAtRequest
request_of s = io_range (Coalesced s)
