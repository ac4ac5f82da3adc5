use Rattle.std.proofs.Common.{◌≡◌, drop}
use Rattle.std.specs.List.{list_all}
use Rattle.vx_data.specs.Texts.{is_quote_plain}
use Rattle.vx_rows.proofs.printing.are_plain.Given as goal

abbrev pub invariant-loop-byte : goal.invariant-loop-byte
invariant-loop-byte l = list_all is_quote_plain (drop l.byte-index l.bytes) ≡ list_all is_quote_plain l.bytes
