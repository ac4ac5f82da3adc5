use Rattle.std.proofs.Common.{◌≡◌, ◌++◌, drop}
use Rattle.std.specs.Prelude.{string_bytes}
use Rattle.std.specs.List.{flat_map}
use Rattle.vx_data.specs.Texts.{quoted_byte}
use Rattle.vx_data.proofs.quoted.push_quoted_bytes.Given as goal

-- the bytes so far and those still to come
abbrev pub invariant-loop-byte : goal.invariant-loop-byte
invariant-loop-byte l = string_bytes l.text ++ flat_map quoted_byte (drop l.byte-index l.bytes) ≡ string_bytes l.fn.text ++ flat_map quoted_byte l.bytes
