-- What is seen of a footer that was written.
use Rattle.std.specs.Prelude.{ℕ, List, Result, Ok, Err}
use Rattle.vx_footer.specs.declared.write_error.WriteError.{WriteError}
use Rattle.vx_footer.specs.declared.serializer.Serialized.{Serialized}
use Rattle.vx_footer.specs.Serializing.{Parts, bytes_of}

abbrev pub parts_seen : Serialized → Parts
parts_seen s = record { parts = bytes_of s.buffers.items; size = s.approx_byte_size; content = s.footer.content }

abbrev pub parts_alone : Result Parts WriteError → Result (List (List ℕ)) WriteError
parts_alone (Ok p) = Ok p.parts
parts_alone (Err e) = Err e
