-- The chunks of leaves as they are encoded and written, one behind the other.
use Rattle.std.specs.Prelude.{◌≡◌, ℕ, List, [], ◌∷◌, map, Option, Result, Ok, Err}
use Rattle.vx_base.specs.Checks.{◌>>=◌, ◌unless◌}
use Rattle.vx_footer.specs.declared.write_error.WriteError.{WriteError}
use Rattle.vx_footer.specs.declared.write_error.WriteError.TheVariants.{NotPermitted}
use Rattle.vx_rows.specs.Rows.{rows_len}
use Rattle.vx_rows.specs.Encoded.{is_permitted, array_bytes}
use Rattle.vx_write.specs.Leaves.{ChunkRows}
use Rattle.vx_write.specs.Placed.{Place, Encoded, with_chunk, with_chunks, pieces, segments_in, IsAlive, Failed}
use Rattle.vx_write.specs.Sinks.{place_checks}
use Rattle.vx_write.specs.Taken.{Sent, Checked}

-- how chunks are encoded: by these ids of arrays, at this alignment
pub record Coding : Type 0 where
  pub ids : List (List ℕ)
  pub alignment : ℕ

abbrev pub encoded_chunk : Coding → ChunkRows → Encoded
encoded_chunk k c = record { leaf = c.leaf; rows = rows_len c.rows; buffer = record { bytes = array_bytes k.ids c.rows; alignment = k.alignment } }

abbrev pub encoded_chunks : Coding → List ChunkRows → List Encoded
encoded_chunks k cs = map (encoded_chunk k) cs

-- whether a chunk may be written at a place: its arrays are permitted, and its segment may stand there
abbrev pub chunk_checks : Coding → Place → ChunkRows → Result (Unit {0}) WriteError
chunk_checks k p c = NotPermitted unless is_permitted k.ids c.rows >>= λ _. place_checks ((encoded_chunk k c).buffer ∷ []) (segments_in p)

-- whether chunks may, in their order
abbrev pub chunks_checks : Coding → Place → List ChunkRows → Result (Unit {0}) WriteError
chunks_checks k p [] = Ok tt
chunks_checks k p (c ∷ cs) = chunk_checks k p c >>= λ _. chunks_checks k (with_chunk p (encoded_chunk k c)) cs

-- the chunks before the rest were written
pub record Going (k : Coding) (before : Place) (all rest : List ChunkRows) (g : Option (List ℕ)) (now : Place) (h : Option (List ℕ)) : Type 0 where
  pub sent : Sent (pieces before (encoded_chunks k all)) (pieces now (encoded_chunks k rest)) g h before.taken now.taken
  pub place : with_chunks before (encoded_chunks k all) ≡ with_chunks now (encoded_chunks k rest)
  pub checks : chunks_checks k before all ≡ chunks_checks k now rest
  pub alive : IsAlive now
  pub quiet : now.taken ≡ 0 → now ≡ before

-- the chunks before the rest were written, or a part of all chunks was, as the checks tell
abbrev pub Goes : Coding → Place → List ChunkRows → List ChunkRows → Option (List ℕ) → Place → Option (List ℕ) → Result (Unit {0}) WriteError → Type 0
Goes k p all rest g now h (Ok x) = Going k p all rest g now h
Goes k p all rest g now h (Err e) = Failed p (encoded_chunks k all) g now h × Checked {A = Unit {0}} (Err e) (chunks_checks k p all)
