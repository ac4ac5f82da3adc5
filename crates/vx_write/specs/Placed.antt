-- Chunks of a file that are written one behind the other, and the bytes that go out.
use Rattle.std.specs.Prelude.{◌≡◌, ℕ, ◌+◌, ◌<◌, ◌≤◌, ◌^◌, ◌==◌, if◌then◌else◌, List, [], ◌∷◌, ◌++◌, length, map, codes, Option}
use Rattle.vx_base.specs.Buffer.{Buffer}
use Rattle.vx_base.specs.declared.segment.SegmentSpec.{SegmentSpec}
use Rattle.vx_write.specs.declared.laid_chunk.Laid.{Laid}
use Rattle.vx_write.specs.Sinks.{Segments, spec_of, behind, placed}
use Rattle.vx_write.specs.Taken.{TookAll, TookPart}

-- an encoded chunk: of which leaf it is, how many rows it has, and its bytes, with the alignment that they claim
pub record Encoded : Type 0 where
  pub leaf : ℕ
  pub rows : ℕ
  pub buffer : Buffer

-- where a file stands: the chunks that lie in it, the offset behind them, and how many bytes went out
pub record Place : Type 0 where
  pub laid : List Laid
  pub offset : ℕ
  pub taken : ℕ

-- what a file begins with
abbrev pub magic : List ℕ
magic = codes "VTXF"

-- nothing went out yet; the first chunk is to lie behind the magic
abbrev pub first_place : Place
first_place = record { laid = []; offset = 4; taken = 0 }

abbrev pub specs_in : Place → List SegmentSpec
specs_in p = map (λ l. l.spec) p.laid

abbrev pub segments_in : Place → Segments
segments_in p = record { specs = specs_in p; offset = p.offset }

-- the magic goes out with the first bytes
abbrev pub lead : ℕ → List ℕ
lead taken = if taken == 0 then magic else []

-- what goes out for a chunk: zeros up to a multiple of its alignment, and its bytes
abbrev pub piece : Place → Encoded → List ℕ
piece p c = lead p.taken ++ placed p.offset (c.buffer ∷ [])

-- with one chunk more
unfoldable pub with_chunk : Place → Encoded → Place
with_chunk p c = record {
  laid = p.laid ++ record { spec = spec_of p.offset (c.buffer ∷ []); leaf = c.leaf; rows = c.rows } ∷ [];
  offset = behind p.offset (c.buffer ∷ []);
  taken = p.taken + length (piece p c);
}

-- what goes out for chunks, one behind the other
abbrev pub pieces : Place → List Encoded → List ℕ
pieces p [] = []
pieces p (c ∷ cs) = piece p c ++ pieces (with_chunk p c) cs

abbrev pub with_chunks : Place → List Encoded → Place
with_chunks p [] = p
with_chunks p (c ∷ cs) = with_chunks (with_chunk p c) cs

-- no more bytes went out than lie before the offset, and segments have numbers
pub record IsAlive (p : Place) : Type 0 where
  pub begun : 4 ≤ p.offset
  pub counted : p.taken ≤ p.offset
  pub few : length p.laid < 2 ^ 32

-- ---- what writing chunks leaves

-- the chunks were written
pub record Wrote (before : Place) (cs : List Encoded) (g : Option (List ℕ)) (now : Place) (h : Option (List ℕ)) : Type 0 where
  pub took : TookAll (pieces before cs) g h before.taken now.taken
  pub place : now ≡ with_chunks before cs
  pub alive : IsAlive now

-- a part of the chunks was written; where no byte of the file went out, all is as before
pub record Failed (before : Place) (cs : List Encoded) (g : Option (List ℕ)) (now : Place) (h : Option (List ℕ)) : Type 0 where
  pub took : TookPart (pieces before cs) g h before.taken now.taken
  pub quiet : now.taken ≡ 0 → now ≡ before
