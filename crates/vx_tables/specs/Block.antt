-- What is written: the one form of a table, a vector and a text. A table is seen as its pieces, in order of
-- slot. No offset depends on where a block stands.
use Rattle.std.specs.Prelude.{ℕ, ◌+◌, ◌-◌, ◌*◌, ◌%◌, ◌^◌, ◌&&◌, Bool, true, nat_lt, nat_le, List, [], ◌∷◌, ◌++◌, length, map, replicate, sum_by, Option, Some, None}
use Rattle.std.specs.Int.{Width, w16, w32, w64, to_le_bytes}
use Rattle.std.specs.List.{flat_map}
use Rattle.vx_base.specs.declared.segment.SegmentSpec.{SegmentSpec}

-- a field of a table: a number, or a block that its offset leads into, past so many of the block's bytes
pub record Piece : Type 0 where
  pub slot : ℕ
  pub lead : Option ℕ
  pub bytes : List ℕ

-- ---- parts

-- the low 32 bits
abbrev pub low : ℕ → ℕ
low n = n % 2 ^ 32

abbrev pub u16_bytes : ℕ → List ℕ
u16_bytes n = to_le_bytes w16 n

abbrev pub u32_bytes : ℕ → List ℕ
u32_bytes n = to_le_bytes w32 (low n)

-- what a piece takes in the fixed part
abbrev pub size_of : Option ℕ → List ℕ → ℕ
size_of None bytes = length bytes
size_of (Some lead) bytes = 4

abbrev pub fixed_size : Piece → ℕ
fixed_size p = size_of p.lead p.bytes

-- what a piece has behind the fixed part
abbrev pub tail_of : Option ℕ → List ℕ → List ℕ
tail_of None bytes = []
tail_of (Some lead) bytes = bytes

abbrev pub tail : Piece → List ℕ
tail p = tail_of p.lead p.bytes

-- a piece in the fixed part: at is its place, and behind that of its block
abbrev pub cell_of : ℕ → ℕ → Option ℕ → List ℕ → List ℕ
cell_of at behind None bytes = bytes
cell_of at behind (Some lead) bytes = u32_bytes (behind + lead - at)

abbrev pub cell : ℕ → ℕ → Piece → List ℕ
cell at behind p = cell_of at behind p.lead p.bytes

abbrev pub cells : ℕ → ℕ → List Piece → List ℕ
cells at behind [] = []
cells at behind (p ∷ ps) = cell at behind p ++ cells (at + fixed_size p) (behind + length (tail p)) ps

-- the fixed part's size, with the four bytes at its front
abbrev pub fixed_len : List Piece → ℕ
fixed_len ps = 4 + sum_by fixed_size ps

-- what follows the four bytes
abbrev pub body : List Piece → List ℕ
body ps = cells 4 (fixed_len ps) ps ++ flat_map tail ps

-- ---- tables

-- the first slot above all pieces, where none is below next
abbrev pub slots_from : ℕ → List Piece → ℕ
slots_from next [] = next
slots_from next (p ∷ ps) = slots_from (p.slot + 1) ps

-- how many slots a vtable has: up to the highest that is present
abbrev pub slot_count : List Piece → ℕ
slot_count ps = slots_from 0 ps

abbrev pub vtable_size : List Piece → ℕ
vtable_size ps = 4 + 2 * slot_count ps

-- the entries from the slot next on: 0 where no piece is
abbrev pub entries : ℕ → ℕ → List Piece → List ℕ
entries at next [] = []
entries at next (p ∷ ps) = replicate (2 * (p.slot - next)) 0 ++ u16_bytes at ++ entries (at + fixed_size p) (p.slot + 1) ps

abbrev pub vtable : List Piece → List ℕ
vtable ps = u16_bytes (vtable_size ps) ++ u16_bytes (fixed_len ps) ++ entries 4 0 ps

abbrev pub block : List Piece → List ℕ
block ps = vtable ps ++ u32_bytes (vtable_size ps) ++ body ps

abbrev pub root_bytes : List Piece → List ℕ
root_bytes ps = u32_bytes (4 + vtable_size ps) ++ block ps

-- slots rise, up to 1,023, and no number is wider than 8 bytes
abbrev pub in_order : ℕ → List Piece → Bool
in_order next [] = true
in_order next (p ∷ ps) = nat_le next p.slot && nat_lt p.slot 1024 && nat_le (fixed_size p) 8 && in_order (p.slot + 1) ps

-- ---- pieces

abbrev pub number : Width → ℕ → ℕ → Piece
number w slot n = record { slot = slot; lead = None; bytes = to_le_bytes w n }

-- a count and what is counted
abbrev pub counted_block : ℕ → List ℕ → List ℕ
counted_block count elements = u32_bytes count ++ elements

abbrev pub text : ℕ → List ℕ → Piece
text slot t = record { slot = slot; lead = Some 0; bytes = counted_block (length t) (t ++ 0 ∷ []) }

abbrev pub bytes : ℕ → List ℕ → Piece
bytes slot xs = record { slot = slot; lead = Some 0; bytes = counted_block (length xs) xs }

abbrev pub numbers : ℕ → List ℕ → Piece
numbers slot ns = record { slot = slot; lead = Some 0; bytes = counted_block (length ns) (flat_map (to_le_bytes w32) ns) }

-- a segment struct: offset, length, alignment exponent, no compression, no encryption
unfoldable pub segment : SegmentSpec → List ℕ
segment s = to_le_bytes w64 s.offset ++ to_le_bytes w32 s.length ++ s.alignment ∷ 0 ∷ 0 ∷ 0 ∷ []

abbrev pub segments : ℕ → List SegmentSpec → Piece
segments slot ss = record { slot = slot; lead = Some 0; bytes = counted_block (length ss) (flat_map segment ss) }

abbrev pub table : ℕ → List Piece → Piece
table slot ps = record { slot = slot; lead = Some (vtable_size ps); bytes = block ps }

-- a vector of pieces: its slots are not looked at
abbrev pub vector : ℕ → List Piece → Piece
vector slot ps = record { slot = slot; lead = Some 0; bytes = counted_block (length ps) (body ps) }

abbrev pub texts : ℕ → List (List ℕ) → Piece
texts slot ts = vector slot (map (text 0) ts)

abbrev pub tables : ℕ → List (List Piece) → Piece
tables slot ws = vector slot (map (table 0) ws)

-- ---- a list of tables

-- where the offset of each table leads, from the first byte of the tables on, behind so many
abbrev pub leads_from : ℕ → List (List Piece) → List ℕ
leads_from behind [] = []
leads_from behind (w ∷ ws) = (behind + vtable_size w) ∷ leads_from (behind + length (block w)) ws

-- tables one behind the other
pub record Listed : Type 0 where
  pub leads : List ℕ
  pub bytes : List ℕ

abbrev pub listed : List (List Piece) → Listed
listed ws = record { leads = leads_from 0 ws; bytes = flat_map block ws }

-- the offsets of tables that stand at a place, the first of them at another
abbrev pub offsets : ℕ → ℕ → List ℕ → List ℕ
offsets at fixed [] = []
offsets at fixed (lead ∷ leads) = u32_bytes (fixed + lead - at) ++ offsets (at + 4) fixed leads

-- a vector of listed tables
abbrev pub listed_block : Listed → List ℕ
listed_block l = counted_block (length l.leads) (offsets 4 (4 + 4 * length l.leads) l.leads ++ l.bytes)

abbrev pub list_piece : ℕ → Listed → Piece
list_piece slot l = record { slot = slot; lead = Some 0; bytes = listed_block l }
