-- What stands in a table root: partial functions on its bytes, which have no value where a position, a
-- width, a length or UTF-8 fails. Positions count from the first byte.
use Rattle.std.specs.Prelude.{ℕ, zero, suc, ◌+◌, ◌-◌, ◌*◌, ◌/◌, ◌^◌, ◌&&◌, nat_lt, nat_le, ◌==◌, if◌then◌else◌, List, [], ◌∷◌, length, take, drop, Option, Some, None}
use Rattle.std.specs.Int.{Width, w16, w32, byte_len, from_le_bytes}
use Rattle.std.specs.Str.{is_utf8}
use Rattle.vx_tables.specs.declared.elements.Elements.{Elements}
use Rattle.vx_tables.specs.declared.elements.Elements.TheVariants.{Numbers, Offsets, Segments}

infixl 10 ◌>>=◌
abbrev pub ◌>>=◌ : {A B : Type 0} → Option A → (A → Option B) → Option B
None >>= f = None
(Some x) >>= f = f x

-- the place n bytes further, which must not pass the end
unfoldable pub forward : List ℕ → ℕ → ℕ → Option ℕ
forward b at n = if nat_le n (length b - at) then Some (at + n) else None

-- the place that a signed number leads to, taken away from a place
unfoldable pub backward : List ℕ → ℕ → ℕ → Option ℕ
backward b at n =
    if nat_lt n (2 ^ 31) then (if nat_le n at then Some (at - n) else None) else forward b at (2 ^ 32 - n)

-- the n bytes at a place
unfoldable pub bytes : List ℕ → ℕ → ℕ → Option (List ℕ)
bytes b at n = if nat_le n (length b - at) then Some (take n (drop at b)) else None

-- the little-endian number of this width at a place
unfoldable pub num : Width → List ℕ → ℕ → Option ℕ
num w b at = do
  cells ← bytes b at (byte_len w)
  Some (from_le_bytes w cells)

-- the place that the offset at a place leads to
unfoldable pub target : List ℕ → ℕ → Option ℕ
target b at = num w32 b at >>= forward b at

-- ---- tables

-- a table: its place, that of its vtable, and the vtable's size
pub record Table : Type 0 where
  pub place : ℕ
  pub vtable : ℕ
  pub size : ℕ

-- the table at a place
unfoldable pub table_at : List ℕ → ℕ → Option Table
table_at b at = do
  back ← num w32 b at
  vtable ← backward b at back
  size ← num w16 b vtable
  own ← num w16 b (vtable + 2)
  if nat_le 4 size && nat_le 4 own && nat_le size (length b - vtable)
      then Some (record { place = at; vtable = vtable; size = size }) else None

-- the root table: the offset to it stands first
unfoldable pub root : List ℕ → Option Table
root b = target b 0 >>= table_at b

-- where an entry of a vtable leads: nowhere where it is 0
unfoldable pub entry_place : List ℕ → Table → ℕ → Option (Option ℕ)
entry_place b t entry =
    if entry == 0 then Some None else (if nat_le 4 entry then forward b t.place entry >>= (λ at. Some (Some at)) else None)

-- where the field of a slot stands; a slot past the vtable's size is absent
unfoldable pub slot : List ℕ → Table → ℕ → Option (Option ℕ)
slot b t k = if nat_lt k ((t.size - 4) / 2) then num w16 b (t.vtable + 4 + 2 * k) >>= entry_place b t else Some None

-- ---- fields

-- what is read at a place, where there is one
abbrev pub optional : {A : Type 0} → (ℕ → Option A) → Option ℕ → Option (Option A)
optional read None = Some None
optional read (Some at) = read at >>= (λ x. Some (Some x))

-- a number
unfoldable pub field : Width → List ℕ → Table → ℕ → Option (Option ℕ)
field w b t k = slot b t k >>= optional (num w b)

-- the text at a place
unfoldable pub text : List ℕ → ℕ → Option (List ℕ)
text b at = do
  count ← num w32 b at
  cells ← bytes b (at + 4) count
  if is_utf8 cells then Some cells else None

-- how many bytes an element takes
abbrev pub element_size : Elements → ℕ
element_size (Numbers width) = width
element_size Offsets = 4
element_size Segments = 16

-- a vector: the place of its first element, and how many it has
pub record Vector : Type 0 where
  pub first : ℕ
  pub count : ℕ

-- the vector at a place
unfoldable pub vector : List ℕ → ℕ → Elements → Option Vector
vector b at elements = do
  count ← num w32 b at
  if nat_le (count * element_size elements) (length b - (at + 4)) then Some (record { first = at + 4; count = count }) else None

-- where the offset of a field leads
unfoldable pub target_field : List ℕ → Table → ℕ → Option (Option ℕ)
target_field b t k = slot b t k >>= optional (target b)

unfoldable pub text_field : List ℕ → Table → ℕ → Option (Option (List ℕ))
text_field b t k = target_field b t k >>= optional (text b)

unfoldable pub table_field : List ℕ → Table → ℕ → Option (Option Table)
table_field b t k = target_field b t k >>= optional (table_at b)

unfoldable pub vector_field : List ℕ → Table → ℕ → Elements → Option (Option Vector)
vector_field b t k elements = target_field b t k >>= optional (λ at. vector b at elements)

-- ---- elements of a vector of offsets, each relative to its own place

abbrev pub element_target : List ℕ → Vector → ℕ → Option ℕ
element_target b v i = target b (v.first + 4 * i)

unfoldable pub text_of_vector : List ℕ → Vector → ℕ → Option (List ℕ)
text_of_vector b v i = element_target b v i >>= text b

unfoldable pub table_of_vector : List ℕ → Vector → ℕ → Option Table
table_of_vector b v i = element_target b v i >>= table_at b

-- all bytes of a vector's elements
abbrev pub element_bytes : List ℕ → Vector → Elements → List ℕ
element_bytes b v elements = take (v.count * element_size elements) (drop v.first b)

-- so many numbers of 4 bytes, one behind the other
abbrev pub numbers_in : ℕ → List ℕ → List ℕ
numbers_in zero cells = []
numbers_in (suc n) cells = from_le_bytes w32 (take 4 cells) ∷ numbers_in n (drop 4 cells)

-- the numbers of a vector
abbrev pub numbers_of_vector : List ℕ → Vector → List ℕ
numbers_of_vector b v = numbers_in v.count (element_bytes b v (Numbers 4))
