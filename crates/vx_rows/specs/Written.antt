-- The bytes of arrays, as they are written.
use Rattle.std.specs.Prelude.{ℕ, ℤ, pos, negsuc, ◌^◌, ◌&&◌, Bool, false, nat_lt, if◌then◌else◌}
use Rattle.std.specs.Prelude.{List, [], ◌∷◌, ◌++◌, map, length, take, is_some, unwrap_or, Option}
use Rattle.std.specs.List.{flat_map, list_all}
use Rattle.std.specs.Int.{w32, to_le_bytes, cast_unsigned}
use Rattle.vx_data.specs.declared.ptype.PType.{PType}
use Rattle.vx_data.specs.declared.ptype.PType.TheVariants.{U8, U16, U32, U64, I8, I16, I32, I64}
use Rattle.vx_rows.specs.Bits.{bitmap}
use Rattle.vx_rows.specs.Columns.{Bools, Ints, Texts, width, is_signed}

-- ---- integers

-- how many bits a value of a type has, besides its sign
abbrev pub value_bits : PType → ℕ
value_bits U8 = 8
value_bits U16 = 16
value_bits U32 = 32
value_bits U64 = 64
value_bits I8 = 7
value_bits I16 = 15
value_bits I32 = 31
value_bits I64 = 63

-- whether a number is in the range of a type
abbrev pub is_within : PType → ℤ → Bool
is_within p (pos n) = nat_lt n (2 ^ value_bits p)
is_within p (negsuc n) = is_signed p && nat_lt n (2 ^ value_bits p)

-- the bytes of a value, lowest first, in two's complement
abbrev pub value_bytes : PType → ℤ → List ℕ
value_bytes p n = to_le_bytes (width p) (cast_unsigned (width p) n)

-- a row that is null has the value 0
abbrev pub cell : PType → Option ℤ → List ℕ
cell p row = value_bytes p (unwrap_or row (pos 0))

-- ---- texts

-- a row that is null has no byte
abbrev pub text_bytes : Option (List ℕ) → List ℕ
text_bytes row = unwrap_or row []

abbrev pub length_bytes : Option (List ℕ) → List ℕ
length_bytes row = to_le_bytes w32 (length (text_bytes row))

-- where the text of a row begins, behind those before it
abbrev pub text_place : List (Option (List ℕ)) → ℕ → ℕ
text_place rows row = length (flat_map text_bytes (take row rows))

-- ---- columns without fields

-- 0 where no row is null, else 1 and a bitmap of the rows that are not null
abbrev pub flags_bytes : List Bool → List ℕ
flags_bytes present = if list_all (λ b. b) present then 0 ∷ [] else 1 ∷ bitmap present

-- which rows are not null, where some may be
abbrev pub presence_bytes : Bool → List Bool → List ℕ
presence_bytes nullable present = if nullable then flags_bytes present else []

-- a row that is null has the value false
abbrev pub bools_bytes : Bools → List ℕ
bools_bytes c = presence_bytes c.nullable (map is_some c.rows) ++ bitmap (map (λ row. unwrap_or row false) c.rows)

abbrev pub ints_bytes : Ints → List ℕ
ints_bytes c = presence_bytes c.nullable (map is_some c.rows) ++ flat_map (cell c.ptype) c.rows

-- the lengths of all texts, and then their bytes
abbrev pub texts_bytes : Texts → List ℕ
texts_bytes c = presence_bytes c.nullable (map is_some c.rows) ++ flat_map length_bytes c.rows ++ flat_map text_bytes c.rows
