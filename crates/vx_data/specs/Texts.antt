-- The texts of names and types: one spelling for each.
use Rattle.std.specs.Prelude.{ℕ, ◌+◌, ◌/◌, ◌%◌, Bool, true, false, ◌||◌, ◌==◌, nat_lt, if◌then◌else◌, List, [], ◌∷◌, ◌++◌, codes}
use Rattle.std.specs.List.{flat_map}
use Rattle.std.specs.Char.{is_ascii_alphanumeric}
use Rattle.vx_data.specs.declared.ptype.PType.{PType}
use Rattle.vx_data.specs.declared.ptype.PType.TheVariants.{U8, U16, U32, U64, I8, I16, I32, I64}
use Rattle.vx_data.specs.Dtype.{Dtype, bool, int, text, struct, FieldList, no_fields, field}

-- ---- quoted text

-- letters, digits, `_`, `.` and `-` stand for themselves
abbrev pub is_quote_plain : ℕ → Bool
is_quote_plain byte = is_ascii_alphanumeric byte || (byte == 95) || (byte == 46) || (byte == 45)

abbrev pub upper_hex_digit : ℕ → ℕ
upper_hex_digit n = if nat_lt n 10 then 48 + n else 55 + n

abbrev pub quoted_byte : ℕ → List ℕ
quoted_byte byte = if is_quote_plain byte then byte ∷ [] else 37 ∷ upper_hex_digit (byte / 16) ∷ upper_hex_digit (byte % 16) ∷ []

-- the empty text is `%`
abbrev pub quoted : List ℕ → List ℕ
quoted [] = 37 ∷ []
quoted (byte ∷ bytes) = flat_map quoted_byte (byte ∷ bytes)

-- ---- types

abbrev pub ptype_name : PType → List ℕ
ptype_name U8 = codes "u8"
ptype_name U16 = codes "u16"
ptype_name U32 = codes "u32"
ptype_name U64 = codes "u64"
ptype_name I8 = codes "i8"
ptype_name I16 = codes "i16"
ptype_name I32 = codes "i32"
ptype_name I64 = codes "i64"

-- where rows may be null
abbrev pub mark : Bool → List ℕ
mark true = codes "?"
mark false = []

-- before a field
abbrev pub comma : Bool → List ℕ
comma true = []
comma false = codes ","

abbrev pub name_text : List ℕ → List ℕ
name_text name = quoted name ++ codes ":"

abbrev mutual
  pub dtype_text : Dtype → List ℕ
  dtype_text (bool nullable) = codes "bool" ++ mark nullable
  dtype_text (int ptype nullable) = ptype_name ptype ++ mark nullable
  dtype_text (text nullable) = codes "text" ++ mark nullable
  dtype_text (struct fs nullable) = codes "{" ++ fields_text true fs ++ codes "}" ++ mark nullable

  -- the fields, whose first has no comma before it
  pub fields_text : Bool → FieldList → List ℕ
  fields_text first no_fields = []
  fields_text first (field n d fs) = comma first ++ name_text n ++ dtype_text d ++ fields_text false fs
