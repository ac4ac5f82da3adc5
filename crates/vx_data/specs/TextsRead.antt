-- How the texts of names and types are read: each has one spelling.
use Rattle.std.specs.Prelude.{◌≡◌, ℕ, zero, suc, ◌+◌, ◌*◌, ◌-◌, ◌==◌, nat_le, Bool, true, false, ◌&&◌, ◌||◌, if◌then◌else◌}
use Rattle.std.specs.Prelude.{List, [], ◌∷◌, length, take, drop, slice_index, codes, Option, Some, None, Result, Ok, Err}
use Rattle.std.specs.Option.{option_map, option_and_then, option_or}
use Rattle.std.specs.Str.{is_utf8}
use Rattle.vx_tables.specs.Field.{◌>>=◌}
use Rattle.vx_data.specs.declared.ptype.PType.{PType}
use Rattle.vx_data.specs.declared.ptype.PType.TheVariants.{U8, U16, U32, U64, I8, I16, I32, I64}
use Rattle.vx_data.specs.declared.text_error.TextError.{TextError}
use Rattle.vx_data.specs.declared.text_error.TextError.TheVariants.{BadText, OutOfMemory}
use Rattle.vx_data.specs.Dtype.{Dtype, bool, int, text, struct, FieldList, no_fields, field}
use Rattle.vx_data.specs.Texts.{is_quote_plain, ptype_name}

-- what a refusal of a text tells: it is in no grammar. Want of memory tells nothing.
abbrev pub FailsToRead : {A : Type 0} → TextError → Result A TextError → Type 0
FailsToRead BadText answer = answer ≡ Err BadText
FailsToRead OutOfMemory answer = Unit {0}

-- ---- quoted text

-- the value of a hexadecimal digit, upper case alone
abbrev pub digit_value : ℕ → Option ℕ
digit_value c =
    if nat_le 48 c && nat_le c 57 then Some (c - 48)
    else if nat_le 65 c && nat_le c 70 then Some (c - 55)
    else None

-- the byte of two digits, unless it stands for itself
abbrev pub not_plain : ℕ → Option ℕ
not_plain byte = if is_quote_plain byte then None else Some byte

abbrev pub escaped_byte : ℕ → ℕ → Option ℕ
escaped_byte high low = option_and_then (λ h. option_and_then (λ l. not_plain (16 * h + l)) (digit_value low)) (digit_value high)

-- a byte before others, where both are there
abbrev pub with_byte : Option ℕ → Option (List ℕ) → Option (List ℕ)
with_byte None rest = None
with_byte (Some byte) rest = option_map (λ bytes. byte ∷ bytes) rest

unfoldable mutual
  -- the bytes that quoted bytes spell
  pub unquoted_bytes : List ℕ → Option (List ℕ)
  unquoted_bytes [] = Some []
  unquoted_bytes (c ∷ cs) = if is_quote_plain c then with_byte (Some c) (unquoted_bytes cs) else if c == 37 then first_digit cs else None

  pub first_digit : List ℕ → Option (List ℕ)
  first_digit [] = None
  first_digit (high ∷ cs) = second_digit high cs

  pub second_digit : ℕ → List ℕ → Option (List ℕ)
  second_digit high [] = None
  second_digit high (low ∷ cs) = with_byte (escaped_byte high low) (unquoted_bytes cs)

-- a byte that was read, before what the rest spells
abbrev pub byte_first : Option (ℕ × List ℕ) → Option (List ℕ)
byte_first None = None
byte_first (Some x) = with_byte (Some x.0) (unquoted_bytes x.1)

-- bytes that are text
abbrev pub as_text : Option (List ℕ) → Option (List ℕ)
as_text None = None
as_text (Some bytes) = if is_utf8 bytes then Some bytes else None

-- `%`, which spells the empty text
abbrev pub is_percent : List ℕ → Bool
is_percent t = (length t == 1) && (slice_index t 0 == 37)

-- the text that a quoted text spells
unfoldable pub unquoted : List ℕ → Option (List ℕ)
unquoted t = if length t == 0 then None else if is_percent t then Some [] else as_text (unquoted_bytes t)

-- ---- parts of texts. Each is read from the front, and what follows is given with it

-- whether a byte may stand in quoted text
abbrev pub is_quote_byte : ℕ → Bool
is_quote_byte c = is_quote_plain c || (c == 37)

-- how many such bytes come first
unfoldable pub quote_length : List ℕ → ℕ
quote_length [] = 0
quote_length (c ∷ cs) = if is_quote_byte c then suc (quote_length cs) else 0

-- the quoted text in front, as long as it can be
unfoldable pub quoted_in : List ℕ → Option (List ℕ × List ℕ)
quoted_in t = option_map (λ x. (x, drop (quote_length t) t)) (unquoted (take (quote_length t) t))

-- what follows a front
abbrev pub after : List ℕ → List ℕ → Option (List ℕ)
after [] t = Some t
after (c ∷ cs) [] = None
after (c ∷ cs) (b ∷ t) = if b == c then after cs t else None

-- ---- types

abbrev pub marked_by : List ℕ → Option (List ℕ) → Bool × List ℕ
marked_by t None = (false, t)
marked_by t (Some rest) = (true, rest)

-- whether `?` comes
abbrev pub mark_in : List ℕ → Bool × List ℕ
mark_in t = marked_by t (after (codes "?") t)

-- a type whose rows may be null where `?` comes
abbrev pub marked : (Bool → Dtype) → List ℕ → Dtype × List ℕ
marked make t = (make (mark_in t).0, (mark_in t).1)

-- the first of these names that comes
abbrev pub ptype_among : List PType → List ℕ → Option (PType × List ℕ)
ptype_among [] t = None
ptype_among (p ∷ ps) t = option_or (option_map (λ rest. (p, rest)) (after (ptype_name p) t)) (ptype_among ps t)

abbrev pub ptypes : List PType
ptypes = U8 ∷ U16 ∷ U32 ∷ U64 ∷ I8 ∷ I16 ∷ I32 ∷ I64 ∷ []

-- a type that is no struct
unfoldable pub plain_in : List ℕ → Option (Dtype × List ℕ)
plain_in t =
    option_or (option_map (marked bool) (after (codes "bool") t)) (
    option_or (option_map (marked text) (after (codes "text") t))
    (option_map (λ x. marked (int x.0) x.1) (ptype_among ptypes t)))

-- a name and its colon
unfoldable pub name_in : List ℕ → Option (List ℕ × List ℕ)
name_in t = option_and_then (λ name. option_map (λ rest. (name.0, rest)) (after (codes ":") name.1)) (quoted_in t)

-- a field before others
abbrev pub with_field : List ℕ → Dtype → FieldList × List ℕ → FieldList × List ℕ
with_field name dtype rest = (field name dtype rest.0, rest.1)

-- what comes behind a field: the end of the struct, or a comma and more
abbrev pub behind_field : List ℕ → Dtype → (List ℕ → Option (FieldList × List ℕ)) → List ℕ → Option (List ℕ) → Option (FieldList × List ℕ)
behind_field name dtype more t (Some rest) = Some (field name dtype no_fields, rest)
behind_field name dtype more t None = option_map (with_field name dtype) (option_and_then more (after (codes ",") t))

-- so many fields at most, of types that are read so, and the end of their struct
unfoldable pub fields_in : (List ℕ → Option (Dtype × List ℕ)) → ℕ → List ℕ → Option (FieldList × List ℕ)
fields_in read zero t = None
fields_in read (suc most) t = do
  name ← name_in t
  typed ← read name.1
  behind_field name.0 typed.0 (fields_in read most) typed.1 (after (codes "}") typed.1)

-- the fields of a struct and its end
abbrev pub struct_in : (List ℕ → Option (Dtype × List ℕ)) → List ℕ → Option (List ℕ) → Option (FieldList × List ℕ)
struct_in read t (Some rest) = Some (no_fields, rest)
struct_in read t None = fields_in read (length t) t

abbrev pub as_struct : FieldList × List ℕ → Dtype × List ℕ
as_struct x = marked (struct x.0) x.1

-- a struct behind a brace, or another type
abbrev pub type_in : (List ℕ → Option (Dtype × List ℕ)) → List ℕ → Option (List ℕ) → Option (Dtype × List ℕ)
type_in read t (Some rest) = option_map as_struct (struct_in read rest (after (codes "}") rest))
type_in read t None = plain_in t

-- the type in front, in which so many types lie one in the other at most, itself among them
unfoldable pub dtype_in : ℕ → List ℕ → Option (Dtype × List ℕ)
dtype_in zero t = None
dtype_in (suc levels) t = type_in (dtype_in levels) t (after (codes "{") t)

-- what nothing follows
abbrev pub alone : Option (Dtype × List ℕ) → Option Dtype
alone None = None
alone (Some x) = if length x.1 == 0 then Some x.0 else None

-- the type that a text spells
unfoldable pub dtype_of_text : List ℕ → Option Dtype
dtype_of_text t = alone (dtype_in 64 t)
