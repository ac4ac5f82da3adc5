-- What a predicate is of rows of a type, or why it cannot be looked at there: the first node that fails, operands first.
use Rattle.std.specs.Prelude.{◌≡◌, ℕ, ◌+◌, ◌==◌, ◌&&◌, ◌||◌, nat_le, not, Bool, true, false, if◌then◌else◌, List, [], ◌∷◌, Option, Some, None, Result, Ok, Err}
use Rattle.std.specs.Str.{bytes_eq}
use Rattle.vx_base.specs.Checks.{◌>>=◌}
use Rattle.vx_data.specs.declared.ptype.PType.{PType}
use Rattle.vx_data.specs.Dtype.{Dtype, FieldList, bool, int, text, struct, no_fields, field}
use Rattle.vx_data.specs.Scalar.{Value, flag, number, words}
use Rattle.vx_rows.specs.Columns.{is_signed}
use Rattle.vx_rows.specs.Written.{value_bits, is_within}
use Rattle.vx_rows.specs.declared.kind.Kind.{Kind}
use Rattle.vx_rows.specs.declared.kind.Kind.TheVariants.{Bool as Truth, Int, Text, Struct}
use Rattle.vx_rows.specs.declared.bind_error.BindError.{BindError}
use Rattle.vx_rows.specs.declared.bind_error.BindError.TheVariants.{NoField, TypeMismatch, NarrowingCast, OutOfMemory}
use Rattle.vx_rows.specs.Predicates.{Pred, lit, root, path, cast, add, compare, both, either, negated, null_test, present_test}

-- what a refusal tells: it is that of the first node that fails. Want of memory tells nothing
abbrev pub Fails : {A : Type 0} → BindError → Result A BindError → Type 0
Fails NoField answer = answer ≡ Err NoField
Fails TypeMismatch answer = answer ≡ Err TypeMismatch
Fails NarrowingCast answer = answer ≡ Err NarrowingCast
Fails OutOfMemory answer = Unit {0}

-- ---- fields

-- the place, counted from one on, and the type of the first field of a name
abbrev pub place_from : ℕ → List ℕ → FieldList → Option (ℕ × Dtype)
place_from i name no_fields = None
place_from i name (field n d fs) = if bytes_eq n name then Some (i, d) else place_from (i + 1) name fs

abbrev pub place : List ℕ → Dtype → Option (ℕ × Dtype)
place name (bool nullable) = None
place name (int ptype nullable) = None
place name (text nullable) = None
place name (struct fs nullable) = place_from 0 name fs

abbrev pub with_place : {A : Type 0} → Option (ℕ × Dtype) → A → (ℕ → Dtype → A) → A
with_place None other f = other
with_place (Some (i, d)) other f = f i d

-- the type of the field that names lead to
abbrev pub type_at : List (List ℕ) → Dtype → Option Dtype
type_at [] d = Some d
type_at (name ∷ names) d = with_place (place name d) None (λ i e. type_at names e)

-- ---- one node each

abbrev pub kind_of : Dtype → Kind
kind_of (bool nullable) = Truth
kind_of (int ptype nullable) = Int ptype
kind_of (text nullable) = Text
kind_of (struct fs nullable) = Struct

-- whether a value, or null, is one of a type that is no struct
abbrev pub is_of : Dtype → Option Value → Bool
is_of (bool nullable) None = nullable
is_of (bool nullable) (Some (flag b)) = true
is_of (bool nullable) (Some (number n)) = false
is_of (bool nullable) (Some (words t)) = false
is_of (int ptype nullable) None = nullable
is_of (int ptype nullable) (Some (flag b)) = false
is_of (int ptype nullable) (Some (number n)) = is_within ptype n
is_of (int ptype nullable) (Some (words t)) = false
is_of (text nullable) None = nullable
is_of (text nullable) (Some (flag b)) = false
is_of (text nullable) (Some (number n)) = false
is_of (text nullable) (Some (words t)) = true
is_of (struct fs nullable) v = false

abbrev pub lit_kind : Dtype → Option Value → Result Kind BindError
lit_kind d v = if is_of d v then Ok (kind_of d) else Err TypeMismatch

abbrev pub field_kind : Option Dtype → Result Kind BindError
field_kind None = Err NoField
field_kind (Some d) = Ok (kind_of d)

-- whether each value of a type is one of a wider type
abbrev pub holds_all : PType → PType → Bool
holds_all wide narrow = (is_signed wide || not (is_signed narrow)) && nat_le (value_bits narrow) (value_bits wide)

abbrev pub int_kind : PType → Kind → Result Kind BindError
int_kind to Truth = Err TypeMismatch
int_kind to (Int from) = if holds_all to from then Ok (Int to) else Err NarrowingCast
int_kind to Text = Err TypeMismatch
int_kind to Struct = Err TypeMismatch

abbrev pub cast_kind : Dtype → Kind → Result Kind BindError
cast_kind (bool nullable) k = Err TypeMismatch
cast_kind (int ptype nullable) k = int_kind ptype k
cast_kind (text nullable) k = Err TypeMismatch
cast_kind (struct fs nullable) k = Err TypeMismatch

-- two types of integers are one: no two have as many bits besides the sign
abbrev pub same_ptype : PType → PType → Bool
same_ptype p q = value_bits p == value_bits q

abbrev pub add_kinds : Kind → Kind → Result Kind BindError
add_kinds (Int p) (Int q) = if same_ptype p q then Ok (Int p) else Err TypeMismatch
add_kinds _ _ = Err TypeMismatch

-- kinds of values that can be compared
abbrev pub are_alike : Kind → Kind → Bool
are_alike Truth Truth = true
are_alike (Int p) (Int q) = same_ptype p q
are_alike Text Text = true
are_alike _ _ = false

abbrev pub compare_kinds : Kind → Kind → Result Kind BindError
compare_kinds a b = if are_alike a b then Ok Truth else Err TypeMismatch

abbrev pub logic_kind : Kind → Result Kind BindError
logic_kind Truth = Ok Truth
logic_kind (Int p) = Err TypeMismatch
logic_kind Text = Err TypeMismatch
logic_kind Struct = Err TypeMismatch

abbrev pub logic_kinds : Kind → Kind → Result Kind BindError
logic_kinds a b = logic_kind a >>= λ _. logic_kind b

-- ---- all nodes

-- what a predicate is of rows of a type
abbrev pub kind_in : Pred → Dtype → Result Kind BindError
kind_in (lit t v) d = lit_kind t v
kind_in root d = Ok (kind_of d)
kind_in (path names) d = field_kind (type_at names d)
kind_in (cast t p) d = kind_in p d >>= cast_kind t
kind_in (add p q) d = kind_in p d >>= λ a. kind_in q d >>= add_kinds a
kind_in (compare op p q) d = kind_in p d >>= λ a. kind_in q d >>= compare_kinds a
kind_in (both p q) d = kind_in p d >>= λ a. kind_in q d >>= logic_kinds a
kind_in (either p q) d = kind_in p d >>= λ a. kind_in q d >>= logic_kinds a
kind_in (negated p) d = kind_in p d >>= logic_kind
kind_in (null_test p) d = kind_in p d >>= λ _. Ok Truth
kind_in (present_test p) d = kind_in p d >>= λ _. Ok Truth

-- a predicate and the type that it is bound to: the whole is a truth value
abbrev pub bound : Pred → Dtype → Result (Pred × Dtype) BindError
bound p d = kind_in p d >>= λ k. logic_kind k >>= λ _. Ok (p, d)
