-- How columns are read from the bytes of a segment, each from a place on.
use Rattle.std.specs.Prelude.{◌≡◌, ℕ, zero, suc, ◌+◌, ◌*◌, ◌-◌, ◌/◌, ◌%◌, ◌^◌, ◌==◌, ◌&&◌, ◌||◌, nat_le}
use Rattle.std.specs.Prelude.{nat_lt, Bool, not, if◌then◌else◌, List, length, slice_index, slice_range, Option, Some, None, Result, Ok, Err}
use Rattle.vx_base.specs.Checks.{◌>>=◌}
use Rattle.std.specs.Str.{is_utf8}
use Rattle.vx_data.specs.declared.ptype.PType.{PType}
use Rattle.vx_data.specs.declared.ptype.PType.TheVariants.{U32}
use Rattle.vx_rows.specs.Span.{span, every}
use Rattle.vx_rows.specs.Bits.{bit, present_at, bitmap_size}
use Rattle.vx_rows.specs.Columns.{Bools, Ints, Texts, value_size, value_place, raw_at, is_clear, int_row, bool_row, text_row}
use Rattle.vx_rows.specs.declared.array_error.ArrayError.{ArrayError}
use Rattle.vx_rows.specs.declared.array_error.ArrayError.TheVariants.{BadArray, UnknownEncoding, OutOfMemory}

-- what a refusal tells: it is the first fault in reading order. Want of memory tells nothing
abbrev pub Fails : {A : Type 0} → ArrayError → Result A ArrayError → Type 0
Fails BadArray answer = answer ≡ Err BadArray
Fails UnknownEncoding answer = answer ≡ Err UnknownEncoding
Fails OutOfMemory answer = Unit {0}

-- what was read, and the place after it
abbrev pub Found : Type 0 → Type 0
Found A = Result (A × ℕ) ArrayError

-- the bits behind the last row are 0
abbrev pub is_padded : List ℕ → ℕ → ℕ → Bool
is_padded b at n = (n % 8 == 0) || (slice_index b (at + n / 8) / 2 ^ (n % 8) == 0)

-- the place after a bitmap of n rows
abbrev pub bitmap_end : ℕ → List ℕ → ℕ → Result ℕ ArrayError
bitmap_end n b at = if nat_le (bitmap_size n) (length b - at) && is_padded b at n then Ok (at + bitmap_size n) else Err BadArray

-- a bitmap of n rows
abbrev pub bitmap_at : ℕ → List ℕ → ℕ → Found (List Bool)
bitmap_at n b at = bitmap_end n b at >>= λ after. Ok (span (bit b at) 0 n, after)

-- a bitmap of the rows that are not null, of which there is at least one that is
abbrev pub some_present : ℕ → List ℕ → ℕ → Found (Option (List Bool))
some_present n b at = bitmap_end n b at >>= λ after. if every (bit b at) 0 n then Err BadArray else Ok (Some (span (bit b at) 0 n), after)

abbrev pub flagged : ℕ → List ℕ → ℕ → ℕ → Found (Option (List Bool))
flagged n b at flag = if flag == 0 then Ok (None, at) else if flag == 1 then some_present n b at else Err BadArray

-- which rows are not null: where the type is nullable, 0 where none is null, or 1 and a bitmap
abbrev pub presence_at : Bool → ℕ → List ℕ → ℕ → Found (Option (List Bool))
presence_at nullable n b at =
    if nullable
    then (if nat_lt at (length b) then flagged n b (at + 1) (slice_index b at) else Err BadArray)
    else Ok (None, at)

abbrev pub ints_here : PType → Bool → ℕ → List ℕ → Option (List Bool) × ℕ → Found Ints
ints_here p nullable n b (present, at) =
    if nat_le (value_size p * n) (length b - at) && every (is_clear p present b at) 0 n
    then Ok (record { ptype = p; nullable = nullable; rows = span (int_row p present b at) 0 n }, value_place p at n)
    else Err BadArray

-- integers: presence, and a value for each row
abbrev pub ints_at : PType → Bool → ℕ → List ℕ → ℕ → Found Ints
ints_at p nullable n b at = presence_at nullable n b at >>= ints_here p nullable n b

-- the value of a null row is false
abbrev pub is_false : Option (List Bool) → List ℕ → ℕ → ℕ → Bool
is_false present b at row = present_at present row || not (bit b at row)

abbrev pub bools_here : Bool → ℕ → List ℕ → Option (List Bool) × ℕ → Found Bools
bools_here nullable n b (present, at) = bitmap_end n b at >>= λ after.
    if every (is_false present b at) 0 n
    then Ok (record { nullable = nullable; rows = span (bool_row present (span (bit b at) 0 n)) 0 n }, after)
    else Err BadArray

-- truth values: presence, and a bitmap
abbrev pub bools_at : Bool → ℕ → List ℕ → ℕ → Found Bools
bools_at nullable n b at = presence_at nullable n b at >>= bools_here nullable n b

-- where the text of a row begins: behind those before it, whose lengths stand at a place
abbrev pub place_at : List ℕ → ℕ → ℕ → ℕ → ℕ
place_at b at start zero = start
place_at b at start (suc row) = place_at b at start row + raw_at U32 b (value_place U32 at row)

-- the places of so many texts, and the one behind the last
abbrev pub places_at : ℕ → List ℕ → ℕ → List ℕ
places_at n b at = span (place_at b at (value_place U32 at n)) 0 (n + 1)

-- whether the bytes between the place of a row and the next are a text
abbrev pub is_text : List ℕ → List ℕ → ℕ → Bool
is_text b places row = is_utf8 (slice_range b (slice_index places row) (slice_index places (row + 1)))

abbrev pub texts_here : Bool → ℕ → List ℕ → Option (List Bool) × ℕ → Found Texts
texts_here nullable n b (present, at) =
    if nat_le (value_size U32 * n) (length b - at) && every (is_clear U32 present b at) 0 n
    && nat_le (place_at b at (value_place U32 at n) n) (length b) && every (is_text b (places_at n b at)) 0 n
    then Ok (record { nullable = nullable; rows = span (text_row present b (places_at n b at)) 0 n }, place_at b at (value_place U32 at n) n)
    else Err BadArray

-- texts: presence, a length for each row, and then all bytes. The length of a null row is 0
abbrev pub texts_at : Bool → ℕ → List ℕ → ℕ → Found Texts
texts_at nullable n b at = presence_at nullable n b at >>= texts_here nullable n b
