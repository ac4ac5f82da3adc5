-- What a reader in memory answers, with its mischief.
use Rattle.std.specs.Prelude.{ℕ, ◌+◌, ◌-◌, Bool, true, false, ◌&&◌, ◌==◌, min, nat_le, List, [], ◌∷◌, ◌++◌, length, take, Option, Some, None, Result, Ok, Err, if◌then◌else◌}
use Rattle.std.specs.List.{list_any}
use Rattle.vx_base.specs.Buffer.{Buffer, bytes_at}
use Rattle.vx_base.specs.Counts.{last_count, next_count}
use Rattle.vx_base.specs.declared.answer.ReadAtRequest.{ReadAtRequest}
use Rattle.vx_base.specs.declared.answer.RangeAnswer.{RangeAnswer}
use Rattle.vx_base.specs.declared.fault.Failed.{Failed}
use Rattle.vx_base.specs.declared.mischief.Mischief.{Mischief}
use Rattle.vx_base.specs.declared.mischief.MischiefKind.{MischiefKind}
use Rattle.vx_base.specs.declared.mischief.MischiefKind.TheVariants.{Fail, Short, Skip, Unknown, Late, Size, Clone}

-- ---- where there is mischief

-- whether mischief of a kind is done at a range
abbrev pub is_of_range : MischiefKind → Bool
is_of_range Fail = true
is_of_range Short = true
is_of_range Skip = true
is_of_range Unknown = true
is_of_range Late = true
is_of_range Size = false
is_of_range Clone = false

abbrev pub is_size : MischiefKind → Bool
is_size Fail = false
is_size Short = false
is_size Skip = false
is_size Unknown = false
is_size Late = false
is_size Size = true
is_size Clone = false

abbrev pub is_clone : MischiefKind → Bool
is_clone Fail = false
is_clone Short = false
is_clone Skip = false
is_clone Unknown = false
is_clone Late = false
is_clone Size = false
is_clone Clone = true

-- whether there is no mischief
abbrev pub is_well_behaved : List Mischief → Bool
is_well_behaved [] = true
is_well_behaved (_ ∷ _) = false

-- the mischief at the range of this place in the log: the first that names it
abbrev pub mischief_at : List Mischief → ℕ → Option MischiefKind
mischief_at [] place = None
mischief_at (m ∷ rest) place = if (m.at == place) && is_of_range m.kind then Some m.kind else mischief_at rest place

-- whether the call for the size of this place fails, and whether the call for a clone does
abbrev pub fails_size : List Mischief → ℕ → Bool
fails_size mischief place = list_any (λ m. (m.at == place) && is_size m.kind) mischief

abbrev pub fails_clone : List Mischief → ℕ → Bool
fails_clone mischief place = list_any (λ m. (m.at == place) && is_clone m.kind) mischief

-- ---- what is answered

-- without mischief a range gets its bytes, or a failure where it does not lie in all the bytes
abbrev pub plain_answer : List ℕ → ReadAtRequest → RangeAnswer Buffer
plain_answer bytes range = record {
  request = range;
  result = if nat_le (range.offset + range.length) (length bytes)
      then Ok (record { bytes = bytes_at bytes range.offset range.length; alignment = range.alignment })
      else Err (record {});
}

abbrev pub failed_answer : ReadAtRequest → RangeAnswer Buffer
failed_answer range = record { request = range; result = Err (record {}) }

-- bytes without the last one, or one byte where there is none
abbrev pub without_last : Buffer → Buffer
without_last b = if length b.bytes == 0 then record { bytes = 0 ∷ []; alignment = 0 } else record b { bytes = take (length b.bytes - 1) b.bytes }

abbrev pub short_result : Result Buffer Failed → Result Buffer Failed
short_result (Ok b) = Ok (without_last b)
short_result (Err e) = Err e

abbrev pub short_answer : List ℕ → ReadAtRequest → RangeAnswer Buffer
short_answer bytes range = record { request = range; result = short_result (plain_answer bytes range).result }

-- the range 4 past this one
abbrev pub past : ReadAtRequest → ReadAtRequest
past range = record range { offset = min (range.offset + 4) last_count }

-- the answers to a range in the first turn of a call
abbrev pub prompt_answers : List ℕ → Option MischiefKind → ReadAtRequest → List (RangeAnswer Buffer)
prompt_answers bytes None range = plain_answer bytes range ∷ []
prompt_answers bytes (Some Fail) range = failed_answer range ∷ []
prompt_answers bytes (Some Short) range = short_answer bytes range ∷ []
prompt_answers bytes (Some Skip) range = []
prompt_answers bytes (Some Unknown) range = plain_answer bytes (past range) ∷ plain_answer bytes range ∷ []
prompt_answers bytes (Some Late) range = []
prompt_answers bytes (Some Size) range = plain_answer bytes range ∷ []
prompt_answers bytes (Some Clone) range = plain_answer bytes range ∷ []

-- the answers to a range in the second turn, which comes after the first of all ranges
abbrev pub late_answers : List ℕ → Option MischiefKind → ReadAtRequest → List (RangeAnswer Buffer)
late_answers bytes None range = []
late_answers bytes (Some Fail) range = []
late_answers bytes (Some Short) range = []
late_answers bytes (Some Skip) range = []
late_answers bytes (Some Unknown) range = []
late_answers bytes (Some Late) range = plain_answer bytes range ∷ []
late_answers bytes (Some Size) range = []
late_answers bytes (Some Clone) range = []

-- the answers to a range in one of the two turns
abbrev pub turn_answers : Bool → List ℕ → Option MischiefKind → ReadAtRequest → List (RangeAnswer Buffer)
turn_answers late bytes kind range = if late then late_answers bytes kind range else prompt_answers bytes kind range

-- the answers of one turn to ranges of which the first has this place in the log
abbrev pub turn : Bool → List ℕ → List Mischief → ℕ → List ReadAtRequest → List (RangeAnswer Buffer)
turn late bytes mischief place [] = []
turn late bytes mischief place (range ∷ rest) =
    turn_answers late bytes (mischief_at mischief place) range ++ turn late bytes mischief (next_count place) rest

-- all answers of a call
abbrev pub answers_of : List ℕ → List Mischief → ℕ → List ReadAtRequest → List (RangeAnswer Buffer)
answers_of bytes mischief place ranges = turn false bytes mischief place ranges ++ turn true bytes mischief place ranges
