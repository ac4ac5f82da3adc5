-- What the last bytes of a file tell of it, step by step.
use Rattle.std.specs.Prelude.{◌≡◌, ℕ, ◌+◌, ◌-◌, ◌≤◌, Bool, ◌&&◌, true, false, nat_le, if◌then◌else◌, List, length, drop, Option, Some, None, Result, Ok, Err}
use Rattle.vx_base.specs.Buffer.{bytes_at}
use Rattle.vx_base.specs.Checks.{◌>>=◌, ◌unless◌}
use Rattle.vx_data.specs.Dtype.{Dtype}
use Rattle.vx_footer.specs.declared.error.OpenError.{OpenError}
use Rattle.vx_footer.specs.declared.error.OpenError.TheVariants.{BufferTooLong, TooSmall, OutOfMemory}
use Rattle.vx_footer.specs.declared.version.FileVersion.{FileVersion}
use Rattle.vx_footer.specs.declared.postscript.PostscriptSegment.{PostscriptSegment}
use Rattle.vx_footer.specs.declared.postscript.Postscript.{Postscript}
use Rattle.vx_footer.specs.declared.deserializer.DeserializeStep.{DeserializeStep}
use Rattle.vx_footer.specs.declared.deserializer.DeserializeStep.TheVariants.{NeedMoreData, NeedFileSize, Done}
use Rattle.vx_footer.specs.Footers.{FooterContent, approx_of}
use Rattle.vx_footer.specs.Opening.{postscript_length, marker_checks, table_bytes, tail_checks, table_checks, least_offset}

-- the bytes of a table in the part of a file that begins at a start
abbrev pub seen_bytes : ℕ → List ℕ → PostscriptSegment → Option (List ℕ)
seen_bytes start seen s =
    if nat_le start s.offset && nat_le (s.offset + s.length) (start + length seen) then Some (bytes_at seen (s.offset - start) s.length) else None

abbrev pub done_step : Postscript → Result FooterContent OpenError → Result DeserializeStep OpenError
done_step p footer = footer >>= λ f. Ok (Done (record { content = f; approx_byte_size = Some (approx_of p) }))

-- the tables, which are got by `piece`, where the least offset that is needed is not before the start
abbrev pub tables_step : Option Dtype → ℕ → (PostscriptSegment → Option (List ℕ)) → FileVersion → Postscript → Result DeserializeStep OpenError
tables_step dtype start piece version p =
    if nat_le start (least_offset dtype p) then done_step p (table_checks piece dtype version p)
    else Ok (NeedMoreData (least_offset dtype p) (start - least_offset dtype p))

-- the last bytes of a file of this size
abbrev pub sized_step : Option Dtype → Option ℕ → List ℕ → FileVersion → Postscript → Result DeserializeStep OpenError
sized_step dtype None seen version p = Ok NeedFileSize
sized_step dtype (Some size) seen version p =
    BufferTooLong unless nat_le (length seen) size >>= λ _. tables_step dtype (size - length seen) (seen_bytes (size - length seen) seen) version p

-- the tail checks, then the size, then the length, then the tables
unfoldable pub step_of : Option Dtype → Option ℕ → List ℕ → Result DeserializeStep OpenError
step_of dtype size seen = do
  tail ← tail_checks dtype seen
  sized_step dtype size seen tail.0 tail.1

-- whether a step asks for bytes
abbrev pub asks_bytes : Result DeserializeStep OpenError → Bool
asks_bytes (Ok (NeedMoreData offset len)) = true
asks_bytes (Ok NeedFileSize) = false
asks_bytes (Ok (Done f)) = false
asks_bytes (Err e) = false

-- ---- the file that the bytes are the last ones of

-- the step of a whole file, of which the bytes from a start on are seen
unfoldable pub file_step : Option Dtype → List ℕ → ℕ → Result DeserializeStep OpenError
file_step dtype file start = do
  tail ← tail_checks dtype file
  tables_step dtype start (table_bytes file) tail.0 tail.1

-- the last bytes of a file, from a start on
pub record IsSuffix (file : List ℕ) (start : ℕ) (seen : List ℕ) : Type 0 where
  pub bytes : seen ≡ drop start file
  pub total : start + length seen ≡ length file

-- bytes that have an end marker and, where it is in order, the postscript before it
pub record HasEnd (seen : List ℕ) : Type 0 where
  pub marker : 8 ≤ length seen
  pub postscript : (version : FileVersion) → marker_checks seen ≡ Ok version → postscript_length seen + 8 ≤ length seen

-- what the last bytes of a file tell is true of the file, but that the file may be longer than they are
abbrev pub IsOfFile : Option Dtype → List ℕ → ℕ → Result DeserializeStep OpenError → Type 0
IsOfFile dtype file start (Ok step) = file_step dtype file start ≡ Ok step
IsOfFile dtype file start (Err TooSmall) = Unit {0}
IsOfFile dtype file start (Err OutOfMemory) = Unit {0}
IsOfFile dtype file start (Err e) = file_step dtype file start ≡ Err e
