-- The ranges that opening a file asks, and where the tail begins that they give.
use Rattle.std.specs.Prelude.{ℕ, ◌-◌, min, nat_lt, if◌then◌else◌, List, [], ◌∷◌, length, map, None, Result, Ok, Err}
use Rattle.vx_base.specs.Asking.{Log}
use Rattle.vx_base.specs.declared.answer.ReadAtRequest.{ReadAtRequest}
use Rattle.vx_file.specs.Hints.{Hints, first_length}
use Rattle.vx_footer.specs.declared.error.OpenError.{OpenError}
use Rattle.vx_footer.specs.declared.postscript.Postscript.{Postscript}
use Rattle.vx_footer.specs.declared.version.FileVersion.{FileVersion}
use Rattle.vx_footer.specs.Opening.{tail_checks, least_offset}

-- where the first read begins: it asks for the last bytes, or for the whole file where it is shorter
abbrev pub first_start : Hints → ℕ → ℕ
first_start hints size = size - first_length hints

-- the lesser of an offset and that of the first table that is needed, where the tail checks pass
abbrev pub reached : Hints → Result (FileVersion × Postscript) OpenError → ℕ → ℕ
reached hints (Ok tail) start = min (least_offset hints.dtype tail.1) start
reached hints (Err e) start = start

-- where the tail begins that is read of a file
abbrev pub tail_start : Hints → List ℕ → ℕ
tail_start hints file = reached hints (tail_checks hints.dtype file) (first_start hints (length file))

-- what lies before the first range, where a table does
abbrev pub range_before : ℕ → ℕ → List (ℕ × ℕ)
range_before start first = if nat_lt start first then (start, first - start) ∷ [] else []

-- the first range, and what lies before it
abbrev pub tail_ranges : Hints → List ℕ → List (ℕ × ℕ)
tail_ranges hints file = (first_start hints (length file), length file - first_start hints (length file))
    ∷ range_before (tail_start hints file) (first_start hints (length file))

-- an opening range is asked without an alignment
abbrev pub opening_range : ℕ × ℕ → ReadAtRequest
opening_range r = record { offset = r.0; length = r.1; alignment = 0 }

-- opening ranges that got their bytes
abbrev pub opened : List (ℕ × ℕ) → Log
opened ranges = map (λ r. record { range = opening_range r; mark = None }) ranges
