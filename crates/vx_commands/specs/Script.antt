-- The script that a text spells: one step a line.
use Rattle.std.specs.Prelude.{◌+◌, ◌^◌, ◌≡◌, ◌++◌, ℕ, codes, ◌==◌, nat_lt, if◌then◌else◌, List, [], ◌∷◌, Option, Some, None, Result, Ok, Err}
use Rattle.std.specs.Str.{bytes_eq}
use Rattle.vx_commands.specs.declared.script.ScriptError.{ScriptError}
use Rattle.vx_commands.specs.declared.script.ScriptError.TheVariants.{Line, OutOfMemory}
use Rattle.vx_file.specs.declared.Step.{Step}
use Rattle.vx_file.specs.declared.Step.TheVariants.{Register, Poll, Drop, Drive}
use Rattle.vx_text.specs.Numbers.{number_of}

abbrev pub register_of : Option ℕ → Option Step
register_of None = None
register_of (Some number) = if nat_lt number (2 ^ 32) then Some (Register number) else None

abbrev pub poll_of : Option ℕ → Option Step
poll_of None = None
poll_of (Some number) = Some (Poll number)

abbrev pub drop_of : Option ℕ → Option Step
drop_of None = None
drop_of (Some number) = Some (Drop number)

abbrev pub numbered_step : List ℕ → Option Step
numbered_step [] = None
numbered_step (letter ∷ []) = None
numbered_step (letter ∷ space ∷ digits) =
    if space == 32 then
    (if letter == 114 then register_of (number_of digits)
    else if letter == 112 then poll_of (number_of digits)
    else if letter == 100 then drop_of (number_of digits)
    else None)
    else None

-- `r SEGMENT` registers, `p NUMBER` polls, `d NUMBER` drops, `go` drives
unfoldable pub step_of : List ℕ → Option Step
step_of line = if bytes_eq line (codes "go") then Some Drive else numbered_step line

-- a byte before the first of some lines
abbrev pub onto_first : ℕ → List (List ℕ) → List (List ℕ)
onto_first byte [] = (byte ∷ []) ∷ []
onto_first byte (line ∷ lines) = (byte ∷ line) ∷ lines

-- the lines of a text, each ended by a line feed, which may lack at the end
abbrev pub lines_of : List ℕ → List (List ℕ)
lines_of [] = []
lines_of (byte ∷ bytes) = if byte == 10 then [] ∷ lines_of bytes else onto_first byte (lines_of bytes)

-- how many bytes stand before the first line feed
abbrev pub line_length : List ℕ → ℕ
line_length [] = 0
line_length (byte ∷ bytes) = if byte == 10 then 0 else line_length bytes + 1

abbrev pub with_step : Step → Result (List Step) ℕ → Result (List Step) ℕ
with_step step (Ok steps) = Ok (step ∷ steps)
with_step step (Err line) = Err line

abbrev pub go_on : ℕ → Option Step → Result (List Step) ℕ → Result (List Step) ℕ
go_on line None rest = Err line
go_on line (Some step) rest = with_step step rest

-- the steps of lines of which the first has this number, or the number of the first that is no step
abbrev pub steps_from : ℕ → List (List ℕ) → Result (List Step) ℕ
steps_from number [] = Ok []
steps_from number (line ∷ lines) = go_on number (step_of line) (steps_from (number + 1) lines)

-- the steps of a text, or the number of its first line, from 1, that is no step
abbrev pub script_of : List ℕ → Result (List Step) ℕ
script_of text = steps_from 1 (lines_of text)

-- what a reader of a script answers, where this is the script
abbrev pub Fails : ScriptError → Result (List Step) ℕ → Type 0
Fails OutOfMemory script = Unit {0}
Fails (Line number) script = script ≡ Err number

abbrev pub Reads : Result (List Step) ScriptError → Result (List Step) ℕ → Type 0
Reads (Ok steps) script = script ≡ Ok steps
Reads (Err error) script = Fails error script

-- more steps after these, where the rest could be read
abbrev pub with_front : List Step → Result (List Step) ℕ → Result (List Step) ℕ
with_front front (Ok steps) = Ok (front ++ steps)
with_front front (Err line) = Err line
