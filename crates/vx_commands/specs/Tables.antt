-- The rows that an input spells: a line with their type, and a line for each of them.
use Rattle.std.specs.Prelude.{◌≡◌, ℕ, ◌+◌, nat_lt, if◌then◌else◌, ◌==◌, List, [], ◌∷◌, map, Option, Some, None, Result, Ok, Err}
use Rattle.vx_base.specs.Counts.{Rises}
use Rattle.vx_base.specs.Streams.{SourceState}
use Rattle.vx_data.specs.Dtype.{Dtype}
use Rattle.vx_data.specs.TextsRead.{dtype_of_text}
use Rattle.vx_rows.specs.ReadRows.{rows_of}
use Rattle.vx_rows.specs.Rows.{Rows}
use Rattle.vx_rows.specs.declared.rows_error.RowsError.{RowsError}
use Rattle.vx_rows.specs.declared.rows_error.RowsError.TheVariants.{BadLine, OutOfMemory}
use Rattle.vx_commands.specs.declared.failure.Failure.{Failure}
use Rattle.vx_commands.specs.declared.failure.Failure.TheVariants as failures
use Rattle.vx_commands.specs.Streams.{ReadToEnd}
use Rattle.vx_commands.specs.Input.{BadLength}

pub record TableValue : Type 0 where
  pub dtype : Dtype
  pub rows : Rows

-- no type and no value is spelled with a byte that is not ASCII, or with 0: the first reads as the second
abbrev pub as_ascii : ℕ → ℕ
as_ascii byte = if nat_lt byte 128 then byte else 0

-- the first line, and what follows its line feed
abbrev pub first_line : List ℕ → List ℕ
first_line [] = []
first_line (c ∷ cs) = if c == 10 then [] else c ∷ first_line cs

abbrev pub behind_line : List ℕ → List ℕ
behind_line [] = []
behind_line (c ∷ cs) = if c == 10 then cs else behind_line cs

-- lines are numbered from 1, and the first row is the second line
abbrev pub line_of : RowsError → ℕ
line_of (BadLine number) = number + 2
line_of OutOfMemory = 0

abbrev pub with_dtype : Dtype → Result Rows RowsError → Result TableValue ℕ
with_dtype d (Ok c) = Ok (record { dtype = d; rows = c })
with_dtype d (Err e) = Err (line_of e)

abbrev pub typed_rows : Option Dtype → List ℕ → Result TableValue ℕ
typed_rows None text = Err 1
typed_rows (Some d) text = with_dtype d (rows_of d text)

abbrev pub table_in : List ℕ → Result TableValue ℕ
table_in text = typed_rows (dtype_of_text (first_line text)) (behind_line text)

-- the rows that a text spells, or its first line that is in no grammar
abbrev pub table_of : List ℕ → Result TableValue ℕ
table_of text = table_in (map as_ascii text)

-- the input was read to its end, and these are the rows that it spells
abbrev pub ReadsTable : SourceState → SourceState → TableValue → Type 0
ReadsTable before now t = (text : List ℕ) → before.rest ≡ Some text → ReadToEnd text now × (table_of text ≡ Ok t)

-- the input, read to its end, has this line first that is in no grammar
abbrev pub BadTableLine : ℕ → SourceState → SourceState → Type 0
BadTableLine line before now = (text : List ℕ) → before.rest ≡ Some text → ReadToEnd text now × (table_of text ≡ Err line)

-- ---- causes

-- the rows of a type that a text spells, or why not
abbrev pub RowsCause : Dtype → List ℕ → Result TableValue Failure → Type 0
RowsCause d text (Ok t) = with_dtype d (rows_of d text) ≡ Ok t
RowsCause d text (Err (failures.Line line)) = with_dtype d (rows_of d text) ≡ Err line
RowsCause d text (Err failures.OutOfMemory) = Unit {0}
RowsCause d text (Err _) = ⊥

-- the rows that a text spells, in which each byte is ASCII or reads as 0, or why not
abbrev pub TableCause : List ℕ → Result TableValue Failure → Type 0
TableCause text (Ok t) = table_of text ≡ Ok t
TableCause text (Err (failures.Line line)) = table_of text ≡ Err line
TableCause text (Err failures.OutOfMemory) = Unit {0}
TableCause text (Err _) = ⊥

-- the rows that an input spells, or why not
abbrev pub InputTableCause : SourceState → SourceState → Result TableValue Failure → Type 0
InputTableCause before now (Ok t) = ReadsTable before now t
InputTableCause before now (Err (failures.Line line)) = BadTableLine line before now
InputTableCause before now (Err failures.Input) = Rises 1 before.faults now.faults
InputTableCause before now (Err failures.InputTooLong) = BadLength before now
InputTableCause before now (Err failures.OutOfMemory) = Unit {0}
InputTableCause before now (Err _) = ⊥
