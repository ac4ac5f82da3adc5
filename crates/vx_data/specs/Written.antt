-- What writing a table gives: its bytes, or the first limit that they would pass.
use Rattle.std.specs.Prelude.{◌≡◌, ℕ, ◌-◌, ◌^◌, nat_le, nat_lt, if◌then◌else◌, List, length, Option, Some, None, Result, Ok, Err}
use Rattle.vx_tables.specs.Block.{Piece, root_bytes}
use Rattle.vx_base.specs.Checks.{◌>>=◌, ◌unless◌}
use Rattle.vx_data.specs.declared.table_write_error.TableWriteError.{TableWriteError}
use Rattle.vx_data.specs.declared.table_write_error.TableWriteError.TheVariants.{TooDeep, TooManyTables, TableTooLong, OutOfMemory}

-- what a refusal tells: it is the first limit that is passed. Want of memory tells nothing.
abbrev pub FailsToWrite : {A : Type 0} → TableWriteError → Result A TableWriteError → Type 0
FailsToWrite TooDeep answer = answer ≡ Err TooDeep
FailsToWrite TooManyTables answer = answer ≡ Err TooManyTables
FailsToWrite TableTooLong answer = answer ≡ Err TableTooLong
FailsToWrite OutOfMemory answer = Unit {0}

-- what is left of so many visits
abbrev pub left_of : ℕ → ℕ → Option ℕ
left_of cost visits = if nat_le cost visits then Some (visits - cost) else None

abbrev pub root_written : List Piece → Result (List ℕ) TableWriteError
root_written ps = TableTooLong unless nat_lt (length (root_bytes ps)) (2 ^ 32) >>= λ _. Ok (root_bytes ps)

-- a table of so many levels and visits
abbrev pub written : ℕ → ℕ → List Piece → Result (List ℕ) TableWriteError
written levels visits ps =
    TooDeep unless nat_le levels 64 >>= λ _.
    TooManyTables unless nat_le visits 1000000 >>= λ _.
    root_written ps
