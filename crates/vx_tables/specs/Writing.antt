-- What finishing a table gives.
use Rattle.std.specs.Prelude.{◌≡◌, ◌<◌, ◌≤◌, ◌^◌, ℕ, List, length, Result, Ok, Err}
use Rattle.vx_base.specs.Buffer.{Buffer}
use Rattle.vx_tables.specs.declared.table_error.TableError.{TableError}
use Rattle.vx_tables.specs.declared.table_error.TableError.TheVariants.{TableTooLong, OutOfMemory}

-- these bytes, which are too long exactly where they exceed 2^32 - 1, unless memory runs out
abbrev pub Finishes : Result Buffer TableError → List ℕ → Type 0
Finishes (Ok buffer) written = (buffer.bytes ≡ written) × (buffer.alignment ≡ 0) × (length written < 2 ^ 32)
Finishes (Err TableTooLong) written = 2 ^ 32 ≤ length written
Finishes (Err OutOfMemory) written = Unit {0}
