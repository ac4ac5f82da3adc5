-- What a refusal of a table tells: it is the first check that fails. Want of memory tells nothing.
use Rattle.std.specs.Prelude.{◌≡◌, Result, Err}
use Rattle.vx_data.specs.declared.data_error.DataError.{DataError}
use Rattle.vx_data.specs.declared.data_error.DataError.TheVariants.{BadTable, Unsupported, UnknownEncoding, StatsCount, OutOfMemory}

abbrev pub Fails : {A : Type 0} → DataError → Result A DataError → Type 0
Fails BadTable answer = answer ≡ Err BadTable
Fails Unsupported answer = answer ≡ Err Unsupported
Fails UnknownEncoding answer = answer ≡ Err UnknownEncoding
Fails StatsCount answer = answer ≡ Err StatsCount
Fails OutOfMemory answer = Unit {0}
