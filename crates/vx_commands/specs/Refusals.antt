-- The names of refusals.
use Rattle.std.specs.Prelude.{ℕ, List, codes}
use Rattle.vx_footer.specs.declared.error.OpenError.{OpenError}
use Rattle.vx_footer.specs.declared.error.OpenError.TheVariants as refusals
use Rattle.vx_footer.specs.declared.error.Which.TheVariants as which
use Rattle.vx_footer.specs.declared.write_error.WriteError.{WriteError}
use Rattle.vx_footer.specs.declared.write_error.WriteError.TheVariants as write_error
use Rattle.vx_rows.specs.declared.array_error.ArrayError.{ArrayError}
use Rattle.vx_rows.specs.declared.array_error.ArrayError.TheVariants as undecoded
use Rattle.vx_rows.specs.declared.bind_error.BindError.{BindError}
use Rattle.vx_rows.specs.declared.bind_error.BindError.TheVariants as unbound

-- the check's name, and in brackets the table that it is about
abbrev pub refusal_words : OpenError → List ℕ
refusal_words refusals.TooSmall = codes "TooSmall"
refusal_words refusals.BadMagic = codes "BadMagic"
refusal_words refusals.BadVersion = codes "BadVersion"
refusal_words refusals.PostscriptTooLong = codes "PostscriptTooLong"
refusal_words refusals.Unsupported = codes "Unsupported"
refusal_words refusals.TooManyMetadata = codes "TooManyMetadata"
refusal_words refusals.EmptyKey = codes "EmptyKey"
refusal_words refusals.LongKey = codes "LongKey"
refusal_words refusals.DuplicateKey = codes "DuplicateKey"
refusal_words refusals.BadAlignment = codes "BadAlignment"
refusal_words refusals.MissingDType = codes "MissingDType"
refusal_words refusals.BufferTooLong = codes "BufferTooLong"
refusal_words refusals.OutOfBounds = codes "OutOfBounds"
refusal_words refusals.StatsCount = codes "StatsCount"
refusal_words refusals.PastEnd = codes "PastEnd"
refusal_words refusals.UnknownEncoding = codes "UnknownEncoding"
refusal_words refusals.Unordered = codes "Unordered"
refusal_words refusals.OutOfMemory = codes "OutOfMemory"
refusal_words (refusals.BadTable which.Postscript) = codes "BadTable(Postscript)"
refusal_words (refusals.BadTable which.DType) = codes "BadTable(DType)"
refusal_words (refusals.BadTable which.Layout) = codes "BadTable(Layout)"
refusal_words (refusals.BadTable which.Statistics) = codes "BadTable(Statistics)"
refusal_words (refusals.BadTable which.Footer) = codes "BadTable(Footer)"

-- the reason why a predicate is not bound
abbrev pub bind_error_words : BindError → List ℕ
bind_error_words unbound.NoField = codes "NoField"
bind_error_words unbound.TypeMismatch = codes "TypeMismatch"
bind_error_words unbound.NarrowingCast = codes "NarrowingCast"
bind_error_words unbound.OutOfMemory = codes "OutOfMemory"

-- why the bytes of a segment are no array
abbrev pub array_error_words : ArrayError → List ℕ
array_error_words undecoded.BadArray = codes "BadArray"
array_error_words undecoded.UnknownEncoding = codes "UnknownEncoding"
array_error_words undecoded.OutOfMemory = codes "OutOfMemory"

-- the check that refuses a file that is written
abbrev pub write_error_words : WriteError → List ℕ
write_error_words write_error.TooManyMetadata = codes "TooManyMetadata"
write_error_words write_error.EmptyKey = codes "EmptyKey"
write_error_words write_error.LongKey = codes "LongKey"
write_error_words write_error.NotPermitted = codes "NotPermitted"
write_error_words write_error.TooDeep = codes "TooDeep"
write_error_words write_error.TooManyTables = codes "TooManyTables"
write_error_words write_error.ChunkDType = codes "ChunkDType"
write_error_words write_error.RowsOverflow = codes "RowsOverflow"
write_error_words write_error.ChunkFault = codes "ChunkFault"
write_error_words write_error.SegmentTooLong = codes "SegmentTooLong"
write_error_words write_error.TooManySegments = codes "TooManySegments"
write_error_words write_error.OffsetOverflow = codes "OffsetOverflow"
write_error_words write_error.WriteFault = codes "WriteFault"
write_error_words write_error.WriterFailed = codes "WriterFailed"
write_error_words write_error.DuplicateKey = codes "DuplicateKey"
write_error_words write_error.OutOfMemory = codes "OutOfMemory"
