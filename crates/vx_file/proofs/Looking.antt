-- What a tail tells, as the answer of a look.
use Rattle.std.specs.Prelude.{Result, Err}
use Rattle.vx_footer.specs.declared.deserializer.DeserializeStep.{DeserializeStep}
use Rattle.vx_footer.specs.declared.error.OpenError.{OpenError}
use Rattle.vx_footer.specs.declared.error.OpenError.TheVariants.{TooSmall, BadMagic, BadVersion, PostscriptTooLong, BadTable, Unsupported, TooManyMetadata, EmptyKey, LongKey, DuplicateKey, BadAlignment, MissingDType, BufferTooLong, OutOfBounds, StatsCount, PastEnd, UnknownEncoding, Unordered, OutOfMemory}
use Rattle.vx_footer.specs.Opening.{Fails}
use Rattle.vx_file.specs.declared.opening.Look.{Look}
use Rattle.vx_file.specs.declared.served.ServeError.{ServeError}
use Rattle.vx_file.specs.Tails.{Looks, Refuses, refused_as}

-- a refusal of the deserializer is that of the look, and it names a check
pub refused_look : (e : OpenError) (step : Result DeserializeStep OpenError) → Fails e step → Looks step (Err (refused_as e))
refused_look TooSmall step h = h
refused_look BadMagic step h = h
refused_look BadVersion step h = h
refused_look PostscriptTooLong step h = h
refused_look Unsupported step h = h
refused_look TooManyMetadata step h = h
refused_look EmptyKey step h = h
refused_look LongKey step h = h
refused_look DuplicateKey step h = h
refused_look BadAlignment step h = h
refused_look MissingDType step h = h
refused_look BufferTooLong step h = h
refused_look OutOfBounds step h = h
refused_look StatsCount step h = h
refused_look PastEnd step h = h
refused_look UnknownEncoding step h = h
refused_look Unordered step h = h
refused_look (BadTable w) step h = h
refused_look OutOfMemory step h = tt

pub refuses_look : (e : OpenError) → (let answer : Result Look ServeError = Err (refused_as e) in Refuses answer)
refuses_look TooSmall = tt
refuses_look BadMagic = tt
refuses_look BadVersion = tt
refuses_look PostscriptTooLong = tt
refuses_look Unsupported = tt
refuses_look TooManyMetadata = tt
refuses_look EmptyKey = tt
refuses_look LongKey = tt
refuses_look DuplicateKey = tt
refuses_look BadAlignment = tt
refuses_look MissingDType = tt
refuses_look BufferTooLong = tt
refuses_look OutOfBounds = tt
refuses_look StatsCount = tt
refuses_look PastEnd = tt
refuses_look UnknownEncoding = tt
refuses_look Unordered = tt
refuses_look (BadTable w) = tt
refuses_look OutOfMemory = tt
