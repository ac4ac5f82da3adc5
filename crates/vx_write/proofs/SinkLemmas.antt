-- What stands after a segment that is not written.
use Rattle.std.proofs.Common.{◌≡◌, ◌-◌, ◌^◌, Bool, true, false, List, length, take, Err, inl, sym, subst}
use Rattle.std.specs.Prelude.{nat_lt}
use Rattle.vx_base.specs.Buffer.{Buffer}
use Rattle.vx_base.specs.Checks.{◌>>=◌, ◌unless◌}
use Rattle.vx_base.specs.Streams.{SinkState, Took}
use Rattle.vx_base.proofs.TakingLemmas.{took-nothing}
use Rattle.vx_footer.specs.PostscriptWritten.{FailsToWrite}
use Rattle.vx_footer.specs.Serialized.{joined}
use Rattle.vx_footer.specs.declared.write_error.WriteError.{WriteError}
use Rattle.vx_footer.specs.declared.write_error.WriteError.TheVariants.{TooManyMetadata, EmptyKey, LongKey, NotPermitted, TooDeep, TooManyTables, ChunkDType, RowsOverflow, ChunkFault, SegmentTooLong, TooManySegments, OffsetOverflow, WriteFault, WriterFailed, DuplicateKey, OutOfMemory}
use Rattle.vx_write.specs.Sinks.{Segments, behind, placed, place_checks, WritesSegment}

no_fault : (a b c : Bool) → (TooManySegments unless a >>= λ _. SegmentTooLong unless b >>= λ _. OffsetOverflow unless c) ≡ Err WriteFault → ⊥
no_fault true true true h = cc
no_fault true true false h = cc
no_fault true false c h = cc
no_fault false b c h = cc

-- checks are no fault of a sink
pub never_fault : (bs : List Buffer) (s : Segments) → place_checks bs s ≡ Err WriteFault → ⊥
unfolding place_checks
never_fault bs s h = no_fault (nat_lt (length s.specs) (2 ^ 32 - 1)) (nat_lt (length (joined bs)) (2 ^ 32)) (nat_lt (behind s.offset bs) (2 ^ 64)) h

-- memory ran out before any byte
pub nothing : (bs : List Buffer) (old new : Segments) (before now : SinkState) → new ≡ old → now ≡ before → WritesSegment bs old new before now (Err OutOfMemory)
nothing bs old new before now same still =
    let none = subst (λ (s : SinkState). Took (take 0 (placed old.offset bs)) before.gained s.gained) (sym still) (took-nothing (placed old.offset bs) before.gained) in
    (record { took = record { count = 0; took = none }; segments = same }, inl still)

-- a check failed
pub refused : (e : WriteError) (bs : List Buffer) (old new : Segments) (before now : SinkState) → FailsToWrite e (place_checks bs old) → new ≡ old → now ≡ before → WritesSegment bs old new before now (Err e)
refused OutOfMemory bs old new before now h same still = nothing bs old new before now same still
refused WriteFault bs old new before now h same still = absurd (never_fault bs old h)
refused TooManyMetadata bs old new before now h same still = record { refused = h; segments = same; still = still }
refused EmptyKey bs old new before now h same still = record { refused = h; segments = same; still = still }
refused LongKey bs old new before now h same still = record { refused = h; segments = same; still = still }
refused NotPermitted bs old new before now h same still = record { refused = h; segments = same; still = still }
refused TooDeep bs old new before now h same still = record { refused = h; segments = same; still = still }
refused TooManyTables bs old new before now h same still = record { refused = h; segments = same; still = still }
refused ChunkDType bs old new before now h same still = record { refused = h; segments = same; still = still }
refused RowsOverflow bs old new before now h same still = record { refused = h; segments = same; still = still }
refused ChunkFault bs old new before now h same still = record { refused = h; segments = same; still = still }
refused SegmentTooLong bs old new before now h same still = record { refused = h; segments = same; still = still }
refused TooManySegments bs old new before now h same still = record { refused = h; segments = same; still = still }
refused OffsetOverflow bs old new before now h same still = record { refused = h; segments = same; still = still }
refused WriterFailed bs old new before now h same still = record { refused = h; segments = same; still = still }
refused DuplicateKey bs old new before now h same still = record { refused = h; segments = same; still = still }

-- and it was none of a sink
pub no_write_fault : (e : WriteError) (bs : List Buffer) (s : Segments) → FailsToWrite e (place_checks bs s) → e ≡ WriteFault → ⊥
no_write_fault e bs s h is = never_fault bs s (subst (λ x. FailsToWrite x (place_checks bs s)) is h)
