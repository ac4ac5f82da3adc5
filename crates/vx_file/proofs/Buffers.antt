-- A file in memory is prepared.
use Rattle.std.proofs.Common.{◌≡◌, ℕ, Bool, true, false, List, [], Option, Some, None, Result, Ok, Err, refl, ap, subst, arith}
use Rattle.vx_base.specs.Caches.{CacheState, nothing_held}
use Rattle.vx_base.specs.Readers.{ReaderState}
use Rattle.vx_base.specs.declared.segment.SegmentSpec.{SegmentSpec}
use Rattle.vx_footer.specs.Footers.{FooterContent}
use Rattle.vx_source.specs.Bytes.{TellsSlices}
use Rattle.vx_source.specs.Fits.{World}
use Rattle.vx_source.specs.declared.span.Span.{Span}
use Rattle.vx_file.specs.declared.metadata.MetadataValue.{MetadataValue}
use Rattle.vx_file.specs.declared.prepared.Prepared.{Prepared}
use Rattle.vx_file.specs.declared.served.ServeError.{ServeError}
use Rattle.vx_file.specs.declared.served.ServeError.TheVariants.{Open, Fault as FaultOf, CacheFault, OutOfMemory}
use Rattle.vx_file.specs.Buffers.{in_buffer, values_if, PreparesBuffer}
use Rattle.vx_file.specs.Hints.{Hints}
use Rattle.vx_file.specs.Plans.{plan_of}
use Rattle.vx_file.specs.Prepared.{PrepareCause}
use Rattle.vx_file.specs.Serving.{FaultRose, LoadsIf, HaveValues}

nothing-tells : (file : List ℕ) (table : List SegmentSpec) → TellsSlices file table nothing_held
nothing-tells file table = record { entries = []; told = refl; slices = λ s buffer e. absurd cc }

values-are : (include : Bool) (w : World) (file : List ℕ) (footer : FooterContent) (cache cache_now : CacheState) (metadata : Option (List MetadataValue)) (spans : List Span) (numbers : List ℕ)
    → LoadsIf include w file footer cache cache_now metadata spans numbers → HaveValues file footer metadata → metadata ≡ values_if include file footer
values-are false w file footer cache cache_now metadata spans numbers h have = h.0
values-are true w file footer cache cache_now None spans numbers h have = absurd h
values-are true w file footer cache cache_now (Some values) spans numbers h have = ap (λ vs. Some vs) have

known-prepared : (hints : Hints) (bytes : List ℕ) (before now : ReaderState) (answer : Result Prepared ServeError) → before.faults ≡ 0 → now.faults ≡ before.faults
    → PrepareCause (plan_of (in_buffer hints bytes) bytes) hints.metadata bytes before now nothing_held nothing_held answer → FaultRose before now nothing_held nothing_held answer → PreparesBuffer hints bytes answer
known-prepared hints bytes before now (Ok p) none still h rose = record {
  footer = h.prepares.footer_is;
  metadata = values-are hints.metadata _ bytes p.footer.content h.prepares.filled nothing_held p.metadata h.prepares.spans h.prepares.numbers h.prepares.loads (h.prepares.true_of (nothing-tells bytes _));
}
known-prepared hints bytes before now (Err (Open e)) none still h rose = h.fails
known-prepared hints bytes before now (Err (FaultOf fault)) none still h rose = omega (arith, none, still, rose.risen)
known-prepared hints bytes before now (Err CacheFault) none still h rose = omega (arith, rose.risen)
known-prepared hints bytes before now (Err OutOfMemory) none still h rose = tt

pub buffer-prepared : (hints known : Hints) (bytes : List ℕ) (before now : ReaderState) (answer : Result Prepared ServeError) → known ≡ in_buffer hints bytes → before.faults ≡ 0 → now.faults ≡ before.faults
    → PrepareCause (plan_of known bytes) known.metadata bytes before now nothing_held nothing_held answer → FaultRose before now nothing_held nothing_held answer → PreparesBuffer hints bytes answer
buffer-prepared hints known bytes before now answer is none still h rose =
    known-prepared hints bytes before now answer none still (subst (λ (k : Hints). PrepareCause (plan_of k bytes) k.metadata bytes before now nothing_held nothing_held answer) is h) rose
