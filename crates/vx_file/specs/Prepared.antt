-- What preparing a file for a script gives: it is opened, and its metadata loaded where that is asked for.
use Rattle.std.specs.Prelude.{◌≡◌, ℕ, Bool, List, ◌++◌, Result, Ok, Err, ◌⊎◌}
use Rattle.vx_base.specs.Caches.{Segments, CacheState}
use Rattle.vx_base.specs.Counts.{Rises}
use Rattle.vx_base.specs.Readers.{ReaderState, settings_of}
use Rattle.vx_footer.specs.Footers.{segment_table}
use Rattle.vx_source.specs.Asks.{Grew, asked_by, bad_spans}
use Rattle.vx_source.specs.Bytes.{TellsSlices}
use Rattle.vx_source.specs.Puts.{Gains}
use Rattle.vx_source.specs.declared.reply.FailCause.TheVariants as cause
use Rattle.vx_file.specs.declared.prepared.Prepared.{Prepared}
use Rattle.vx_file.specs.declared.served.ServeError.{ServeError}
use Rattle.vx_file.specs.declared.served.ServeError.TheVariants as errors
use Rattle.vx_file.specs.Opened.{IsTailAt}
use Rattle.vx_file.specs.Plans.{Plan, covered_by}
use Rattle.vx_file.specs.Ranges.{opened}
use Rattle.vx_file.specs.Serving.{Prepares, RefusedFrom, SizeFault, TailFault, CacheRefused, MetadataFault, StopsOpening, StopsMetadata, numbers_of}

-- a file was prepared: what was read of it, what the reader was asked, and what the cache was given
pub record PreparedFrom (plan : Plan) (include : Bool) (file : List ℕ) (before now : ReaderState) (cache cache_now : CacheState) (p : Prepared) : Type 0 where
  pub prepares : Prepares plan include file (settings_of before) cache cache_now p.footer.content p.opening p.metadata
  pub tail : IsTailAt file plan.start p.tail
  pub asked : Grew (opened plan.ranges ++ asked_by prepares.spans) before.log now.log
  pub bad : Rises (bad_spans prepares.spans) before.faults now.faults
  pub driven : Segments
  pub numbers : numbers_of driven ≡ prepares.numbers
  pub gains : Gains (covered_by plan file p.footer.content ++ driven) cache cache_now
  pub slices : TellsSlices file (segment_table p.footer.content) cache → TellsSlices file (segment_table p.footer.content) cache_now
  -- what stands where memory runs out right behind
  pub ready : StopsMetadata plan before now cache_now

abbrev pub PrepareCause : Plan → Bool → List ℕ → ReaderState → ReaderState → CacheState → CacheState → Result Prepared ServeError → Type 0
PrepareCause plan include file before now cache cache_now (Ok p) = PreparedFrom plan include file before now cache cache_now p
PrepareCause plan include file before now cache cache_now (Err (errors.Open e)) = RefusedFrom plan before now e
PrepareCause plan include file before now cache cache_now (Err (errors.Fault fault)) =
    SizeFault plan before now fault ⊎ TailFault plan before now fault ⊎ MetadataFault plan before now cache_now (cause.Fault fault)
PrepareCause plan include file before now cache cache_now (Err errors.CacheFault) =
    CacheRefused plan before now ⊎ MetadataFault plan before now cache_now cause.Cache
PrepareCause plan include file before now cache cache_now (Err errors.OutOfMemory) = StopsOpening plan before now ⊎ StopsMetadata plan before now cache_now
