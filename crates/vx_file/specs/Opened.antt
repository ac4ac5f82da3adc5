-- What opening a file gives, and its causes.
use Rattle.std.specs.Prelude.{◌≡◌, ℕ, List, [], Option, Some, None, Result, Ok, Err, ◌⊎◌}
use Rattle.vx_base.specs.Counts.{Rises}
use Rattle.vx_base.specs.Readers.{ReaderState}
use Rattle.vx_footer.specs.Footers.{FooterContent}
use Rattle.vx_footer.specs.Opening.{extent_check}
use Rattle.vx_source.specs.Asks.{Grew}
use Rattle.vx_source.specs.declared.tail.Tail.{Tail}
use Rattle.vx_file.specs.declared.opened.Opened.{Opened}
use Rattle.vx_file.specs.declared.served.ServeError.{ServeError}
use Rattle.vx_file.specs.declared.served.ServeError.TheVariants as errors
use Rattle.vx_file.specs.Plans.{Plan, greatest_end}
use Rattle.vx_file.specs.Ranges.{opened}
use Rattle.vx_file.specs.Serving.{RefusedFrom, SizeFault, TailFault, StopsOpening}
use Rattle.vx_file.specs.Tails.{TailFrom}

-- the bytes of a file from an offset on, where a tail is read
abbrev pub IsTailAt : List ℕ → Option ℕ → Option Tail → Type 0
IsTailAt file None None = Unit {0}
IsTailAt file None (Some tail) = ⊥
IsTailAt file (Some start) None = ⊥
IsTailAt file (Some start) (Some tail) = TailFrom file start tail

-- a file was opened by a plan: its footer, its tail, and what was asked
pub record OpensBy (plan : Plan) (file : List ℕ) (before now : ReaderState) (o : Opened) : Type 0 where
  pub footer : plan.footer ≡ Ok o.footer.content
  pub ranges : o.ranges ≡ plan.ranges
  pub tail : IsTailAt file plan.start o.tail
  pub asked : Grew (opened plan.ranges) before.log now.log
  pub rises : Rises 0 before.faults now.faults

abbrev pub OpenCause : Plan → List ℕ → ReaderState → ReaderState → Result Opened ServeError → Type 0
OpenCause plan file before now (Ok o) = OpensBy plan file before now o
OpenCause plan file before now (Err (errors.Open e)) = RefusedFrom plan before now e
OpenCause plan file before now (Err (errors.Fault fault)) = SizeFault plan before now fault ⊎ TailFault plan before now fault
OpenCause plan file before now (Err errors.CacheFault) = ⊥
OpenCause plan file before now (Err errors.OutOfMemory) = StopsOpening plan before now

-- a file is opened by its footer: no tail is read, and only the ends of the segments are checked
pub record IsSupplied (size : Option ℕ) (supplied : FooterContent) (o : Opened) : Type 0 where
  pub footer : extent_check (greatest_end size) supplied ≡ Ok o.footer.content
  pub tail : o.tail ≡ None
  pub ranges : o.ranges ≡ []

abbrev pub Supplies : Option ℕ → FooterContent → Result Opened ServeError → Type 0
Supplies size footer (Ok o) = IsSupplied size footer o
Supplies size footer (Err (errors.Open e)) = extent_check (greatest_end size) footer ≡ Err e
Supplies size footer (Err (errors.Fault fault)) = ⊥
Supplies size footer (Err errors.CacheFault) = ⊥
Supplies size footer (Err errors.OutOfMemory) = ⊥
