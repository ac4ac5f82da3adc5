-- What scanning the file of a name gives.
use Rattle.std.specs.Prelude.{◌≡◌, ℕ, true, List, Option, Some, None, Result, Ok, Err, ◌⊎◌}
use Rattle.std.specs.Option.{option_and_then}
use Rattle.vx_base.specs.Counts.{Rises}
use Rattle.vx_base.specs.Openers.{OpenerState, AsksFor}
use Rattle.vx_base.specs.declared.segment.SegmentId.{SegmentId}
use Rattle.vx_data.specs.Layout.{dtype_of as type_of_tree}
use Rattle.vx_footer.specs.declared.error.OpenError.{OpenError}
use Rattle.vx_footer.specs.Footers.{FooterContent}
use Rattle.vx_prune.specs.PredicateWords.{predicate_of}
use Rattle.vx_rows.specs.declared.array_error.ArrayError.TheVariants as undecoded
use Rattle.vx_rows.specs.declared.bind_error.BindError.{BindError}
use Rattle.vx_rows.specs.declared.column.Column.{Column}
use Rattle.vx_rows.specs.Predicates.{Pred}
use Rattle.vx_rows.specs.Rows.{Rows, column_view}
use Rattle.vx_file.specs.declared.reader_scanning.ScanReaderError.{ScanReaderError}
use Rattle.vx_file.specs.declared.reader_scanning.ScanReaderError.TheVariants as errors
use Rattle.vx_file.specs.Hints.{Hints, IsSizeOf}
use Rattle.vx_file.specs.Plans.{Plan, plan_of}
use Rattle.vx_file.specs.Ranges.{opened}
use Rattle.vx_file.specs.ReaderScans.{IsScanOf, StopsAt, IsMissing, IsUndecoded, IsThere, filter_on, scan_of}
use Rattle.vx_file.specs.Scanned.{Filter, is_skipped}
use Rattle.vx_file.specs.Scans.{FlatLayout, Segments}
use Rattle.vx_commands.specs.declared.failure.Failure.{Failure}
use Rattle.vx_commands.specs.declared.failure.Failure.TheVariants as failures
use Rattle.vx_commands.specs.Served.{GaveBack, GivesBack, LacksFile, LeavesOpener, RefusesFile}

-- ---- the predicate of words

-- what words spell, where they are given
abbrev pub Spells : Option (List (List ℕ)) → Option Pred → Type 0
Spells None p = p ≡ None
Spells (Some words) None = ⊥
Spells (Some words) (Some p) = predicate_of words ≡ Some p

-- this is so of the predicate that words spell
pub record OfSpelled (words : Option (List (List ℕ))) (Is : Option Pred → Type 0) : Type 0 where
  pub predicate : Option Pred
  pub spells : Spells words predicate
  pub is : Is predicate

abbrev pub spelled : Option (List (List ℕ)) → Option Pred
spelled words = option_and_then predicate_of words

-- ---- by a plan

-- A file that a plan opens was scanned by a predicate: these are its rows. Where its statistics tell that none satisfies the
-- predicate, the reader had been asked for the opening ranges alone.
pub record ScansFile (plan : Plan) (p : Option Pred) (file name : List ℕ) (before now : OpenerState) (c : Rows) : Type 0 where
  pub footer : FooterContent
  pub grammar : plan.footer ≡ Ok footer
  pub scan : IsScanOf file p footer c
  pub unread : is_skipped scan.chosen footer ≡ true → GivesBack name before now (opened plan.ranges)

-- the predicate is not one on the rows of the file, of which the reader had been asked for the opening ranges alone
pub record UnbindsFile (plan : Plan) (p : Option Pred) (name : List ℕ) (before now : OpenerState) (e : BindError) : Type 0 where
  pub footer : FooterContent
  pub grammar : plan.footer ≡ Ok footer
  pub fails : filter_on p (type_of_tree footer.layout) ≡ Err e
  pub back : GivesBack name before now (opened plan.ranges)

-- the first flat layout of the file that cannot be read fails so
pub record StopsFile (plan : Plan) (p : Option Pred) (file : List ℕ) (Fails : Segments → List (List ℕ) → FlatLayout → Type 0)
    : Type 0 where
  pub footer : FooterContent
  pub grammar : plan.footer ≡ Ok footer
  pub stops : StopsAt file p footer Fails

-- ---- by a name

-- why a file was not scanned
abbrev pub scan_failure : ScanReaderError → Failure
scan_failure (errors.Open e) = failures.Refused e
scan_failure (errors.Read fault) = failures.Read fault
scan_failure (errors.Unbound e) = failures.Unbound e
scan_failure (errors.MissingSegment id) = failures.MissingSegment
scan_failure (errors.BadArray id) = failures.Undecoded undecoded.BadArray
scan_failure (errors.UnknownEncoding id) = failures.Undecoded undecoded.UnknownEncoding
scan_failure errors.OutOfMemory = failures.OutOfMemory

-- what the program answers where a scan answers this
abbrev pub AreTold : Result Column ScanReaderError → Result Column Failure → Type 0
AreTold (Ok c) (Ok d) = column_view d ≡ column_view c
AreTold (Ok c) (Err failure) = ⊥
AreTold (Err e) (Ok d) = ⊥
AreTold (Err e) (Err failure) = failure ≡ scan_failure e

-- the name was asked for, its reader was given back, and of a file that is told this is so
pub record Finds (hints : Hints) (name : List ℕ) (before now : OpenerState) (Is : List ℕ → Type 0) : Type 0 where
  pub asked : AsksFor name before now
  pub back : GaveBack name before now
  pub is : (file : List ℕ) → before.file name ≡ Some file → IsSizeOf hints.size file → Is file

-- what scanning the file of a name by a predicate gives, or why it gives nothing
abbrev pub NameScan : Hints → Option Pred → List ℕ → OpenerState → OpenerState → Result Column Failure → Type 0
NameScan hints p name before now (Ok c) = Finds hints name before now (λ file. ScansFile (plan_of hints file) p file name before now (column_view c))
NameScan hints p name before now (Err (failures.Open opened)) = (opened ≡ name) × AsksFor name before now × Rises 1 before.faults now.faults
NameScan hints p name before now (Err (failures.Read fault)) =
    Rises 1 before.read_faults now.read_faults ×
    Finds hints name before now (λ file. LacksFile (plan_of hints file) (before.settings name) name fault before now
    ⊎ StopsFile (plan_of hints file) p file IsThere)
NameScan hints p name before now (Err (failures.Refused refusal)) =
    Finds hints name before now (λ file. RefusesFile (plan_of hints file) name refusal before now)
NameScan hints p name before now (Err (failures.Unbound e)) =
    Finds hints name before now (λ file. UnbindsFile (plan_of hints file) p name before now e)
NameScan hints p name before now (Err failures.MissingSegment) =
    Finds hints name before now (λ file. (id : SegmentId) × StopsFile (plan_of hints file) p file (IsMissing id))
NameScan hints p name before now (Err (failures.Undecoded e)) =
    Finds hints name before now (λ file. (id : SegmentId) × StopsFile (plan_of hints file) p file (IsUndecoded e id))
NameScan hints p name before now (Err failures.OutOfMemory) = LeavesOpener name before now
NameScan hints p name before now (Err _) = ⊥

-- the same by the predicate that words spell
abbrev pub ScansName : Hints → Option (List (List ℕ)) → List ℕ → OpenerState → OpenerState → Result Column Failure → Type 0
ScansName hints words name before now (Err failures.OutOfMemory) = LeavesOpener name before now
ScansName hints words name before now answer = OfSpelled words (λ p. NameScan hints p name before now answer)

-- ---- the status that a scan deserves

abbrev pub found_status : Option Rows → ℕ
found_status None = 4
found_status (Some c) = 0

-- a predicate that is not one on the rows is refused, and then a file of which a flat layout cannot be read
abbrev pub chosen_status : Result (Option Filter) BindError → List ℕ → FooterContent → ℕ
chosen_status (Ok chosen) file footer = found_status (scan_of chosen file footer)
chosen_status (Err e) file footer = 4

abbrev pub opened_status : Option Pred → List ℕ → Result FooterContent OpenError → ℕ
opened_status p file (Ok footer) = chosen_status (filter_on p (type_of_tree footer.layout)) file footer
opened_status p file (Err refusal) = 4
