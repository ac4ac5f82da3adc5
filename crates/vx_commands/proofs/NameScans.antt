-- The cause of what scanning the file of a name gives, from the causes of its parts.
use Rattle.std.proofs.Common.{◌≡◌, ℕ, false, List, Option, Some, None, Result, Ok, Err, sym, subst, inl, inr}
use Rattle.vx_base.specs.Caches.{nothing_held}
use Rattle.vx_base.specs.Openers.{OpenerState}
use Rattle.vx_base.specs.Readers.{ReaderState}
use Rattle.vx_rows.specs.declared.array_error.ArrayError.TheVariants as undecoded
use Rattle.vx_rows.specs.declared.column.Column.{Column}
use Rattle.vx_rows.specs.Predicates.{Pred}
use Rattle.vx_source.specs.Asks.{Grew}
use Rattle.vx_file.specs.declared.reader_scanning.ScanReaderError.{ScanReaderError}
use Rattle.vx_file.specs.declared.reader_scanning.ScanReaderError.TheVariants as errors
use Rattle.vx_file.specs.Hints.{Hints, IsSized}
use Rattle.vx_file.specs.Plans.{Plan, plan_of}
use Rattle.vx_file.specs.Ranges.{opened as opened_ranges}
use Rattle.vx_file.specs.ReaderScans.{OpensThen, StopsAt, IsMissing, IsUndecoded, IsThere, ScansBy, ScanRose}
use Rattle.vx_file.specs.Scans.{Segments, FlatLayout}
use Rattle.vx_commands.specs.declared.failure.Failure.{Failure}
use Rattle.vx_commands.specs.Scans.{AreTold, Finds, NameScan, ScansFile, StopsFile, scan_failure}
use Rattle.vx_commands.specs.Served.{GivesBack}
use Rattle.vx_commands.proofs.Openings.{Lent, rises-through, gave-back, gives-back, lacks, refuses, is_sized}

module _ (hints : Hints) (none : hints.footer ≡ None) (plain : hints.metadata ≡ false) (p : Option Pred) (name : List ℕ) (before now : OpenerState) (opened served : ReaderState)
    (lent : Lent name (before.settings name) before now opened served) where
  finds : (Is : List ℕ → Type 0) → ((file : List ℕ) → opened.bytes ≡ Some file → IsSized hints file → Is file) → Finds hints name before now Is
  finds Is h = record {
    asked = lent.asked;
    back = gave-back name (before.settings name) before now opened served lent;
    is = λ file told sized. h file (lent.told file told) (is_sized hints file none sized);
  }

  -- the file was opened, and not read behind that
  opening-alone : (plan : Plan) (between : ReaderState) → (hints.metadata ≡ false → Grew (opened_ranges plan.ranges) opened.log between.log) → served ≡ between → GivesBack name before now (opened_ranges plan.ranges)
  opening-alone plan between asked unread =
      gives-back name (before.settings name) before now opened served (opened_ranges plan.ranges) lent (subst (λ (r : ReaderState). Grew (opened_ranges plan.ranges) opened.log r.log) (sym unread) (asked plain))

  stops-file : (plan : Plan) (file : List ℕ) (Fails : Segments → List (List ℕ) → FlatLayout → Type 0) → OpensThen plan hints.metadata opened (λ f between. StopsAt file p f Fails) → StopsFile plan p file Fails
  stops-file plan file Fails h = record { footer = h.footer; grammar = h.grammar; stops = h.then }

  abbrev Scans : Result Column ScanReaderError → Type 0
  Scans rows = (file : List ℕ) → opened.bytes ≡ Some file → IsSized hints file → ScansBy (plan_of hints file) hints.metadata file p opened served rows

  name-fails : (e : ScanReaderError) → Scans (Err e) → ScanRose opened served (Err e) → NameScan hints p name before now (Err (scan_failure e))
  name-fails (errors.Open refusal) scans rose = finds _ (λ file told sized. refuses (plan_of hints file) name refusal (before.settings name) before now opened served lent (scans file told sized))
  name-fails (errors.Read fault) scans rose = (
    rises-through 1 before.read_faults now.read_faults opened.faults served.faults lent.faultless lent.counted lent.never_falls rose,
    finds _ (λ file told sized. elim (scans file told sized) [
      | inl size ↦ inl (lacks (plan_of hints file) name fault (before.settings name) before now opened served nothing_held lent (inl size))
      | inr (inl tail) ↦ inl (lacks (plan_of hints file) name fault (before.settings name) before now opened served nothing_held lent (inr (inl tail)))
      | inr (inr (inl metadata)) ↦ inl (lacks (plan_of hints file) name fault (before.settings name) before now opened served nothing_held lent (inr (inr metadata)))
      | inr (inr (inr stops)) ↦ inr (stops-file (plan_of hints file) file IsThere stops)
    ]),
  )
  name-fails (errors.Unbound e) scans rose = finds _ (λ file told sized. let h = scans file told sized in record {
    footer = h.footer;
    grammar = h.grammar;
    fails = h.then.fails;
    back = opening-alone (plan_of hints file) h.between h.asked h.then.unread;
  })
  name-fails (errors.MissingSegment id) scans rose = finds _ (λ file told sized. (id, stops-file (plan_of hints file) file (IsMissing id) (scans file told sized)))
  name-fails (errors.BadArray id) scans rose = finds _ (λ file told sized. (id, stops-file (plan_of hints file) file (IsUndecoded undecoded.BadArray id) (scans file told sized)))
  name-fails (errors.UnknownEncoding id) scans rose = finds _ (λ file told sized. (id, stops-file (plan_of hints file) file (IsUndecoded undecoded.UnknownEncoding id) (scans file told sized)))
  name-fails errors.OutOfMemory scans rose = inr (record { asked = lent.asked; back = inl (gave-back name (before.settings name) before now opened served lent) })

  pub name-scan : (rows : Result Column ScanReaderError) (answer : Result Column Failure) → Scans rows → ScanRose opened served rows → AreTold rows answer → NameScan hints p name before now answer
  name-scan (Ok c) (Ok d) scans rose t = finds _ (λ file told sized. let h = scans file told sized in subst (λ x. ScansFile (plan_of hints file) p file name before now x) (sym t) (record {
    footer = h.footer;
    grammar = h.grammar;
    scan = h.then.is;
    unread = λ skipped. opening-alone (plan_of hints file) h.between h.asked (h.then.unread skipped);
  }))
  name-scan (Ok c) (Err failure) scans rose t = absurd t
  name-scan (Err e) (Ok d) scans rose t = absurd t
  name-scan (Err e) (Err failure) scans rose t = subst (λ x. NameScan hints p name before now (Err x)) (sym t) (name-fails e scans rose)
