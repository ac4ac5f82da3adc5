-- Reading the files of many names as one.
use Rattle.std.specs.Prelude.{◌≡◌, ℕ, ◌+◌, Bool, List, [], ◌∷◌, ◌++◌, take, map, string_bytes, String, unwrap_or, Option, Some, None, slice_get, ◌⊎◌}
use Rattle.std.specs.Option.{option_map}
use Rattle.std.specs.declared.alloc.Global.{Global}
use Rattle.vx_base.specs.Caches.{CacheState}
use Rattle.vx_base.specs.Counts.{Rises}
use Rattle.vx_base.specs.Openers.{OpenerState, AsksFor}
use Rattle.vx_data.specs.Dtype.{Dtype}
use Rattle.vx_data.specs.Layout.{dtype_of as type_of_tree}
use Rattle.vx_rows.specs.Rows.{Rows}
use Rattle.vx_source.specs.Sources.{SourceState, SameSource, AreOfFile, in_session}
use Rattle.vx_file.specs.declared.multi_error.MultiError.{MultiError}
use Rattle.vx_file.specs.declared.multi_error.MultiError.TheVariants as errors
use Rattle.vx_file.specs.declared.scan_error.ScanError.{ScanError}
use Rattle.vx_file.specs.declared.served.ServeError.{ServeError}
use Rattle.vx_file.specs.Hints.{Hints}
use Rattle.vx_file.specs.OpenRead.{Held, OpensPath, FailsPath}
use Rattle.vx_file.specs.Scanned.{IsScanned, ScanStopped}
use Rattle.vx_file.specs.Scans.{SourceFails}

-- ---- the files of names

-- hints and what a cache tells, as options choose them
abbrev pub Choice : Type 1
Choice = Hints → CacheState → Type 0

-- a function over options chose them
abbrev pub chosen_by : {P Q : Type 0} → (P → Q → Type 0) → (P → Type 0) → (Q → Hints) → (Q → CacheState) → Choice
chosen_by {P} {Q} Post IsPlain hints_of cache_of hints cache =
    (plain : P) × (chosen : Q) × Post plain chosen × IsPlain plain × (hints_of chosen ≡ hints) × (cache_of chosen ≡ cache)

-- the file of a name was opened by what was chosen
pub record OpensAs (Chosen : Choice) (name : List ℕ) (before now : OpenerState) (f : Held) : Type 0 where
  pub hints : Hints
  pub cache : CacheState
  pub chosen : Chosen hints cache
  pub opens : OpensPath hints name before now cache f

-- it was not
pub record FailsAs (Chosen : Choice) (name : List ℕ) (before now : OpenerState) (e : ServeError) : Type 0 where
  pub hints : Hints
  pub cache : CacheState
  pub chosen : Chosen hints cache
  pub fails : FailsPath hints name before now cache e

-- ---- the rows of an opened file

-- what its segments tell
abbrev pub source_of : Held → SourceState
source_of f = in_session f.session f.reader f.cache

-- the files that they are of
abbrev pub serves_of : Held → List ℕ → Type 0
serves_of f = AreOfFile f.session f.reader f.cache

abbrev pub HasRows : Held → Rows → Type 0
HasRows f c = IsScanned (serves_of f) (source_of f) f.footer None c

-- why a scan of it gives no rows
abbrev pub HasNoRows : Held → ScanError → Type 0
HasNoRows f e = (now : SourceState) × SameSource (source_of f) now × ScanStopped (serves_of f) (source_of f) now f.footer None e
    × SourceFails (source_of f) now e

-- ---- one file after the other

-- the file of a name has rows of a type, and these
pub record ReadsAs (Chosen : Choice) (d : Dtype) (name : List ℕ) (before now : OpenerState) (c : Rows) : Type 0 where
  pub file : Held
  pub opened : OpensAs Chosen name before now file
  pub typed : type_of_tree file.footer.layout ≡ d
  pub rows : HasRows file c

-- the files of names, in order, each asked for once
abbrev pub AreReadAs : Choice → Dtype → List (List ℕ) → OpenerState → OpenerState → List Rows → Type 0
AreReadAs Chosen d [] before now [] = now ≡ before
AreReadAs Chosen d [] before now (c ∷ cs) = ⊥
AreReadAs Chosen d (name ∷ names) before now [] = ⊥
AreReadAs Chosen d (name ∷ names) before now (c ∷ cs) =
    (between : OpenerState) × ReadsAs Chosen d name before between c × AreReadAs Chosen d names between now cs

-- names were asked for, in order
abbrev pub AsksForAll : List (List ℕ) → OpenerState → OpenerState → Type 0
AsksForAll names before now = now.asked ≡ option_map (λ asked. asked ++ names) before.asked

-- ---- why the files of names are not read

-- why the file of a name was not opened, which stands at an index
abbrev pub StopsOpening : Choice → ℕ → List ℕ → OpenerState → OpenerState → MultiError → Type 0
StopsOpening Chosen at name before now errors.NoFiles = ⊥
StopsOpening Chosen at name before now (errors.Opener index) = (index ≡ at) × AsksFor name before now × Rises 1 before.faults now.faults
StopsOpening Chosen at name before now (errors.Serve index e) = (index ≡ at) × FailsAs Chosen name before now e
StopsOpening Chosen at name before now (errors.DTypeMismatch index) = ⊥
StopsOpening Chosen at name before now (errors.Scan index e) = ⊥
StopsOpening Chosen at name before now errors.OutOfMemory = Unit {0}

-- why it has no rows of a type
abbrev pub StopsReading : Choice → Dtype → ℕ → List ℕ → OpenerState → OpenerState → MultiError → Type 0
StopsReading Chosen d at name before now (errors.DTypeMismatch index) =
    (index ≡ at) × (f : Held) × OpensAs Chosen name before now f × (type_of_tree f.footer.layout ≡ d → ⊥)
StopsReading Chosen d at name before now (errors.Scan index e) =
    (index ≡ at) × (f : Held) × OpensAs Chosen name before now f × (type_of_tree f.footer.layout ≡ d) × HasNoRows f e
StopsReading Chosen d at name before now e = StopsOpening Chosen at name before now e

-- the files in front of one were read, and that one was not; the first of the names stands at an index
pub record StopsAtFile (Chosen : Choice) (d : Dtype) (first : ℕ) (names : List (List ℕ)) (before now : OpenerState) (e : MultiError) : Type 0 where
  pub place : ℕ
  pub name : List ℕ
  pub between : OpenerState
  pub columns : List Rows
  pub named : slice_get names place ≡ Some name
  pub read : AreReadAs Chosen d (take place names) before between columns
  pub stops : StopsReading Chosen d (first + place) name between now e

-- want of memory, or one of the files was not read
abbrev pub StopsAmong : Choice → Dtype → ℕ → List (List ℕ) → OpenerState → OpenerState → MultiError → Type 0
StopsAmong Chosen d first names before now errors.OutOfMemory = Unit {0}
StopsAmong Chosen d first names before now e = StopsAtFile Chosen d first names before now e

-- ---- the names of a source

abbrev pub names_of : Option (List (String Global)) → List (List ℕ)
names_of names = map string_bytes (unwrap_or names [])
