-- What each command prints, and the status that it deserves.
use Rattle.std.specs.Prelude.{◌≡◌, ℕ, ℤ, Bool, true, false, List, length, codes, Option, Some, None, is_some, Result, Ok, Err, nat_lt, if◌then◌else◌}
use Rattle.vx_base.specs.Openers.{OpenerState, AsksFor}
use Rattle.vx_footer.specs.declared.error.OpenError.{OpenError}
use Rattle.vx_footer.specs.FieldSizes.{SizeList, AreSizes, missing}
use Rattle.vx_footer.specs.Footers.{FooterContent}
use Rattle.vx_footer.specs.Opening.{vx_grammar}
use Rattle.vx_file.specs.declared.step.Step.{Step}
use Rattle.vx_file.specs.declared.served.Served.{Served}
use Rattle.vx_prune.specs.PredicateWords.{predicate_of}
use Rattle.vx_rows.specs.declared.bind_error.BindError.{BindError}
use Rattle.vx_rows.specs.Predicates.{Pred}
use Rattle.vx_rows.specs.Rows.{Rows}
use Rattle.vx_footer.specs.declared.write_error.WriteError.{WriteError}
use Rattle.vx_commands.specs.declared.answer.Answer.{Answer}
use Rattle.vx_commands.specs.declared.answer.Answer.TheVariants as answers
use Rattle.vx_commands.specs.declared.command.Command.{Command}
use Rattle.vx_commands.specs.declared.command.Command.TheVariants.{Help, Version, Serve, Demo, Sizes, Prune, Scan, Write, Gen}
use Rattle.vx_commands.specs.declared.input.TheConstants.{MOST_INPUT}
use Rattle.vx_file.specs.Hints.{Hints, IsSizeOf}
use Rattle.vx_file.specs.Plans.{plan_of}
use Rattle.vx_file.specs.Pruned.{pruned}
use Rattle.vx_file.specs.Ranges.{tail_ranges, opened}
use Rattle.vx_commands.specs.Command.{serve_hints, sizes_hints, prune_hints, scan_hints}
use Rattle.vx_commands.specs.Demo.{Demonstrates, demo_refusal}
use Rattle.vx_commands.specs.Generated.{gen_refusal}
use Rattle.vx_commands.specs.Help.{help_text}
use Rattle.vx_commands.specs.Input.{ReadsScript}
use Rattle.vx_commands.specs.Outside.{Outside}
use Rattle.vx_commands.specs.Reading.{ReadingValue, settings_by, new_cache}
use Rattle.vx_commands.specs.Render.{render_text}
use Rattle.vx_commands.specs.Script.{script_of}
use Rattle.vx_commands.specs.Served.{ServesFile, GaveBack, GivesBack}
use Rattle.vx_print.specs.SizesText.{sizes_text}
use Rattle.vx_commands.specs.Summaries.{SumsUp}
use Rattle.vx_commands.specs.SummaryText.{summary_text}
use Rattle.vx_commands.specs.declared.summary.FileSummary.{FileSummary}
use Rattle.vx_commands.specs.RowsFiles.{bytes_of, refusal_of, RowsOpen}
use Rattle.vx_print.specs.RowsText.{rows_text}
use Rattle.vx_commands.specs.Scans.{Spells, ScansFile, spelled, opened_status}
use Rattle.vx_commands.specs.Tables.{TableValue, table_of, ReadsTable}
use Rattle.vx_commands.specs.WriteWords.{WriteValue}

-- ---- texts

abbrev pub version_text : List ℕ
version_text = codes "vx 0.1.0\n"

abbrev pub truth_text : Bool → List ℕ
truth_text true = codes "true\n"
truth_text false = codes "false\n"

-- the text of an answer
abbrev pub text_of : Answer → List ℕ
text_of answers.Help = help_text
text_of answers.Version = version_text
text_of (answers.Served served) = render_text served
text_of (answers.Sizes sizes) = sizes_text sizes.entries
text_of (answers.Pruned skipped) = truth_text skipped
text_of (answers.Rows rows) = rows_text rows
text_of (answers.Summary summary) = summary_text summary
text_of (answers.File f) = bytes_of f.arguments f.table

-- why the file of an answer is not written whole, where a check refuses it
abbrev pub unwritten : Answer → Option WriteError
unwritten answers.Help = None
unwritten answers.Version = None
unwritten (answers.Served served) = None
unwritten (answers.Sizes sizes) = None
unwritten (answers.Pruned skipped) = None
unwritten (answers.Rows rows) = None
unwritten (answers.Summary summary) = None
unwritten (answers.File f) = refusal_of f.arguments f.table

-- a file of rows opens again, and has the rows of the input
abbrev pub Opens : Answer → Type 0
Opens answers.Help = Unit {0}
Opens answers.Version = Unit {0}
Opens (answers.Served served) = Unit {0}
Opens (answers.Sizes sizes) = Unit {0}
Opens (answers.Pruned skipped) = Unit {0}
Opens (answers.Rows rows) = Unit {0}
Opens (answers.Summary summary) = Unit {0}
Opens (answers.File f) = RowsOpen f

-- whether an answer is no file
abbrev pub is_text : Answer → Bool
is_text answers.Help = true
is_text answers.Version = true
is_text (answers.Served served) = true
is_text (answers.Sizes sizes) = true
is_text (answers.Pruned skipped) = true
is_text (answers.Rows rows) = true
is_text (answers.Summary summary) = true
is_text (answers.File f) = false

-- the status that an answer brings
abbrev pub refusal_status : Option WriteError → ℕ
refusal_status None = 0
refusal_status (Some e) = 4

-- a fixed text, for which nothing was read and no file was opened
pub record IsFixed (fixed : Answer) (before now : Outside) (answer : Answer) : Type 0 where
  pub is : answer ≡ fixed
  pub source : now.source ≡ before.source
  pub files : now.files ≡ before.files

-- the script of the input was served from the file of a name, read as the words say
pub record IsServed (hints : Hints) (reading : ReadingValue) (name : List ℕ) (before now : Outside) (answer : Answer) : Type 0 where
  pub served : Served
  pub is : answer ≡ answers.Served served
  pub steps : List Step
  pub script : ReadsScript before.source now.source steps
  pub asked : AsksFor name before.files now.files
  pub back : GaveBack name before.files now.files
  pub serves : (file : List ℕ) → before.files.file name ≡ Some file → IsSizeOf hints.size file →
      ServesFile (plan_of hints file) hints.metadata (settings_by reading (before.files.settings name)) (new_cache reading.kept) file name steps
      before.files now.files served

-- the script of the input was served from the file of some values, and no file was opened
pub record IsDemonstrated (values : List ℤ) (before now : Outside) (answer : Answer) : Type 0 where
  pub served : Served
  pub is : answer ≡ answers.Served served
  pub steps : List Step
  pub script : ReadsScript before.source now.source steps
  pub demonstrates : Demonstrates values steps served
  pub files : now.files ≡ before.files

-- a file of the grammar was opened, each segment that its layout names is there, and its fields have these sizes
pub record Measures (hints : Hints) (file name : List ℕ) (before now : OpenerState) (sizes : SizeList) : Type 0 where
  pub footer : FooterContent
  pub grammar : vx_grammar file hints.dtype ≡ Ok footer
  pub there : missing footer.layout footer.segments ≡ None
  pub sizes_are : AreSizes footer.layout footer.segments sizes
  pub back : GivesBack name before now (opened (tail_ranges hints file))

-- a file of the grammar whose layout names a segment that the file has not
pub record LacksSegment (hints : Hints) (file : List ℕ) : Type 0 where
  pub footer : FooterContent
  pub grammar : vx_grammar file hints.dtype ≡ Ok footer
  pub id : ℕ
  pub lacks : missing footer.layout footer.segments ≡ Some id

-- the sizes of the fields of the file of a name, and the input was not touched
pub record IsMeasured (hints : Hints) (name : List ℕ) (before now : Outside) (answer : Answer) : Type 0 where
  pub sizes : SizeList
  pub is : answer ≡ answers.Sizes sizes
  pub source : now.source ≡ before.source
  pub asked : AsksFor name before.files now.files
  pub back : GaveBack name before.files now.files
  pub measures : (file : List ℕ) → before.files.file name ≡ Some file → Measures hints file name before.files now.files sizes

-- ---- whether a file can be skipped

-- a file of the grammar was opened, and this is what pruning it by the predicate of words gives
pub record Judges (hints : Hints) (words : List (List ℕ)) (file name : List ℕ) (before now : OpenerState) (answer : Result Bool BindError) : Type 0 where
  pub footer : FooterContent
  pub grammar : vx_grammar file hints.dtype ≡ Ok footer
  pub predicate : Pred
  pub spelled : predicate_of words ≡ Some predicate
  pub is : pruned predicate footer ≡ answer
  pub back : GivesBack name before now (opened (tail_ranges hints file))

-- whether the file of a name can be skipped, and the input was not touched
pub record IsJudged (hints : Hints) (words : List (List ℕ)) (name : List ℕ) (before now : Outside) (answer : Answer) : Type 0 where
  pub skipped : Bool
  pub is : answer ≡ answers.Pruned skipped
  pub source : now.source ≡ before.source
  pub asked : AsksFor name before.files now.files
  pub back : GaveBack name before.files now.files
  pub judges : (file : List ℕ) → before.files.file name ≡ Some file → Judges hints words file name before.files now.files (Ok skipped)

-- ---- rows

-- The rows of the file of a name, by the predicate of words where they are given; the input was not touched.
pub record IsScanned (hints : Hints) (words : Option (List (List ℕ))) (name : List ℕ) (before now : Outside) (answer : Answer) : Type 0 where
  pub rows : Rows
  pub is : answer ≡ answers.Rows rows
  pub source : now.source ≡ before.source
  pub asked : AsksFor name before.files now.files
  pub back : GaveBack name before.files now.files
  pub predicate : Option Pred
  pub spells : Spells words predicate
  pub scans : (file : List ℕ) → before.files.file name ≡ Some file → ScansFile (plan_of hints file) predicate file name before.files now.files rows

-- ---- a file

-- the file of the rows that the input spells, and no file was opened
pub record IsFile (arguments : WriteValue) (before now : Outside) (answer : Answer) : Type 0 where
  pub table : TableValue
  pub is : answer ≡ answers.File (record { arguments = arguments; table = table })
  pub reads : ReadsTable before.source now.source table
  pub files : now.files ≡ before.files

-- ---- what is told of a file

-- the file of generated rows, which was written to memory; the input was not touched, and no file was opened
pub record IsGenerated (seed rows : ℕ) (before now : Outside) (answer : Answer) : Type 0 where
  pub summary : FileSummary
  pub is : answer ≡ answers.Summary summary
  pub sums : SumsUp seed rows summary
  pub source : now.source ≡ before.source
  pub files : now.files ≡ before.files

-- what each command answers
abbrev pub IsAnswer : Command → Outside → Outside → Answer → Type 0
IsAnswer Help before now answer = IsFixed answers.Help before now answer
IsAnswer Version before now answer = IsFixed answers.Version before now answer
IsAnswer (Serve s) before now answer = IsServed (serve_hints s) s.reading s.name before now answer
IsAnswer (Demo d) before now answer = IsDemonstrated d.values before now answer
IsAnswer (Sizes s) before now answer = IsMeasured (sizes_hints s) s.name before now answer
IsAnswer (Prune p) before now answer = IsJudged (prune_hints p) p.filter p.name before now answer
IsAnswer (Scan s) before now answer = IsScanned (scan_hints s) s.filter s.name before now answer
IsAnswer (Write w) before now answer = IsFile w before now answer
IsAnswer (Gen g) before now answer = IsGenerated g.seed g.rows before now answer

-- ---- the status that a command deserves

abbrev pub grammar_status : {A E : Type 0} → Result A E → ℕ
grammar_status (Ok footer) = 0
grammar_status (Err refusal) = 4

-- the status of the file, where the script can be read
abbrev pub script_status : Result (List Step) ℕ → ℕ → ℕ
script_status (Err line) file = 3
script_status (Ok steps) file = file

abbrev pub input_status : Option (List ℕ) → ℕ → ℕ
input_status None file = file
input_status (Some text) file = if nat_lt MOST_INPUT (length text) then 9 else script_status (script_of text) file

abbrev pub file_status : Hints → Option (List ℕ) → ℕ
file_status hints None = 0
file_status hints (Some file) = grammar_status (vx_grammar file hints.dtype)

-- a file whose layout names a segment that is not there has no sizes
abbrev pub missing_status : Option ℕ → ℕ
missing_status None = 0
missing_status (Some id) = 4

abbrev pub sizes_status : Result FooterContent OpenError → ℕ
sizes_status (Ok footer) = missing_status (missing footer.layout footer.segments)
sizes_status (Err refusal) = 4

abbrev pub measured_status : Hints → Option (List ℕ) → ℕ
measured_status hints None = 0
measured_status hints (Some file) = sizes_status (vx_grammar file hints.dtype)

-- a predicate that is not one on the rows is refused
abbrev pub predicate_status : Option Pred → FooterContent → ℕ
predicate_status None footer = 0
predicate_status (Some predicate) footer = grammar_status (pruned predicate footer)

abbrev pub pruned_status : List (List ℕ) → Result FooterContent OpenError → ℕ
pruned_status words (Ok footer) = predicate_status (predicate_of words) footer
pruned_status words (Err refusal) = 4

abbrev pub judged_status : Hints → List (List ℕ) → Option (List ℕ) → ℕ
judged_status hints words None = 0
judged_status hints words (Some file) = pruned_status words (vx_grammar file hints.dtype)

abbrev pub scanned_status : Hints → Option (List (List ℕ)) → Option (List ℕ) → ℕ
scanned_status hints words None = 0
scanned_status hints words (Some file) = opened_status (spelled words) file (vx_grammar file hints.dtype)

-- the status of the rows of an input, where they can be read
abbrev pub table_status : WriteValue → Result TableValue ℕ → ℕ
table_status w (Ok t) = refusal_status (refusal_of w t)
table_status w (Err line) = 3

abbrev pub rows_status : WriteValue → Option (List ℕ) → ℕ
rows_status w None = 0
rows_status w (Some text) = if nat_lt MOST_INPUT (length text) then 9 else table_status w (table_of text)

-- the status that the words, the input and the file deserve
abbrev pub wanted_status : Command → Outside → ℕ
wanted_status Help before = 0
wanted_status Version before = 0
wanted_status (Serve s) before = input_status before.source.rest (file_status (serve_hints s) (before.files.file s.name))
wanted_status (Demo d) before = input_status before.source.rest (refusal_status (demo_refusal d.values))
wanted_status (Sizes s) before = measured_status (sizes_hints s) (before.files.file s.name)
wanted_status (Prune p) before = judged_status (prune_hints p) p.filter (before.files.file p.name)
wanted_status (Scan s) before = scanned_status (scan_hints s) s.filter (before.files.file s.name)
wanted_status (Write w) before = rows_status w before.source.rest
wanted_status (Gen g) before = refusal_status (gen_refusal g.seed g.rows)

-- a size that is supplied is that of the file, where the file is told
abbrev pub IsTrueSize : Option ℕ → Option (List ℕ) → Type 0
IsTrueSize size None = Unit {0}
IsTrueSize size (Some file) = IsSizeOf size file

-- what a command reads is told, and a size that is supplied is true
abbrev pub IsTold : Command → Outside → Type 0
IsTold Help before = Unit {0}
IsTold Version before = Unit {0}
IsTold (Serve s) before = (is_some before.source.rest ≡ true) × (is_some (before.files.file s.name) ≡ true) × IsTrueSize s.size (before.files.file s.name)
IsTold (Demo d) before = is_some before.source.rest ≡ true
IsTold (Sizes s) before = is_some (before.files.file s.name) ≡ true
IsTold (Prune p) before = is_some (before.files.file p.name) ≡ true
IsTold (Scan s) before = is_some (before.files.file s.name) ≡ true
IsTold (Write w) before = is_some before.source.rest ≡ true
IsTold (Gen g) before = Unit {0}

abbrev pub Deserves : Command → Outside → ℕ → Type 0
Deserves c before code = IsTold c before → wanted_status c before ≡ code
