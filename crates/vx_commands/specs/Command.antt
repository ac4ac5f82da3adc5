-- What the words of the program ask for.
use Rattle.std.specs.Prelude.{◌≡◌, ℕ, ℤ, Bool, true, false, ◌-◌, ◌^◌, ◌==◌, nat_lt, nat_le, if◌then◌else◌, List, [], ◌∷◌, ◌++◌, length, codes, Option, Some, None, is_some, unwrap_or, Result, Ok, Err}
use Rattle.std.specs.Option.{option_map}
use Rattle.std.specs.Str.{bytes_eq}
use Rattle.vx_base.specs.Readers.{ReaderSettings}
use Rattle.vx_data.specs.Dtype.{Dtype}
use Rattle.vx_data.specs.TextsRead.{dtype_of_text}
use Rattle.vx_commands.specs.declared.command.Command.{Command}
use Rattle.vx_commands.specs.declared.command.Command.TheVariants.{Help, Version, Serve, Demo, Sizes, Prune, Scan, Write, Gen}
use Rattle.vx_file.specs.Hints.{Hints, no_hints}
use Rattle.vx_commands.specs.declared.commands.generate.Generate as generate
use Rattle.vx_generate.specs.declared.generated_bytes.TheConstants.{MOST_ROWS}
use Rattle.vx_commands.specs.declared.commands.serve.Serve as serve
use Rattle.vx_commands.specs.declared.commands.sizes.Sizes as sizes
use Rattle.vx_commands.specs.declared.commands.prune.Prune as prune
use Rattle.vx_commands.specs.declared.commands.scan.Scan as scan
use Rattle.vx_prune.specs.PredicateWords.{predicate_of}
use Rattle.vx_commands.specs.declared.failure.Failure.{Failure}
use Rattle.vx_commands.specs.declared.failure.Failure.TheVariants as failures
use Rattle.vx_text.specs.Numbers.{number_of, value_of}
use Rattle.vx_text.specs.Options.{OptionShape, once, last, are_options, values_of, optional_number}
use Rattle.vx_commands.specs.WriteWords.{WriteValue, write_shapes, metadata_of}
use Rattle.vx_commands.specs.Reading.{ReadingValue, plain_reading, reading_of, settings_by}

-- ---- names and values

-- a name does not begin with `-`
abbrev pub is_name : List ℕ → Bool
is_name [] = true
is_name (byte ∷ bytes) = if byte == 45 then false else true

abbrev pub name_of : List ℕ → Option (List ℕ)
name_of word = if is_name word then Some word else None

abbrev pub with_value : Option ℤ → Option (List ℤ) → Option (List ℤ)
with_value None values = None
with_value (Some value) None = None
with_value (Some value) (Some values) = Some (value ∷ values)

-- the values that words spell, where each spells one
abbrev pub all_values : List (List ℕ) → Option (List ℤ)
all_values [] = Some []
all_values (word ∷ words) = with_value (value_of word) (all_values words)

-- values before those that the other words spell
abbrev pub after_values : List ℤ → Option (List ℤ) → Option (List ℤ)
after_values front None = None
after_values front (Some values) = Some (front ++ values)

-- ---- commands, each by the words behind its own

-- no further word
abbrev pub alone : Command → List (List ℕ) → Option Command
alone c [] = Some c
alone c (word ∷ words) = None

-- the type that the values of an option spell, where it is given
abbrev pub optional_dtype : Option (List (List ℕ)) → Option (Option Dtype)
optional_dtype None = Some None
optional_dtype (Some []) = None
optional_dtype (Some (word ∷ [])) = option_map (λ d. Some d) (dtype_of_text word)
optional_dtype (Some (word ∷ more ∷ words)) = None

-- the size of the file, how many bytes the first read is to ask for, the type of the rows, whether the metadata is to be
-- loaded, and how segments are read
abbrev pub serve_shapes : List OptionShape
serve_shapes =
    once (codes "--size") 1 ∷ once (codes "--initial") 1 ∷ once (codes "--dtype") 1 ∷ once (codes "--meta") 0
    ∷ once (codes "--distance") 1 ∷ once (codes "--max") 1 ∷ once (codes "--reads") 1 ∷ once (codes "--cache") 1 ∷ []

abbrev pub reading_by : Option (Option ℕ) → Option (Option ℕ) → Option (Option ℕ) → Option (Option ℕ) → Option ReadingValue
reading_by None max reads kept = None
reading_by (Some distance) None reads kept = None
reading_by (Some distance) (Some max) None kept = None
reading_by (Some distance) (Some max) (Some reads) None = None
reading_by (Some distance) (Some max) (Some reads) (Some kept) = reading_of distance max reads kept

abbrev pub served_by : List ℕ → Option (Option ℕ) → Option (Option ℕ) → Option ReadingValue → Bool → Option (Option Dtype) → Option serve.Serve
served_by name None initial reading metadata dtype = None
served_by name (Some size) None reading metadata dtype = None
served_by name (Some size) (Some initial) None metadata dtype = None
served_by name (Some size) (Some initial) (Some reading) metadata dtype =
    option_map (λ d. record { name = name; size = size; initial = unwrap_or initial 0; reading = reading; metadata = metadata; dtype = d }) dtype

-- the number of an option of `serve`, where it is given
abbrev pub serve_number : List (List ℕ) → List ℕ → Option (Option ℕ)
serve_number words option = optional_number (values_of serve_shapes option words)

-- a name, and options behind it
abbrev pub serve_behind : Option (List ℕ) → List (List ℕ) → Option serve.Serve
serve_behind None words = None
serve_behind (Some name) words =
    if are_options serve_shapes words then
    served_by name (serve_number words (codes "--size")) (serve_number words (codes "--initial"))
    (reading_by (serve_number words (codes "--distance")) (serve_number words (codes "--max"))
    (serve_number words (codes "--reads")) (serve_number words (codes "--cache")))
    (is_some (values_of serve_shapes (codes "--meta") words)) (optional_dtype (values_of serve_shapes (codes "--dtype") words))
    else None

abbrev pub serve_of : List (List ℕ) → Option Command
serve_of [] = None
serve_of (word ∷ words) = option_map (λ s. Serve s) (serve_behind (name_of word) words)

-- the type of the rows
abbrev pub sizes_shapes : List OptionShape
sizes_shapes = once (codes "--dtype") 1 ∷ []

abbrev pub sizes_behind : Option (List ℕ) → List (List ℕ) → Option sizes.Sizes
sizes_behind None words = None
sizes_behind (Some name) words =
    if are_options sizes_shapes words
    then option_map (λ d. record { name = name; dtype = d }) (optional_dtype (values_of sizes_shapes (codes "--dtype") words))
    else None

abbrev pub sizes_of : List (List ℕ) → Option Command
sizes_of [] = None
sizes_of (word ∷ words) = option_map (λ s. Sizes s) (sizes_behind (name_of word) words)

-- words that spell a predicate
abbrev pub filter_of : List (List ℕ) → Option (List (List ℕ))
filter_of words = if is_some (predicate_of words) then Some words else None

-- a predicate on the rows of a file, whose type may be known
abbrev pub typed_filter : List ℕ → Option (Option Dtype) → List (List ℕ) → Option prune.Prune
typed_filter name None words = None
typed_filter name (Some d) words = option_map (λ filter. record { name = name; dtype = d; filter = filter }) (filter_of words)

-- a type and a predicate
abbrev pub prune_typed : List ℕ → List (List ℕ) → Option prune.Prune
prune_typed name [] = None
prune_typed name (word ∷ words) = typed_filter name (option_map (λ d. Some d) (dtype_of_text word)) words

-- a name, `--dtype` and a type, which may lack, and a predicate
abbrev pub prune_behind : Option (List ℕ) → List (List ℕ) → Option prune.Prune
prune_behind None words = None
prune_behind (Some name) [] = typed_filter name (Some None) []
prune_behind (Some name) (word ∷ words) = if bytes_eq word (codes "--dtype") then prune_typed name words else typed_filter name (Some None) (word ∷ words)

abbrev pub prune_of : List (List ℕ) → Option Command
prune_of [] = None
prune_of (word ∷ words) = option_map (λ p. Prune p) (prune_behind (name_of word) words)

-- the type of the rows, and words that spell a predicate, which stand last
abbrev pub scan_shapes : List OptionShape
scan_shapes = once (codes "--dtype") 1 ∷ last (codes "--filter") ∷ []

-- the predicate that the values of an option spell, where it is given
abbrev pub optional_filter : Option (List (List ℕ)) → Option (Option (List (List ℕ)))
optional_filter None = Some None
optional_filter (Some words) = option_map (λ filter. Some filter) (filter_of words)

abbrev pub scan_filtered : List ℕ → Option (Option Dtype) → Option (Option (List (List ℕ))) → Option scan.Scan
scan_filtered name None filter = None
scan_filtered name (Some d) filter = option_map (λ f. record { name = name; dtype = d; filter = f }) filter

abbrev pub scan_behind : Option (List ℕ) → List (List ℕ) → Option scan.Scan
scan_behind None words = None
scan_behind (Some name) words =
    if are_options scan_shapes words
    then scan_filtered name (optional_dtype (values_of scan_shapes (codes "--dtype") words)) (optional_filter (values_of scan_shapes (codes "--filter") words))
    else None

abbrev pub scan_of : List (List ℕ) → Option Command
scan_of [] = None
scan_of (word ∷ words) = option_map (λ s. Scan s) (scan_behind (name_of word) words)

-- a number from one on, where it is given
abbrev pub positive : Option (Option ℕ) → Option (Option ℕ)
positive None = None
positive (Some None) = Some None
positive (Some (Some n)) = if nat_le 1 n then Some (Some n) else None

abbrev pub written_by : Option (Option ℕ) → Option (Option ℕ) → Option (List (List ℕ)) → Bool → Bool → Bool → Option WriteValue
written_by None target metadata excludes_dtype excludes_statistics is_second = None
written_by (Some block) None metadata excludes_dtype excludes_statistics is_second = None
written_by (Some block) (Some target) None excludes_dtype excludes_statistics is_second = None
written_by (Some block) (Some target) (Some metadata) excludes_dtype excludes_statistics is_second = Some (record {
  excludes_dtype = excludes_dtype;
  excludes_statistics = excludes_statistics;
  block = block;
  target = target;
  metadata = metadata;
  is_second = is_second;
})

-- the number of an option of `write`, where it is given
abbrev pub write_number : List (List ℕ) → List ℕ → Option (Option ℕ)
write_number words option = optional_number (values_of write_shapes option words)

abbrev pub has_option : List (List ℕ) → List ℕ → Bool
has_option words option = is_some (values_of write_shapes option words)

abbrev pub write_of : List (List ℕ) → Option Command
write_of words =
    if are_options write_shapes words then
    option_map (λ w. Write w) (written_by (positive (write_number words (codes "--block"))) (write_number words (codes "--target")) (metadata_of words)
    (has_option words (codes "--no-dtype")) (has_option words (codes "--no-stats")) (has_option words (codes "--v2")))
    else None

-- at least one value
abbrev pub demo_of : List (List ℕ) → Option Command
demo_of words = if nat_lt 0 (length words) then option_map (λ values. Demo (record { values = values })) (all_values words) else None

-- a number that is at most another
abbrev pub bounded : ℕ → Option ℕ → Option ℕ
bounded most None = None
bounded most (Some n) = if nat_le n most then Some n else None

abbrev pub generated_by : Option ℕ → Option ℕ → Option generate.Generate
generated_by None rows = None
generated_by (Some seed) None = None
generated_by (Some seed) (Some rows) = Some (record { seed = seed; rows = rows })

-- a seed of 32 bits, and at most so many rows
abbrev pub gen_of : List (List ℕ) → Option Command
gen_of [] = None
gen_of (seed ∷ []) = None
gen_of (seed ∷ rows ∷ []) = option_map (λ g. Gen g) (generated_by (bounded (2 ^ 32 - 1) (number_of seed)) (bounded MOST_ROWS (number_of rows)))
gen_of (seed ∷ rows ∷ word ∷ words) = None

-- `--help` and `--version` alone, `serve NAME ..`, `sizes NAME ..`, `prune NAME ..`, `scan NAME ..`, `demo V ..`, `write ..`, or
-- `gen SEED ROWS`
abbrev pub command_of : List (List ℕ) → Option Command
command_of [] = None
command_of (word ∷ words) =
    if bytes_eq word (codes "serve") then serve_of words
    else if bytes_eq word (codes "demo") then demo_of words
    else if bytes_eq word (codes "sizes") then sizes_of words
    else if bytes_eq word (codes "prune") then prune_of words
    else if bytes_eq word (codes "scan") then scan_of words
    else if bytes_eq word (codes "write") then write_of words
    else if bytes_eq word (codes "gen") then gen_of words
    else if bytes_eq word (codes "--help") then alone Help words
    else if bytes_eq word (codes "--version") then alone Version words
    else None

-- what reading a command from words gave, where this is the command; memory may run out before it is known
abbrev pub Parses : {A : Type 0} → Option A → Result A Failure → Type 0
Parses o (Ok command) = o ≡ Some command
Parses o (Err failures.Usage) = o ≡ None
Parses o (Err failures.OutOfMemory) = Unit {0}
Parses o (Err _) = ⊥

-- ---- what a command touches

abbrev pub serve_hints : serve.Serve → Hints
serve_hints s = record { size = s.size; initial = s.initial; dtype = s.dtype; footer = None; metadata = s.metadata }

-- nothing but the type of the rows, where that is known
abbrev pub typed_hints : Option Dtype → Hints
typed_hints dtype = record { size = None; initial = 0; dtype = dtype; footer = None; metadata = false }

abbrev pub sizes_hints : sizes.Sizes → Hints
sizes_hints s = typed_hints s.dtype

abbrev pub prune_hints : prune.Prune → Hints
prune_hints p = typed_hints p.dtype

abbrev pub scan_hints : scan.Scan → Hints
scan_hints s = typed_hints s.dtype

-- what it is told of the file that it opens
abbrev pub hints_of : Command → Hints
hints_of Help = no_hints
hints_of Version = no_hints
hints_of (Serve s) = serve_hints s
hints_of (Demo d) = no_hints
hints_of (Sizes s) = sizes_hints s
hints_of (Prune p) = prune_hints p
hints_of (Scan s) = scan_hints s
hints_of (Write w) = no_hints
hints_of (Gen g) = no_hints

-- the settings with which it reads, by those of the reader
abbrev pub settings_of_command : Command → ReaderSettings → ReaderSettings
settings_of_command Help own = own
settings_of_command Version own = own
settings_of_command (Serve s) own = settings_by s.reading own
settings_of_command (Demo d) own = own
settings_of_command (Sizes s) own = settings_by plain_reading own
settings_of_command (Prune p) own = settings_by plain_reading own
settings_of_command (Scan s) own = own
settings_of_command (Write w) own = own
settings_of_command (Gen g) own = own

-- the names of the files that it opens
abbrev pub names_of : Command → List (List ℕ)
names_of Help = []
names_of Version = []
names_of (Serve s) = s.name ∷ []
names_of (Demo d) = []
names_of (Sizes s) = s.name ∷ []
names_of (Prune p) = p.name ∷ []
names_of (Scan s) = s.name ∷ []
names_of (Write w) = []
names_of (Gen g) = []

-- whether it reads its input
abbrev pub reads_input : Command → Bool
reads_input Help = false
reads_input Version = false
reads_input (Serve s) = true
reads_input (Demo d) = true
reads_input (Sizes s) = false
reads_input (Prune p) = false
reads_input (Scan s) = false
reads_input (Write w) = true
reads_input (Gen g) = false

-- whether what it writes to the output is a file, as it comes
abbrev pub writes_file : Command → Bool
writes_file Help = false
writes_file Version = false
writes_file (Serve s) = false
writes_file (Demo d) = false
writes_file (Sizes s) = false
writes_file (Prune p) = false
writes_file (Scan s) = false
writes_file (Write w) = true
writes_file (Gen g) = false
