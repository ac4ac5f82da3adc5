-- The outside in memory: what contracts see of it, and what its calls answer.
use Rattle.std.specs.Prelude.{◌≡◌, ℕ, ◌==◌, min, Bool, true, false, ◌&&◌, List, [], ◌∷◌, length, drop, find, bytes_eq, string_bytes, String, Vec, Option, Some, None, Result, Ok, Err, IfOk, if◌then◌else◌}
use Rattle.std.specs.Global.{Global}
use Rattle.std.specs.List.{list_any}
use Rattle.std.specs.Option.{option_map, option_map_or}
use Rattle.vx_base.specs.Asking.{Log}
use Rattle.vx_base.specs.Buffer.{Buffer}
use Rattle.vx_base.specs.Counts.{next_count}
use Rattle.vx_base.specs.Mischiefs.{is_well_behaved, fails_size, fails_clone, answers_of}
use Rattle.vx_base.specs.Openers.{OpenerState, Returned}
use Rattle.vx_base.specs.Readers.{ReaderState, ReaderSettings}
use Rattle.vx_base.specs.Streams.{SourceState, SinkState}
use Rattle.vx_base.specs.declared.answer.ReadAtRequest.{ReadAtRequest}
use Rattle.vx_base.specs.declared.answer.RangeAnswer.{RangeAnswer}
use Rattle.vx_base.specs.declared.fault.Failed.{Failed}
use Rattle.vx_base.specs.declared.fault.CloneError.{CloneError}
use Rattle.vx_base.specs.declared.fault.CloneError.TheVariants as clone_error
use Rattle.vx_base.specs.declared.mischief.Mischief.{Mischief}

-- one fault more where a call fails
abbrev pub faults_after : Bool → ℕ → ℕ
faults_after fails faults = if fails then next_count faults else faults

-- whether the call of this place is among those that fail
abbrev pub is_failing : List ℕ → ℕ → Bool
is_failing fail place = list_any (λ n. n == place) fail

abbrev pub is_empty : List ℕ → Bool
is_empty [] = true
is_empty (_ ∷ _) = false

-- ---- readers

-- a reader in memory: its bytes, settings and mischief, what it was asked, and its counts of faults and of
-- calls for the size and for a clone
pub record MemReaderState : Type 0 where
  pub bytes : List ℕ
  pub distance : Option ℕ
  pub max_read_size : Option ℕ
  pub concurrency : ℕ
  pub mischief : List Mischief
  pub log : Log
  pub faults : ℕ
  pub sizes : ℕ
  pub clones : ℕ

-- it tells its bytes and its log, and never fails where it has no mischief
abbrev pub reader_state : MemReaderState → ReaderState
reader_state r = record {
  bytes = Some r.bytes;
  uri = None;
  distance = r.distance;
  max_read_size = r.max_read_size;
  concurrency = r.concurrency;
  never_fails = is_well_behaved r.mischief;
  log = Some r.log;
  faults = r.faults;
}

-- a reader that was asked nothing yet
abbrev pub new_reader : List ℕ → Option ℕ → Option ℕ → ℕ → List Mischief → MemReaderState
new_reader bytes distance max_read_size concurrency mischief = record {
  bytes = bytes;
  distance = distance;
  max_read_size = max_read_size;
  concurrency = concurrency;
  mischief = mischief;
  log = [];
  faults = 0;
  sizes = 0;
  clones = 0;
}

-- what a call for the size answers and leaves
abbrev pub size_of : MemReaderState → Result ℕ Failed
size_of r = if fails_size r.mischief r.sizes then Err (record {}) else Ok (length r.bytes)

abbrev pub after_size : MemReaderState → MemReaderState
after_size r = record r { sizes = next_count r.sizes; faults = faults_after (fails_size r.mischief r.sizes) r.faults }

-- what a call for a clone answers and leaves: a clone has no mischief
pub record MemClones (before now : MemReaderState) (result : Result MemReaderState CloneError) : Type 0 where
  pub clone : IfOk result (λ r. (fails_clone before.mischief before.clones ≡ false) ×
      (r ≡ new_reader before.bytes before.distance before.max_read_size before.concurrency []))
  pub failed : result ≡ Err clone_error.Failed → fails_clone before.mischief before.clones ≡ true
  pub after : now ≡ record before { clones = next_count before.clones; faults = faults_after (fails_clone before.mischief before.clones) before.faults }

-- what a call for ranges answers and leaves
pub record MemReads {E : Type 0} (ranges : List ReadAtRequest) (before now : MemReaderState)
    (result : Result (Vec (RangeAnswer Buffer) Global) E) : Type 0 where
  pub answers : IfOk result (λ all. all.items ≡ answers_of before.bytes before.mischief (length before.log) ranges)
  pub mischief : now.mischief ≡ before.mischief
  pub sizes : now.sizes ≡ before.sizes
  pub clones : now.clones ≡ before.clones

-- ---- streams

-- a source in memory: the bytes that are left, the places of reads that fail, and the counts of reads and
-- faults
pub record MemSourceState : Type 0 where
  pub rest : List ℕ
  pub fail : List ℕ
  pub calls : ℕ
  pub faults : ℕ

abbrev pub source_state : MemSourceState → SourceState
source_state s = record { rest = Some s.rest; never_fails = is_empty s.fail; faults = s.faults }

-- as many bytes as there are and as the buffer holds
abbrev pub read_count : ℕ → MemSourceState → Result ℕ Failed
read_count size s = if is_failing s.fail s.calls then Err (record {}) else Ok (min size (length s.rest))

abbrev pub after_read : ℕ → MemSourceState → MemSourceState
after_read size s = record {
  rest = if is_failing s.fail s.calls then s.rest else drop (min size (length s.rest)) s.rest;
  fail = s.fail;
  calls = next_count s.calls;
  faults = faults_after (is_failing s.fail s.calls) s.faults;
}

-- a sink in memory: the bytes that it took, whether they were flushed, the places of writes and flushes that
-- fail, and the counts of these calls, of faults and of writes that found no memory
pub record MemSinkState : Type 0 where
  pub gained : List ℕ
  pub is_flushed : Bool
  pub fail : List ℕ
  pub calls : ℕ
  pub faults : ℕ
  pub memory_faults : ℕ

abbrev pub sink_state : MemSinkState → SinkState
sink_state s = record { gained = Some s.gained; is_flushed = s.is_flushed; never_fails = is_empty s.fail; faults = s.faults; memory_faults = s.memory_faults }

-- a call of a sink was counted, and failed where it was to
abbrev pub counted : MemSinkState → MemSinkState
counted s = record s { calls = next_count s.calls; faults = faults_after (is_failing s.fail s.calls) s.faults }

-- ---- openers

-- an opener in memory: its files, of which the first of a name counts, the places of opens that fail, the
-- names asked for, the readers taken back, and the counts of opens, of names that failed to open, of faults of
-- readers taken back, and of calls that found no memory
pub record MemOpenerState : Type 0 where
  pub files : List (String Global × Buffer × Vec Mischief Global)
  pub fail : List ℕ
  pub asked : List (List ℕ)
  pub returned : List Returned
  pub opens : ℕ
  pub faults : ℕ
  pub read_faults : ℕ
  pub memory_faults : ℕ

abbrev pub file_named : List ℕ → List (String Global × Buffer × Vec Mischief Global) → Option (String Global × Buffer × Vec Mischief Global)
file_named name files = find (λ f. bytes_eq (string_bytes f.0) name) files

-- a reader of a name has no distance, no read limit and a concurrency of 8
abbrev pub plain_settings : ReaderSettings
plain_settings = record { distance = None; max_read_size = None; concurrency = 8 }

abbrev pub opener_state : MemOpenerState → OpenerState
opener_state o = record {
  file = λ name. option_map (λ f. f.1.bytes) (file_named name o.files);
  settings = λ _. plain_settings;
  never_fails = λ name. is_empty o.fail && option_map_or (λ f. is_well_behaved f.2.items) (file_named name o.files) false;
  asked = Some o.asked;
  returned = Some o.returned;
  faults = o.faults;
  read_faults = o.read_faults;
  memory_faults = o.memory_faults;
}

abbrev pub new_opener : List (String Global × Buffer × Vec Mischief Global) → List ℕ → MemOpenerState
new_opener files fail = record { files = files; fail = fail; asked = []; returned = []; opens = 0; faults = 0; read_faults = 0; memory_faults = 0 }

-- a reader of a file has no distance, no read limit and a concurrency of 8
abbrev pub reader_of_file : String Global × Buffer × Vec Mischief Global → MemReaderState
reader_of_file f = new_reader f.1.bytes None None 8 f.2.items

-- the reader of a name, where it opens
abbrev pub reader_named : List ℕ → MemOpenerState → Option MemReaderState
reader_named name o = if is_failing o.fail o.opens then None else option_map reader_of_file (file_named name o.files)
