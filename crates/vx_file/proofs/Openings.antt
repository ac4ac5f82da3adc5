-- The tail of a file has all tables, and tells its footer.
use Rattle.std.proofs.Common.{◌≡◌, ℕ, ◌+◌, ◌-◌, ◌<◌, ◌≤◌, Bool, true, false, cond, List, [], ◌∷◌, ◌++◌, length, map, take, drop, refl, sym, ap, subst, ◌∙◌, arith, Option, Some, None, Result, Ok, Err, ◌⊎◌, inl, inr, length-append}
use Rattle.std.specs.Prelude.{nat_le, nat_lt, min, All, IfNone}
use Rattle.std.specs.List.{list_all}
use Rattle.std.proofs.lemmas.Bool.Decides.{nat_tests}
use Rattle.std.proofs.lemmas.Bool.{cases_lt}
use Rattle.std.proofs.lemmas.List.{take-append-drop, drop-drop}
use Rattle.std.proofs.lemmas.List.Sums.{AllPass-from_list_all}
use Rattle.vx_base.specs.Asking.{Log, GrewOrStayed, ranges_of}
use Rattle.vx_base.specs.Buffer.{bytes_at}
use Rattle.vx_base.specs.Checks.{◌>>=◌, ◌unless◌}
use Rattle.vx_base.specs.Readers.{ReaderState}
use Rattle.vx_base.specs.declared.answer.ReadAtRequest.{ReadAtRequest}
use Rattle.vx_base.specs.declared.segment.SegmentSpec.{SegmentSpec}
use Rattle.vx_sched.specs.declared.fault.Fault.{Fault}
use Rattle.vx_footer.specs.declared.deserializer.DeserializeStep.{DeserializeStep}
use Rattle.vx_footer.specs.declared.deserializer.DeserializeStep.TheVariants.{NeedMoreData, NeedFileSize, Done}
use Rattle.vx_footer.specs.declared.error.OpenError.{OpenError}
use Rattle.vx_footer.specs.declared.error.OpenError.TheVariants.{PastEnd}
use Rattle.vx_footer.specs.declared.footer.Footer.{Footer}
use Rattle.vx_footer.specs.declared.postscript.Postscript.{Postscript}
use Rattle.vx_footer.specs.declared.version.FileVersion.{FileVersion}
use Rattle.vx_footer.specs.Footers.{FooterContent, segment_table}
use Rattle.vx_footer.specs.Opening.{tail_checks, least_offset, table_bytes, table_checks, ends_within, EndsWithin, extent_check, footer_of, vx_grammar}
use Rattle.vx_footer.specs.Steps.{done_step, tables_step, step_of, file_step, IsSuffix, HasEnd, asks_bytes}
use Rattle.vx_footer.proofs.Seen.{step-seen, long_has_end, nat_le-is, was_asked, no_second_request}
use Rattle.vx_source.specs.declared.tail.Tail.{Tail}
use Rattle.vx_source.specs.Asks.{Grew}
use Rattle.vx_file.specs.Hints.{Hints}
use Rattle.vx_file.specs.Plans.{tail_plan}
use Rattle.vx_file.specs.Ranges.{first_start, reached, tail_start, range_before, tail_ranges, opening_range, opened}
use Rattle.vx_file.specs.Serving.{RefusedFrom, SizeFault, TailFault, StopsOpening, faulty}
use Rattle.vx_file.specs.declared.served.ServeError.{ServeError}
use Rattle.vx_file.specs.declared.served.ServeError.TheVariants.{Open, Fault as FaultOf, CacheFault, OutOfMemory}
use Rattle.vx_file.specs.Tails.{TailFrom, FirstRead, RangeFault, first_range, FirstCause, tail_step, Looks, Finishes, Prefixed, BeforeRead, BeforeCause, IsFound, TailRead, TailCause, FooterCause}
use Rattle.vx_source.proofs.DriveLemmas.{grew-then, rises-then}

-- ---- the step of a file

nat_le-false : (a b : ℕ) → nat_le a b ≡ false → b < a
nat_le-false a b h = grind (arith, nat_tests)

lt-true : (a b : ℕ) → a < b → nat_lt a b ≡ true
lt-true a b h = grind (arith, nat_tests)

lt-same : (a : ℕ) → nat_lt a a ≡ false
lt-same a = grind (arith, nat_tests)

-- what a step of a file, of which the bytes from a start on are seen, says of it
abbrev pub SaysOfFile : Hints → List ℕ → ℕ → Result DeserializeStep OpenError → Type 0
SaysOfFile hints file start (Ok (Done f)) = (footer_of file hints.dtype ≡ Ok f.content) × (reached hints (tail_checks hints.dtype file) start ≡ start)
SaysOfFile hints file start (Ok (NeedMoreData offset len)) = (reached hints (tail_checks hints.dtype file) start ≡ offset) × (offset < start) × (offset + len ≡ start)
SaysOfFile hints file start (Ok NeedFileSize) = Unit {0}
SaysOfFile hints file start (Err e) = (footer_of file hints.dtype ≡ Err e) × (reached hints (tail_checks hints.dtype file) start ≡ start)

abbrev pieces : Hints → List ℕ → FileVersion × Postscript → Result FooterContent OpenError
pieces hints file tail = table_checks (table_bytes file) hints.dtype tail.0 tail.1

footer_is : (hints : Hints) (file : List ℕ) (r : Result (FileVersion × Postscript) OpenError) → tail_checks hints.dtype file ≡ r → footer_of file hints.dtype ≡ (r >>= pieces hints file)
unfolding footer_of
footer_is hints file r is = ap (λ x. x >>= pieces hints file) is

file_step_is : (hints : Hints) (file : List ℕ) (start : ℕ) (r : Result (FileVersion × Postscript) OpenError) → tail_checks hints.dtype file ≡ r → file_step hints.dtype file start ≡ (r >>= λ t. tables_step hints.dtype start (table_bytes file) t.0 t.1)
unfolding file_step
file_step_is hints file start r is = ap (λ x. x >>= λ t. tables_step hints.dtype start (table_bytes file) t.0 t.1) is

min-right : (a b : ℕ) → b ≤ a → min a b ≡ b
min-right a b h = omega (arith, h)

min-left : (a b : ℕ) → a < b → min a b ≡ a
min-left a b h = omega (arith, h)

done_says : (hints : Hints) (file : List ℕ) (start : ℕ) (ps : Postscript) (footer : Result FooterContent OpenError) (step : Result DeserializeStep OpenError) → footer_of file hints.dtype ≡ footer → reached hints (tail_checks hints.dtype file) start ≡ start
    → done_step ps footer ≡ step → SaysOfFile hints file start step
done_says hints file start ps (Ok f) step found from is = subst (SaysOfFile hints file start) is (found, from)
done_says hints file start ps (Err e) step found from is = subst (SaysOfFile hints file start) is (found, from)

chosen_says : (hints : Hints) (file : List ℕ) (start : ℕ) (tail : FileVersion × Postscript) (test : Bool) (step : Result DeserializeStep OpenError) → tail_checks hints.dtype file ≡ Ok tail → nat_le start (least_offset hints.dtype tail.1) ≡ test
    → cond test (done_step tail.1 (pieces hints file tail)) (Ok (NeedMoreData (least_offset hints.dtype tail.1) (start - least_offset hints.dtype tail.1))) ≡ step → SaysOfFile hints file start step
chosen_says hints file start tail true step checked t is =
    done_says hints file start tail.1 (pieces hints file tail) step (footer_is hints file (Ok tail) checked) (ap (λ r. reached hints r start) checked ∙ min-right _ _ (nat_le-is _ _ t)) is
chosen_says hints file start tail false step checked t is =
    let less = nat_le-false _ _ t in
    subst (SaysOfFile hints file start) is (ap (λ r. reached hints r start) checked ∙ min-left _ _ less, less, omega (arith, less))

checked_says : (hints : Hints) (file : List ℕ) (start : ℕ) (r : Result (FileVersion × Postscript) OpenError) (step : Result DeserializeStep OpenError) → tail_checks hints.dtype file ≡ r
    → (r >>= λ t. tables_step hints.dtype start (table_bytes file) t.0 t.1) ≡ step → SaysOfFile hints file start step
checked_says hints file start (Err e) step checked is = subst (SaysOfFile hints file start) is (footer_is hints file (Err e) checked, ap (λ r. reached hints r start) checked)
checked_says hints file start (Ok tail) step checked is = chosen_says hints file start tail (nat_le start (least_offset hints.dtype tail.1)) step checked refl is

pub says_of_file : (hints : Hints) (file : List ℕ) (start : ℕ) (step : Result DeserializeStep OpenError) → file_step hints.dtype file start ≡ step → SaysOfFile hints file start step
says_of_file hints file start step is = checked_says hints file start (tail_checks hints.dtype file) step refl (sym (file_step_is hints file start (tail_checks hints.dtype file) refl) ∙ is)

-- the step of a tail is that of its file
pub tail-says : (hints : Hints) (file : List ℕ) (from : ℕ) (t : Tail) (step : Result DeserializeStep OpenError) → TailFrom file from t → from ≤ first_start hints (length file) → tail_step hints t ≡ step → SaysOfFile hints file from step
tail-says hints file from t step h early is =
    let total : t.start + length t.bytes.bytes ≡ length file = omega (arith, h.start, h.total) in
    let suffix : IsSuffix file from t.bytes.bytes = record { bytes = h.bytes; total = h.total } in
    let enough : (from ≡ 0) ⊎ HasEnd t.bytes.bytes = elim (cases_lt 65535 (length t.bytes.bytes + 1)) [
      | inl more ↦ inr (long_has_end t.bytes.bytes (omega (arith, more)))
      | inr less ↦ inl (omega (arith, less, h.total, early))
    ] in
    says_of_file hints file from step (step-seen hints.dtype file from t.bytes.bytes suffix enough ∙ ap (λ n. step_of hints.dtype (Some n) t.bytes.bytes) (sym total) ∙ is)

-- ---- the first range

first-length : (hints : Hints) (file : List ℕ) (t : Tail) → TailFrom file (first_start hints (length file)) t → length t.bytes.bytes ≡ length file - first_start hints (length file)
first-length hints file t h = omega (arith, h.total)

abbrev one_range : ℕ → ℕ → List (ℕ × ℕ)
one_range offset len = (offset, len) ∷ []

first-asked : (hints : Hints) (file : List ℕ) (t : Tail) → TailFrom file (first_start hints (length file)) t → one_range t.start (length t.bytes.bytes) ≡ first_range hints file ∷ []
first-asked hints file t h = ap (λ n. one_range n (length t.bytes.bytes)) h.start ∙ ap (one_range (first_start hints (length file))) (first-length hints file t h)

-- where no table lies before the first range, there is no other
pub ranges-one : (hints : Hints) (file : List ℕ) → tail_start hints file ≡ first_start hints (length file) → tail_ranges hints file ≡ first_range hints file ∷ []
ranges-one hints file is =
    ap (λ n. first_range hints file ∷ range_before n (first_start hints (length file))) is
    ∙ ap (λ b. first_range hints file ∷ cond b (one_range (first_start hints (length file)) (first_start hints (length file) - first_start hints (length file))) []) (lt-same (first_start hints (length file)))

pub ranges-two : (hints : Hints) (file : List ℕ) (offset len : ℕ) → tail_start hints file ≡ offset → offset < first_start hints (length file) → offset + len ≡ first_start hints (length file) → tail_ranges hints file ≡ first_range hints file ∷ (offset, len) ∷ []
ranges-two hints file offset len is before joins =
    let first = first_start hints (length file) in
    let size : first - offset ≡ len = omega (arith, joins) in
    ap (λ n. first_range hints file ∷ range_before n first) is
    ∙ ap (λ b. first_range hints file ∷ cond b (one_range offset (first - offset)) []) (lt-true offset first before)
    ∙ ap (λ n. first_range hints file ∷ one_range offset n) size

grammar-fails : (hints : Hints) (file : List ℕ) (e : OpenError) → footer_of file hints.dtype ≡ Err e → vx_grammar file hints.dtype ≡ Err e
unfolding vx_grammar
grammar-fails hints file e h = ap (λ r. r >>= extent_check (length file)) h

first-grew : (hints : Hints) (file : List ℕ) (before now : ReaderState) (t : Tail) → FirstRead hints file before now t → Grew (opened (first_range hints file ∷ [])) before.log now.log
first-grew hints file before now t h = subst (λ rs. Grew (opened rs) before.log now.log) (first-asked hints file t h.tail) h.asked

-- a file that the first range refuses
pub first-refused : (hints : Hints) (file : List ℕ) (before now : ReaderState) (t : Tail) (e : OpenError) → FirstRead hints file before now t → tail_step hints t ≡ Err e → RefusedFrom (tail_plan hints file) before now e
first-refused hints file before now t e h is =
    let says = tail-says hints file (first_start hints (length file)) t (Err e) h.tail (omega arith) is in
    record {
      fails = grammar-fails hints file e says.0;
      asked = subst (λ rs. Grew (opened rs) before.log now.log) (sym (ranges-one hints file says.1)) (first-grew hints file before now t h);
    }

-- the first range has all tables
pub first-whole : (hints : Hints) (file : List ℕ) (before now : ReaderState) (t : Tail) (f : Footer) → FirstRead hints file before now t → tail_step hints t ≡ Ok (Done f) → TailRead hints file before now (record { tail = t; first = t.start; footer = Some f })
first-whole hints file before now t f h is =
    let says = tail-says hints file (first_start hints (length file)) t (Ok (Done f)) h.tail (omega arith) is in
    record {
      first = h.tail.start;
      tail = subst (λ n. TailFrom file n t) (sym says.1) h.tail;
      footer = says.0;
      asked = subst (λ rs. Grew (opened rs) before.log now.log) (sym (ranges-one hints file says.1)) (first-grew hints file before now t h);
      rises = h.rises;
    }

-- memory ran out behind the first range
pub first-stops : (hints : Hints) (file : List ℕ) (before now : ReaderState) (t : Tail) → FirstRead hints file before now t → StopsOpening (tail_plan hints file) before now
first-stops hints file before now t h = record {
  gained = opened (first_range hints file ∷ []);
  rest = map opening_range (range_before (tail_start hints file) (first_start hints (length file)));
  ranges = refl;
  grew = first-grew hints file before now t h;
}

some_asked : (ranges : List ReadAtRequest) (r : ReadAtRequest) (more : List ReadAtRequest) → (ranges ≡ []) ⊎ (ranges ≡ r ∷ []) → (rest : List ReadAtRequest) × (r ∷ more ≡ ranges ++ rest)
some_asked ranges r more h = elim h [ inl none ↦ (r ∷ more, ap (λ rs. rs ++ (r ∷ more)) (sym none)) | inr one ↦ (more, ap (λ rs. rs ++ more) (sym one)) ]

-- memory ran out in the first range
pub asking-first-stops : (hints : Hints) (file : List ℕ) (before now : ReaderState) → GrewOrStayed (opening_range (first_range hints file) ∷ []) before.log now.log → StopsOpening (tail_plan hints file) before now
asking-first-stops hints file before now h =
    let some = some_asked (ranges_of h.more) (opening_range (first_range hints file)) (map opening_range (range_before (tail_start hints file) (first_start hints (length file)))) h.asked in
    record { gained = h.more; rest = some.0; ranges = some.1; grew = h.grew }

-- the first range failed
pub first-fails : (hints : Hints) (file : List ℕ) (before now : ReaderState) (fault : Fault) → SizeFault (tail_plan hints file) before now fault ⊎ RangeFault (first_range hints file).0 (first_range hints file).1 before now fault → SizeFault (tail_plan hints file) before now fault ⊎ TailFault (tail_plan hints file) before now fault
first-fails hints file before now fault h = elim h [
  | inl size ↦ inl size
  | inr range ↦ inr (record {
    front = [];
    range = first_range hints file;
    rest = range_before (tail_start hints file) (first_start hints (length file));
    ranges = refl;
    place = range.place;
    asked = range.asked;
  })
]

-- ---- the second range

-- what the first range told of a second one
record Second (hints : Hints) (file : List ℕ) (offset len : ℕ) : Type 0 where
  start : tail_start hints file ≡ offset
  before : offset < first_start hints (length file)
  joins : offset + len ≡ first_start hints (length file)
  ranges : tail_ranges hints file ≡ first_range hints file ∷ (offset, len) ∷ []

second : (hints : Hints) (file : List ℕ) (before now : ReaderState) (t : Tail) (offset len : ℕ) → FirstRead hints file before now t → tail_step hints t ≡ Ok (NeedMoreData offset len) → Second hints file offset len
second hints file before now t offset len h is =
    let says = tail-says hints file (first_start hints (length file)) t (Ok (NeedMoreData offset len)) h.tail (omega arith) is in
    record { start = says.0; before = says.1; joins = says.2; ranges = ranges-two hints file offset len says.0 says.1 says.2 }

two-grew : (hints : Hints) (file : List ℕ) (offset len : ℕ) (gained : Log) (before mid now : ReaderState) (t : Tail) → FirstRead hints file before mid t → Grew gained mid.log now.log → Grew (opened (first_range hints file ∷ []) ++ gained) before.log now.log
two-grew hints file offset len gained before mid now t h grew = grew-then (opened (first_range hints file ∷ [])) gained before.log mid.log now.log (first-grew hints file before mid t h) grew

bytes-join : (file : List ℕ) (offset len from : ℕ) → offset + len ≡ from → bytes_at file offset len ++ drop from file ≡ drop offset file
bytes-join file offset len from joins =
    ap (λ xs. take len (drop offset file) ++ xs) (ap (λ n. drop n file) (sym joins) ∙ sym (drop-drop len offset file)) ∙ take-append-drop len (drop offset file)

pub second-read : (hints : Hints) (file : List ℕ) (before mid now : ReaderState) (t tail : Tail) (offset len : ℕ) → FirstRead hints file before mid t → tail_step hints t ≡ Ok (NeedMoreData offset len) → BeforeRead file t offset len mid now tail
    → TailRead hints file before now (record { tail = tail; first = t.start; footer = None })
second-read hints file before mid now t tail offset len h is read =
    let s = second hints file before mid t offset len h is in
    let bytes : tail.bytes.bytes ≡ drop offset file = read.bytes ∙ ap (λ xs. bytes_at file offset len ++ xs) h.tail.bytes ∙ bytes-join file offset len (first_start hints (length file)) s.joins in
    let at_offset : TailFrom file offset tail = record { start = read.start; bytes = bytes; total = omega (arith, read.size, h.tail.total, s.joins) } in
    record {
      first = h.tail.start;
      tail = subst (λ n. TailFrom file n tail) (sym s.start) at_offset;
      footer = tt;
      asked = subst (λ rs. Grew (opened rs) before.log now.log) (sym s.ranges) (two-grew hints file offset len (opened ((offset, len) ∷ [])) before mid now t h read.asked);
      rises = rises-then 0 0 before.faults mid.faults now.faults h.rises read.rises;
    }

pub second-fails : (hints : Hints) (file : List ℕ) (before mid now : ReaderState) (t : Tail) (offset len : ℕ) (fault : Fault) → FirstRead hints file before mid t → tail_step hints t ≡ Ok (NeedMoreData offset len) → RangeFault offset len mid now fault
    → TailFault (tail_plan hints file) before now fault
second-fails hints file before mid now t offset len fault h is failed =
    let s = second hints file before mid t offset len h is in
    record {
      front = first_range hints file ∷ [];
      range = (offset, len);
      rest = [];
      ranges = s.ranges;
      place = failed.place;
      asked = two-grew hints file offset len (faulty (offset, len) fault ∷ []) before mid now t h failed.asked;
    }

pub second-stops : (hints : Hints) (file : List ℕ) (before mid now : ReaderState) (t : Tail) (offset len : ℕ) → FirstRead hints file before mid t → tail_step hints t ≡ Ok (NeedMoreData offset len)
    → GrewOrStayed (opening_range (offset, len) ∷ []) mid.log now.log → StopsOpening (tail_plan hints file) before now
second-stops hints file before mid now t offset len h is stopped =
    let s = second hints file before mid t offset len h is in
    let some = some_asked (ranges_of stopped.more) (opening_range (offset, len)) [] stopped.asked in
    record {
      gained = opened (first_range hints file ∷ []) ++ stopped.more;
      rest = some.0;
      ranges = ap (map opening_range) s.ranges ∙ ap (λ rs. opening_range (first_range hints file) ∷ rs) some.1;
      grew = two-grew hints file offset len stopped.more before mid now t h stopped.grew;
    }

-- ---- the footer

reached-early : (hints : Hints) (r : Result (FileVersion × Postscript) OpenError) (n : ℕ) → reached hints r n ≤ n
reached-early hints (Ok tail) n = omega arith
reached-early hints (Err e) n = omega arith

tail-early : (hints : Hints) (file : List ℕ) → tail_start hints file ≤ first_start hints (length file)
tail-early hints file = reached-early hints (tail_checks hints.dtype file) (first_start hints (length file))

passed : (hints : Hints) (file : List ℕ) (f : FooterContent) (b : Bool) → footer_of file hints.dtype ≡ Ok f → list_all (ends_within (length file)) (segment_table f) ≡ b → vx_grammar file hints.dtype ≡ ((PastEnd unless b) >>= λ _. Ok f)
unfolding vx_grammar
passed hints file f b h test = ap (λ r. r >>= extent_check (length file)) h ∙ ap (λ t. (PastEnd unless t) >>= λ _. Ok f) test

-- the footer of a tail is that of its file
pub found-footer : (hints : Hints) (file : List ℕ) (t : Tail) (f : Footer) → TailFrom file (tail_start hints file) t → tail_step hints t ≡ Ok (Done f) → footer_of file hints.dtype ≡ Ok f.content
found-footer hints file t f h is = (tail-says hints file (tail_start hints file) t (Ok (Done f)) h (tail-early hints file) is).0

pub not-found : (hints : Hints) (file : List ℕ) (t : Tail) (e : OpenError) → TailFrom file (tail_start hints file) t → tail_step hints t ≡ Err e → vx_grammar file hints.dtype ≡ Err e
not-found hints file t e h is = grammar-fails hints file e (tail-says hints file (tail_start hints file) t (Err e) h (tail-early hints file) is).0

pub whole-file : (hints : Hints) (file : List ℕ) (t : Tail) (f : FooterContent) (b : Bool) → TailFrom file (tail_start hints file) t → footer_of file hints.dtype ≡ Ok f → b ≡ list_all (ends_within (t.start + length t.bytes.bytes)) (segment_table f)
    → vx_grammar file hints.dtype ≡ ((PastEnd unless b) >>= λ _. Ok f)
whole-file hints file t f b h found test =
    let total : t.start + length t.bytes.bytes ≡ length file = omega (arith, h.start, h.total) in
    passed hints file f b found (sym (test ∙ ap (λ n. list_all (ends_within n) (segment_table f)) total))

-- segments that pass the test end within the file
pub all-end : (n : ℕ) (ss : List SegmentSpec) → list_all (ends_within n) ss ≡ true → All (EndsWithin n) ss
all-end n ss h k d lt = nat_le-is _ _ (AllPass-from_list_all (ends_within n) ss h k d lt)

-- ---- the answers of reading a tail

pub first-errs : (hints : Hints) (file : List ℕ) (before now : ReaderState) (e : ServeError) → FirstCause hints file before now (Err e) → TailCause hints file before now (Err e)
first-errs hints file before now (Open e) h = absurd h
first-errs hints file before now (FaultOf fault) h = first-fails hints file before now fault h
first-errs hints file before now CacheFault h = absurd h
first-errs hints file before now OutOfMemory h = asking-first-stops hints file before now h

pub look-errs : (hints : Hints) (file : List ℕ) (before now : ReaderState) (t : Tail) (e : ServeError) → FirstRead hints file before now t → Looks (tail_step hints t) (Err e) → TailCause hints file before now (Err e)
look-errs hints file before now t (Open e) h is = first-refused hints file before now t e h is
look-errs hints file before now t (FaultOf fault) h is = absurd is
look-errs hints file before now t CacheFault h is = absurd is
look-errs hints file before now t OutOfMemory h is = first-stops hints file before now t h

pub before-errs : (hints : Hints) (file : List ℕ) (before mid now : ReaderState) (t : Tail) (offset len : ℕ) (e : ServeError) → FirstRead hints file before mid t → tail_step hints t ≡ Ok (NeedMoreData offset len)
    → BeforeCause file t offset len mid now (Err e) → TailCause hints file before now (Err e)
before-errs hints file before mid now t offset len (Open e) h is failed = absurd failed
before-errs hints file before mid now t offset len (FaultOf fault) h is failed = inr (second-fails hints file before mid now t offset len fault h is failed)
before-errs hints file before mid now t offset len CacheFault h is failed = absurd failed
before-errs hints file before mid now t offset len OutOfMemory h is failed = second-stops hints file before mid now t offset len h is failed

-- the range that a tail asks for ends where the tail begins
pub meets : (hints : Hints) (t : Tail) (offset len : ℕ) → tail_step hints t ≡ Ok (NeedMoreData offset len) → offset + len ≡ t.start
meets hints t offset len is =
    let a = was_asked hints.dtype (t.start + length t.bytes.bytes) t.bytes.bytes offset len is in
    omega (arith, a.before, a.rest)

pub prefixed-length : (offset len : ℕ) (t now : Tail) → Prefixed offset len t now → length now.bytes.bytes ≡ len + length t.bytes.bytes
prefixed-length offset len t now p = ap length p.bytes ∙ length-append p.more t.bytes.bytes ∙ ap (λ n. n + length t.bytes.bytes) p.as_many

pub settled-by : (hints : Hints) (offset len : ℕ) (t now : Tail) → Prefixed offset len t now → tail_step hints t ≡ Ok (NeedMoreData offset len) → asks_bytes (tail_step hints now) ≡ false
settled-by hints offset len t now p is =
    let joined : now.start + length now.bytes.bytes ≡ t.start + length t.bytes.bytes = omega (arith, p.start, prefixed-length offset len t now p, meets hints t offset len is) in
    ap (λ n. asks_bytes (step_of hints.dtype (Some n) now.bytes.bytes)) joined
    ∙ ap (λ b. asks_bytes (step_of hints.dtype (Some (t.start + length t.bytes.bytes)) b)) p.bytes
    ∙ no_second_request hints.dtype (t.start + length t.bytes.bytes) t.bytes.bytes p.more offset len is p.as_many

-- ---- the answers of finding a footer

abbrev pub Known : Option Footer → Result Footer ServeError → Type 0
Known footer result = (f : Footer) → footer ≡ Some f → result ≡ Ok f

apart : (e : ServeError) (f : Footer) → (let err : Result Footer ServeError = Err e in err) ≡ Ok f → ⊥
apart e f h = cc

pub footer-errs : (hints : Hints) (file : List ℕ) (t : Tail) (footer : Option Footer) (e : ServeError) → TailFrom file (tail_start hints file) t → Known footer (Err e) → IfNone footer (Finishes (tail_step hints t) (Err e)) → FooterCause hints file (Err e)
footer-errs hints file t (Some f) e h known told = absurd (apart e f (known f refl))
footer-errs hints file t None (Open e) h known told = not-found hints file t e h told
footer-errs hints file t None (FaultOf fault) h known told = absurd told
footer-errs hints file t None CacheFault h known told = absurd told
footer-errs hints file t None OutOfMemory h known told = tt

same_footer : (g f : Footer) → (let ok : Result Footer ServeError = Ok f in ok) ≡ Ok g → f ≡ g
same_footer g f h = cc

pub footer-content : (hints : Hints) (file : List ℕ) (t : Tail) (footer : Option Footer) (f : Footer) → TailFrom file (tail_start hints file) t → IsFound hints file footer → Known footer (Ok f) → IfNone footer (Finishes (tail_step hints t) (Ok f))
    → footer_of file hints.dtype ≡ Ok f.content
footer-content hints file t (Some g) f h found known told = found ∙ ap (λ (x : Footer). Ok x.content) (sym (same_footer g f (known g refl)))
footer-content hints file t None f h found known told = found-footer hints file t f h told
