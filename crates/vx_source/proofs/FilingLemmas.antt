-- What a block of spans gives.
use Rattle.std.proofs.Common.{◌≡◌, ℕ, zero, suc, ◌+◌, ◌-◌, ◌<◌, List, [], ◌∷◌, ◌++◌, length, map, drop, get_or, Some, None, Result, Ok, Err, refl, sym, ap, ◌∙◌, subst, arith, append_assoc, add-one, inr, true, cond}
use Rattle.std.specs.Prelude.{slice_get, is_err, is_some, Vec}
use Rattle.std.specs.Global.{Global}
use Rattle.std.specs.Option.{option_map}
use Rattle.std.proofs.lemmas.List.{take_all}
use Rattle.vx_base.specs.Asking.{ranges_of, faulted}
use Rattle.vx_base.specs.Buffer.{Buffer, bytes_at}
use Rattle.vx_base.specs.declared.answer.ReadAtRequest.{ReadAtRequest}
use Rattle.std.proofs.lemmas.List.Sums.{sum_by_from}
use Rattle.vx_base.specs.Counts.{Rises}
use Rattle.vx_base.specs.declared.answer.Asked.{Asked}
use Rattle.vx_base.specs.Readers.{ReaderState}
use Rattle.vx_sched.specs.Io.{request_of}
use Rattle.vx_sched.specs.Outcomes.{log_of, AreOutcomesOf, AskCause}
use Rattle.vx_sched.specs.Span as sched
use Rattle.vx_sched.specs.declared.fault.Outcome.{Outcome}
use Rattle.vx_sched.specs.declared.request.ReadRequest.{ReadRequest}
use Rattle.vx_sched.specs.declared.fault.Outcome.TheVariants as out
use Rattle.vx_source.specs.Asks.{asked_by, bad_spans}
use Rattle.vx_source.specs.Blocks.{reports_of, filed_of, filed_good, AskedBlock}
use Rattle.vx_source.specs.Requests.{Filed}
use Rattle.vx_source.specs.declared.span.SpanOutcome.TheVariants.{Good}
use Rattle.vx_source.specs.declared.filing.Block.{Block}

get-or-some : {X : Type 0} (xs : List X) (i : ℕ) (d : X) → i < length xs → slice_get xs i ≡ Some (get_or xs i d)
get-or-some [] i d h = absurd (omega arith)
get-or-some (x ∷ xs) zero d h = refl
get-or-some (x ∷ xs) (suc i) d h = get-or-some xs i d (omega arith)

-- the element of an index
pub got : {X : Type 0} (xs : List X) (i : ℕ) (x : X) → i < length xs → x ≡ get_or xs i x → slice_get xs i ≡ Some x
got xs i x h e = get-or-some xs i x h ∙ ap (λ y. Some y) (sym e)

drop-at : {X : Type 0} (xs : List X) (i : ℕ) (x : X) → slice_get xs i ≡ Some x → drop i xs ≡ x ∷ drop (suc i) xs
drop-at [] i x e = cc
drop-at (y ∷ ys) zero x e = let same : y ≡ x = cc in ap (λ z. z ∷ ys) same
drop-at (y ∷ ys) (suc i) x e = drop-at ys i x e

-- one element more of a mapped list
pub map-more : {X Y : Type 0} (f : X → Y) (front : List Y) (xs : List X) (i : ℕ) (x : X) → slice_get xs i ≡ Some x
    → (front ++ f x ∷ []) ++ map f (drop (i + 1) xs) ≡ front ++ map f (drop i xs)
map-more f front xs i x e = rw append_assoc (rw add-one (ap (λ ys. front ++ map f ys) (sym (drop-at xs i x e))))

-- a read alone that has all bytes of a span is given them as they are
pub whole-good : (span : sched.Span) (buffer : Buffer) (read : ReadRequest) (front : List Filed) → span.reads ≡ read ∷ [] → read.offset ≡ span.start → read.length ≡ span.end - span.start
    → length buffer.bytes ≡ span.end - span.start
    → front ++ record { read = read.id; outcome = Good; bytes = Some (record { bytes = buffer.bytes; alignment = read.alignment }) } ∷ [] ≡ front ++ map (filed_good span buffer) span.reads
whole-good span buffer read front only start whole long =
    let begins : read.offset - span.start ≡ 0 = omega (arith, start) in
    let all : bytes_at buffer.bytes (read.offset - span.start) read.length ≡ buffer.bytes =
    ap (λ n. bytes_at buffer.bytes n read.length) begins ∙ take_all read.length buffer.bytes (omega (arith, whole, long)) in
    ap (λ b. front ++ record { read = read.id; outcome = Good; bytes = Some (record { bytes = b; alignment = read.alignment }) } ∷ []) (sym all)
    ∙ ap (λ rs. front ++ map (filed_good span buffer) rs) (sym only)

-- ---- the log of a block

-- the ranges of spans with their marks are what their reports say
pub log-reports : (cores : List sched.Span) (outcomes : List Outcome) → AreOutcomesOf (map request_of cores) outcomes
    → log_of (map request_of cores) outcomes ≡ asked_by (reports_of cores outcomes)
log-reports [] outcomes h = refl
log-reports (core ∷ rest) [] h = absurd h
log-reports (core ∷ rest) (out.Bytes buffer ∷ more) h = ap (λ l. record { range = request_of core; mark = None } ∷ l) (log-reports rest more h.1)
log-reports (core ∷ rest) (out.Fault fault ∷ more) h = ap (λ l. record { range = request_of core; mark = Some fault.kind } ∷ l) (log-reports rest more h.1)
log-reports (core ∷ rest) (out.NoMemory ∷ more) h = absurd h.0

pub bad-reports : (cores : List sched.Span) (outcomes : List Outcome) → AreOutcomesOf (map request_of cores) outcomes
    → faulted (log_of (map request_of cores) outcomes) ≡ bad_spans (reports_of cores outcomes)
bad-reports [] outcomes h = refl
bad-reports (core ∷ rest) [] h = absurd h
bad-reports (core ∷ rest) (out.Bytes buffer ∷ more) h = let e = bad-reports rest more h.1 in omega (arith, e)
bad-reports (core ∷ rest) (out.Fault fault ∷ more) h =
    sum_by_from (λ (a : Asked). cond (is_some a.mark) 1 0) 1 (log_of (map request_of rest) more) ∙ ap (λ n. 1 + n) (bad-reports rest more h.1)
bad-reports (core ∷ rest) (out.NoMemory ∷ more) h = absurd h.0

-- the ranges of a log are those that were asked
pub ranges-log : (ranges : List ReadAtRequest) (outcomes : List Outcome) → AreOutcomesOf ranges outcomes → ranges_of (log_of ranges outcomes) ≡ ranges
ranges-log [] outcomes h = refl
ranges-log (r ∷ rest) [] h = absurd h
ranges-log (r ∷ rest) (o ∷ more) h = ap (λ rs. r ∷ rs) (ranges-log rest more h.1)

-- ---- a block that was asked

module _ {E : Type 0} (cores : List sched.Span) (before now : ReaderState) where
  pub asked-block : (outcomes : Vec Outcome Global) (b : Block) → AskCause {E = E} (map request_of cores) before now (Ok outcomes)
      → b.reports.items ≡ reports_of cores outcomes.items → b.filed.items ≡ filed_of cores outcomes.items → AskedBlock {E = E} cores before now (Ok b)
  asked-block outcomes b h reports filed = record {
    outcomes = (outcomes.items, (record { places = h.places; reports = reports; filed = filed }, h.bytes));
    log = h.log ∙ ap (λ l. option_map (λ x. x ++ l) before.log) (log-reports cores outcomes.items h.places ∙ ap asked_by (sym reports));
    rises = subst (λ n. Rises n before.faults now.faults) (bad-reports cores outcomes.items h.places ∙ ap bad_spans (sym reports)) h.rises;
    memory = tt;
    sound = h.sound;
    complete = λ bytes never told inside. ap bad_spans reports ∙ sym (bad-reports cores outcomes.items h.places) ∙ h.complete bytes never told inside;
  }

  -- memory was wanting after the reader answered
  pub asked-lost : {F : Type 0} (outcomes : Vec Outcome Global) (r : Result Block F) → is_err r ≡ true → AskCause {E = E} (map request_of cores) before now (Ok outcomes)
      → AskedBlock {E = F} cores before now r
  asked-lost outcomes (Ok b) e h = cc
  asked-lost outcomes (Err x) e h = record {
    outcomes = tt;
    log = tt;
    rises = tt;
    memory = record { more = log_of (map request_of cores) outcomes.items; asked = inr (ranges-log (map request_of cores) outcomes.items h.places); grew = h.log };
    sound = h.sound;
    complete = tt;
  }
