-- How a file is opened, from its tail or by the footer that is supplied.
use Rattle.std.proofs.Common.{◌≡◌, ℕ, zero, suc, ◌+◌, ◌-◌, ◌^◌, ◌<◌, ◌≤◌, Bool, true, false, List, [], ◌∷◌, length, map, get_or, Option, Some, None, Result, Ok, Err, refl, sym, ap, subst, ◌∙◌, arith, inl, inr}
use Rattle.std.specs.Prelude.{All, slice_get}
use Rattle.std.specs.List.{list_all}
use Rattle.std.proofs.lemmas.List.{append-nil}
use Rattle.vx_base.specs.Asking.{ranges_of}
use Rattle.vx_base.specs.Checks.{◌>>=◌, ◌unless◌}
use Rattle.vx_base.specs.Readers.{ReaderState}
use Rattle.vx_base.specs.declared.segment.SegmentSpec.{SegmentSpec}
use Rattle.vx_data.specs.Dtype.{Dtype}
use Rattle.vx_data.specs.Layout.{dtype_of}
use Rattle.vx_footer.specs.declared.error.OpenError.{OpenError}
use Rattle.vx_footer.specs.declared.error.OpenError.TheVariants.{PastEnd}
use Rattle.vx_footer.specs.declared.footer.Footer.{Footer}
use Rattle.vx_footer.specs.Footers.{FooterContent, segment_table}
use Rattle.vx_footer.specs.Opening.{vx_grammar, footer_of, extent_check, ends_within, EndsWithin}
use Rattle.vx_source.specs.Stands.{AreFit}
use Rattle.vx_source.specs.Stands.{EndsWithin as TableEndsWithin}
use Rattle.vx_source.specs.declared.tail.Tail.{Tail}
use Rattle.vx_source.proofs.DriveLemmas.{grew-none}
use Rattle.vx_file.specs.declared.opened.Opened.{Opened}
use Rattle.vx_file.specs.declared.opening.Opening.{Opening}
use Rattle.vx_file.specs.declared.served.ServeError.{ServeError}
use Rattle.vx_file.specs.declared.served.ServeError.TheVariants.{Open, Fault as FaultOf, CacheFault, OutOfMemory}
use Rattle.vx_file.specs.Hints.{Hints, IsSized, IsSizeOf, IsSizeBeside, IsFooterOf, IsBounded}
use Rattle.vx_file.specs.Opened.{OpensBy, OpenCause, Supplies, IsTailAt}
use Rattle.vx_file.specs.Plans.{Plan, tail_plan, supplied_plan, plan_with, plan_of, greatest_end}
use Rattle.vx_file.specs.Ranges.{first_start, tail_start, range_before, tail_ranges, opening_range, opened}
use Rattle.vx_file.specs.Serving.{OpeningRose, StopsOpening}
use Rattle.vx_file.specs.Tails.{TailFrom, TailRead, TailCause, FooterCause, Refuses}
use Rattle.vx_file.proofs.Openings.{all-end}

-- ---- segments that end within a size

place-spec : (table : List SegmentSpec) (i : ℕ) (s : SegmentSpec) → slice_get table i ≡ Some s → (i < length table) × (get_or table i s ≡ s)
place-spec [] i s e = cc
place-spec (x ∷ table) zero s e = (omega arith, (let same : x ≡ s = cc in same))
place-spec (x ∷ table) (suc i) s e = let there = place-spec table i s e in (let l = there.0 in omega (arith, l), there.1)

spec-ends : (n : ℕ) (table : List SegmentSpec) → All (EndsWithin n) table → (i : ℕ) (s : SegmentSpec) → slice_get table i ≡ Some s → s.offset + s.length ≤ n
spec-ends n table all i s e =
    let there = place-spec table i s e in
    subst (EndsWithin n) there.1 (all i s there.0)

-- what a session demands of the segments that a tail's file has
pub fit-tail : (tail : Tail) (table : List SegmentSpec) → tail.start + length tail.bytes.bytes < 2 ^ 64 → All (EndsWithin (tail.start + length tail.bytes.bytes)) table → AreFit table (Some tail)
fit-tail tail table bound all = record {
  ends = λ i s e. let h = spec-ends (tail.start + length tail.bytes.bytes) table all i s e in omega (arith, bound, h);
  lies = λ i s e covered. spec-ends (tail.start + length tail.bytes.bytes) table all i s e;
}

-- and of those that end within a size
pub fit-size : (size : ℕ) (table : List SegmentSpec) → size < 2 ^ 64 → list_all (ends_within size) table ≡ true → AreFit table None
fit-size size table bound all = record {
  ends = λ i s e. let h = spec-ends size table (all-end size table all) i s e in omega (arith, bound, h);
  lies = λ i s e. tt;
}

-- ---- the extent

extent-passed : (size : ℕ) (b : Bool) (f g : FooterContent) → b ≡ list_all (ends_within size) (segment_table f) → (let answer : Result FooterContent OpenError = PastEnd unless b >>= λ _. Ok f in answer ≡ Ok g) → (f ≡ g) × (list_all (ends_within size) (segment_table f) ≡ true)
extent-passed size true f g is h = (let same : f ≡ g = cc in same, sym is)
extent-passed size false f g is h = let no : ⊥ = cc in absurd no

pub extent-same : (size : ℕ) (f g : FooterContent) → extent_check size f ≡ Ok g → f ≡ g
extent-same size f g h = (extent-passed size (list_all (ends_within size) (segment_table f)) f g refl h).0

extent-ends : (size : ℕ) (f g : FooterContent) → extent_check size f ≡ Ok g → list_all (ends_within size) (segment_table g) ≡ true
extent-ends size f g h =
    let both = extent-passed size (list_all (ends_within size) (segment_table f)) f g refl h in
    subst (λ (x : FooterContent). list_all (ends_within size) (segment_table x) ≡ true) both.0 both.1

chained-ends : (size : ℕ) (first : Result FooterContent OpenError) (g : FooterContent) → first >>= extent_check size ≡ Ok g → list_all (ends_within size) (segment_table g) ≡ true
chained-ends size (Ok f) g h = extent-ends size f g h
chained-ends size (Err e) g h = let no : ⊥ = cc in absurd no

-- the segments of a file of the grammar end within it
pub grammar-ends : (file : List ℕ) (dtype : Option Dtype) (g : FooterContent) → vx_grammar file dtype ≡ Ok g → list_all (ends_within (length file)) (segment_table g) ≡ true
unfolding vx_grammar
grammar-ends file dtype g h = chained-ends (length file) (footer_of file dtype) g h

table-ends : (size : ℕ) (table : List SegmentSpec) → list_all (ends_within size) table ≡ true → TableEndsWithin size table
table-ends size table all i s e = spec-ends size table (all-end size table all) i s e

-- the segments that a plan opens end within the file, where a footer that is supplied is its own
pub plan-ends : (hints : Hints) (file : List ℕ) (supplied : Option FooterContent) (g : FooterContent) → IsFooterOf supplied file → (plan_with supplied hints file).footer ≡ Ok g → TableEndsWithin (length file) (segment_table g)
plan-ends hints file None g is h = table-ends (length file) (segment_table g) (grammar-ends file hints.dtype g h)
plan-ends hints file (Some f) g is h =
    table-ends (length file) (segment_table g)
    (subst (λ (x : FooterContent). list_all (ends_within (length file)) (segment_table x) ≡ true) (extent-same (greatest_end hints.size) f g h) (grammar-ends file (Some (dtype_of f.layout)) f is))

sized-ends : (hints : Hints) (file : List ℕ) (supplied : Option FooterContent) (g : FooterContent) → hints.size ≡ Some (length file) → (plan_with supplied hints file).footer ≡ Ok g → TableEndsWithin (length file) (segment_table g)
sized-ends hints file None g is h = table-ends (length file) (segment_table g) (grammar-ends file hints.dtype g h)
sized-ends hints file (Some f) g is h = table-ends (length file) (segment_table g) (extent-ends (length file) f g (subst (λ size. extent_check (greatest_end size) f ≡ Ok g) is h))

pub bounded-ends : (hints : Hints) (file : List ℕ) (g : FooterContent) → IsBounded hints file → (plan_of hints file).footer ≡ Ok g → TableEndsWithin (length file) (segment_table g)
bounded-ends hints file g (inl is) h = plan-ends hints file hints.footer g is h
bounded-ends hints file g (inr is) h = sized-ends hints file hints.footer g is h

-- ---- from the tail

abbrev asked_ranges : ℕ → ℕ → ℕ → List (ℕ × ℕ)
asked_ranges first size start = (first, size - first) ∷ range_before start first

ranges-are : (hints : Hints) (file : List ℕ) (o : Opening) (ranges : List (ℕ × ℕ)) → TailFrom file (tail_start hints file) o.tail → o.first ≡ first_start hints (length file)
    → ranges ≡ asked_ranges o.first (o.tail.start + length o.tail.bytes.bytes) o.tail.start → ranges ≡ tail_ranges hints file
ranges-are hints file o ranges h first e =
    let whole : o.tail.start + length o.tail.bytes.bytes ≡ length file = omega (arith, h.start, h.total) in
    e ∙ ap (λ n. asked_ranges n (o.tail.start + length o.tail.bytes.bytes) o.tail.start) first
    ∙ ap (λ n. asked_ranges (first_start hints (length file)) n o.tail.start) whole
    ∙ ap (asked_ranges (first_start hints (length file)) (length file)) h.start

ranges_opened : (ranges : List (ℕ × ℕ)) → map opening_range ranges ≡ ranges_of (opened ranges)
ranges_opened [] = refl
ranges_opened (r ∷ rs) = ap (λ xs. opening_range r ∷ xs) (ranges_opened rs)

module _ (hints : Hints) (file : List ℕ) (start mid : ReaderState) where
  pub tail-refused : (e : ServeError) → TailCause hints file start mid (Err e) → OpenCause (tail_plan hints file) file start mid (Err e)
  tail-refused (Open e) h = h
  tail-refused (FaultOf fault) h = h
  tail-refused CacheFault h = absurd h
  tail-refused OutOfMemory h = h

  module _ (o : Opening) (read : TailRead hints file start mid o) where
    -- memory ran out behind the opening ranges
    pub tail-stops : StopsOpening (tail_plan hints file) start mid
    tail-stops = record {
      gained = opened (tail_ranges hints file);
      rest = [];
      ranges = ranges_opened (tail_ranges hints file) ∙ sym (append-nil (ranges_of (opened (tail_ranges hints file))));
      grew = read.asked;
    }

    -- the footer was refused behind the opening ranges
    pub footer-refused : (e : ServeError) → FooterCause hints file (Err e) → OpenCause (tail_plan hints file) file start mid (Err e)
    footer-refused (Open e) h = record { fails = h; asked = read.asked }
    footer-refused (FaultOf fault) h = absurd h
    footer-refused CacheFault h = absurd h
    footer-refused OutOfMemory h = tail-stops

    pub tail-opens : (footer : Footer) (ranges : List (ℕ × ℕ)) → FooterCause hints file (Ok footer) → ranges ≡ asked_ranges o.first (o.tail.start + length o.tail.bytes.bytes) o.tail.start
        → OpensBy (tail_plan hints file) file start mid (record { footer = footer; tail = Some o.tail; ranges = ranges })
    tail-opens footer ranges found e = record {
      footer = found;
      ranges = ranges-are hints file o ranges read.tail read.first e;
      tail = read.tail;
      asked = read.asked;
      rises = read.rises;
    }

pub refuses-rose : (e : ServeError) (before now : ReaderState) → (let answer : Result Footer ServeError = Err e in Refuses answer) → (let answer : Result Opened ServeError = Err e in OpeningRose before now answer)
refuses-rose (Open e) before now h = tt
refuses-rose (FaultOf fault) before now h = absurd h
refuses-rose CacheFault before now h = absurd h
refuses-rose OutOfMemory before now h = tt

-- ---- by the footer that is supplied, or from the tail

supplied-opens : (size : Option ℕ) (footer : FooterContent) (file : List ℕ) (s : ReaderState) (answer : Result Opened ServeError) → Supplies size footer answer → OpenCause (supplied_plan size footer) file s s answer
supplied-opens size footer file s (Ok o) h = record {
  footer = h.footer;
  ranges = h.ranges;
  tail = subst (λ t. IsTailAt file None t) (sym h.tail) tt;
  asked = grew-none s.log;
  rises = record { later = omega arith; risen = omega arith };
}
supplied-opens size footer file s (Err (Open e)) h = record { fails = h; asked = grew-none s.log }
supplied-opens size footer file s (Err (FaultOf fault)) h = absurd h
supplied-opens size footer file s (Err CacheFault) h = absurd h
supplied-opens size footer file s (Err OutOfMemory) h = absurd h

pub supplied-cause : (hints : Hints) (file : List ℕ) (footer : FooterContent) (s : ReaderState) (answer : Result Opened ServeError) → Some footer ≡ hints.footer → Supplies hints.size footer answer → OpenCause (plan_of hints file) file s s answer
supplied-cause hints file footer s answer is h = subst (λ f. OpenCause (plan_with f hints file) file s s answer) is (supplied-opens hints.size footer file s answer h)

pub tail-cause : (hints : Hints) (file : List ℕ) (before now : ReaderState) (answer : Result Opened ServeError) → None ≡ hints.footer → OpenCause (tail_plan hints file) file before now answer → OpenCause (plan_of hints file) file before now answer
tail-cause hints file before now answer is h = subst (λ f. OpenCause (plan_with f hints file) file before now answer) is h

pub size-known : (hints : Hints) (file : List ℕ) → None ≡ hints.footer → IsSized hints file → IsSizeOf hints.size file
size-known hints file is h = subst (λ f. IsSizeBeside f hints.size file) (sym is) h

-- memory ran out before anything was asked
pub nothing-asked : (plan : Plan) (s : ReaderState) → StopsOpening plan s s
nothing-asked plan s = record { gained = []; rest = map opening_range plan.ranges; ranges = refl; grew = grew-none s.log }
