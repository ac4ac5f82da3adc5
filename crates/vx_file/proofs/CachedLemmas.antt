-- Opening by hints and a cache that are known to be others.
use Rattle.std.proofs.Common.{◌≡◌, ℕ, ◌+◌, ◌≤◌, ◌<◌, ◌^◌, true, false, List, [], ◌∷◌, length, Option, Some, None, Result, Ok, Err, refl, sym, ap, subst, ◌∙◌, arith}
use Rattle.std.specs.Prelude.{IfOk}
use Rattle.std.specs.List.{list_all}
use Rattle.std.proofs.lemmas.Bool.{le-leb, leb-true}
use Rattle.vx_base.specs.Caches.{CacheState}
use Rattle.vx_base.specs.Checks.{◌>>=◌, ◌unless◌}
use Rattle.vx_base.specs.Readers.{ReaderState}
use Rattle.vx_base.specs.declared.segment.SegmentSpec.{SegmentSpec}
use Rattle.vx_footer.specs.declared.error.OpenError.TheVariants.{PastEnd}
use Rattle.vx_footer.specs.Footers.{FooterContent, segment_table}
use Rattle.vx_footer.specs.Opening.{extent_check, ends_within}
use Rattle.vx_file.specs.Cached.{OpensTheSame}
use Rattle.vx_file.specs.Hints.{Hints, IsSizeOf}
use Rattle.vx_file.specs.Plans.{greatest_end}
use Rattle.vx_file.proofs.Opens.{grammar-ends}
use Rattle.vx_file.specs.OpenRead.{Held, OpensBy}

pub opens_by : (before : ReaderState) (f : Held) (h k : Hints) (c d : CacheState) → h ≡ k → c ≡ d → OpensBy h before c f → OpensBy k before d f
opens_by before f h k c d e q o = subst (λ x. OpensBy x before d f) e (subst (λ x. OpensBy h before x f) q o)

-- three facts of what an answer has, at once
pub of_three : {A E : Type 0} {P Q S T : A → Type 0} (r : Result A E) → IfOk r P → IfOk r Q → IfOk r S → ((a : A) → P a → Q a → S a → T a) → IfOk r T
of_three (Ok a) p q s f = f a p q s
of_three (Err e) p q s f = tt

-- ---- a footer that is the file's own

more-ends : (s t : ℕ) → s ≤ t → (specs : List SegmentSpec) → list_all (ends_within s) specs ≡ true → list_all (ends_within t) specs ≡ true
more-ends s t le [] h = refl
more-ends s t le (x ∷ xs) h = (elim (ends_within s x) as (λ b. ends_within s x ≡ b → list_all (ends_within t) (x ∷ xs) ≡ true) [
  | true ↦ λ e. let rest = more-ends s t le xs (rw e at h) in let fits = leb-true (x.offset + x.length) s e in
      let here : ends_within t x ≡ true = le-leb (x.offset + x.length) t (omega (arith, fits, le)) in rw (here, rest) refl
  | false ↦ λ e. let g = rw e at h in cc
]) refl

extent-more : (s t : ℕ) (f : FooterContent) → s ≤ t → list_all (ends_within s) (segment_table f) ≡ true → extent_check t f ≡ Ok f
extent-more s t f le h = ap (λ b. PastEnd unless b >>= λ _. Ok f) (more-ends s t le (segment_table f) h)

size-bounds : (size : Option ℕ) (file : List ℕ) → length file < 2 ^ 64 → IsSizeOf size file → length file ≤ greatest_end size
size-bounds None file bound is = omega (arith, bound)
size-bounds (Some n) file bound is = omega (arith, is)

pub opens_the_same : OpensTheSame
opens_the_same hints file footer bound is h = ap (λ r. record { footer = r; asks_size = false; ranges = []; start = None })
    (extent-more (length file) (greatest_end hints.size) footer.content (size-bounds hints.size file bound is)
    (grammar-ends file hints.dtype footer.content h) ∙ sym h)
