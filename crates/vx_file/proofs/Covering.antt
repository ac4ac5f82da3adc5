-- The covered segments, as the cache is given them.
use Rattle.std.proofs.Common.{◌≡◌, ℕ, zero, suc, ◌+◌, ◌-◌, ◌^◌, ◌<◌, ◌≤◌, Bool, true, false, cond, List, [], ◌∷◌, length, take, drop, get_or, Some, Result, Ok, Err, refl, sym, ap, subst, ◌∙◌, arith, min, add-one, drop-cons, inl, inr}
use Rattle.std.specs.Prelude.{OnOk, slice_get, nat_le}
use Rattle.std.proofs.lemmas.Bool.Decides.{nat_tests}
use Rattle.std.proofs.lemmas.List.{drop_all}
use Rattle.vx_base.specs.Buffer.{Buffer, bytes_at}
use Rattle.vx_base.specs.Caches.{CacheState, PutCause, Segments}
use Rattle.vx_base.specs.declared.segment.SegmentSpec.{SegmentSpec}
use Rattle.vx_base.specs.declared.segment_cache.CacheError.{CacheError}
use Rattle.vx_source.specs.Bytes.{IsSlice, IsEnd, TellsSlices}
use Rattle.vx_source.specs.Puts.{Gains, IsPut}
use Rattle.vx_source.specs.declared.tail.Tail.{Tail}
use Rattle.vx_source.proofs.BytesLemmas.{part-end, gained-slices}
use Rattle.vx_source.proofs.PutLemmas.{gains-none, gains-one, gains-then, put-split}
use Rattle.vx_file.specs.Covered.{slice_of, covered_put, covered_after, covered_segments}

-- what is cut from the tail is the segment
pub cut-is : (file : List ℕ) (tail : Tail) (spec : SegmentSpec) (buffer : Buffer) → IsEnd file (Some tail) → tail.start ≤ spec.offset
    → buffer.bytes ≡ bytes_at tail.bytes.bytes (spec.offset - tail.start) spec.length → buffer.alignment ≡ spec.alignment → buffer ≡ slice_of file spec
cut-is file tail spec buffer end from bytes alignment =
    let whole = bytes ∙ ap (λ bs. bytes_at bs (spec.offset - tail.start) spec.length) (end tail refl) ∙ part-end file tail.start spec.offset spec.length from in
    ap (λ bs. let x : Buffer = record { bytes = bs; alignment = buffer.alignment } in x) whole
    ∙ ap (λ a. let x : Buffer = record { bytes = bytes_at file spec.offset spec.length; alignment = a } in x) alignment

le-true : (a b : ℕ) → a ≤ b → nat_le a b ≡ true
le-true a b h = grind (arith, nat_tests)

le-false : (a b : ℕ) → b < a → nat_le a b ≡ false
le-false a b h = grind (arith, nat_tests)

module _ (file : List ℕ) (start number : ℕ) (spec : SegmentSpec) where
  -- a segment that is not covered is not put
  pub before-gains : (s : CacheState) → spec.offset < start → Gains (covered_put file start number spec) s s
  before-gains s h = subst (λ b. Gains (cond b ((record { 0 = number }, slice_of file spec) ∷ []) []) s s) (sym (le-false start spec.offset h)) (gains-none s)

  pub one-gains : (buffer : Buffer) (before now : CacheState) (result : Result (Unit {0}) CacheError) → start ≤ spec.offset → buffer ≡ slice_of file spec → before.lost ≤ now.lost
      → PutCause (record { 0 = number }) buffer before now result → Gains (covered_put file start number spec) before now
  one-gains buffer before now result covered is never h =
      subst (λ b. Gains (cond b ((record { 0 = number }, slice_of file spec) ∷ []) []) before now) (sym (le-true start spec.offset covered))
      (gains-one (record { 0 = number }) (slice_of file spec) before now result never (subst (λ b. PutCause (record { 0 = number }) b before now result) is h))

pub ok-all : {X E : Type 0} (r : Result X E) (P : Type 0) → P → OnOk r P
ok-all (Ok x) P h = h
ok-all (Err e) P h = tt

-- ---- one segment after another

taken-get : (table : List SegmentSpec) (n i : ℕ) (d : SegmentSpec) → i < n → get_or (take n table) i d ≡ get_or table i d
taken-get table zero i d h = absurd (omega arith)
taken-get [] (suc n) i d h = refl
taken-get (s ∷ table) (suc n) zero d h = refl
taken-get (s ∷ table) (suc n) (suc i) d h = taken-get table n i d (omega arith)

taken-length : (table : List SegmentSpec) (n : ℕ) → length (take n table) ≡ min (length table) n
taken-length table zero = omega arith
taken-length [] (suc n) = omega arith
taken-length (s ∷ table) (suc n) = let e = taken-length table n in omega (arith, e)

module _ (file : List ℕ) (start : ℕ) (table : List SegmentSpec) where
  -- the covered segments from a place on
  abbrev pub from_place : ℕ → Segments
  from_place i = covered_after file start i (drop i (take (2 ^ 32) table))

  pub place-more : (i : ℕ) (spec : SegmentSpec) → i < min (length table) (2 ^ 32) → spec ≡ get_or table i spec → (before now last : CacheState) → Gains (covered_put file start i spec) before now
      → Gains (from_place (i + 1)) now last → Gains (from_place i) before last
  place-more i spec lt is before now last one more =
      let inside : i < length (take (2 ^ 32) table) = let l = taken-length table (2 ^ 32) in omega (arith, lt, l) in
      let few : i < 2 ^ 32 = omega (arith, lt) in
      let there : drop i (take (2 ^ 32) table) ≡ spec ∷ drop (i + 1) (take (2 ^ 32) table) =
      drop-cons (take (2 ^ 32) table) i spec inside ∙ ap (λ s. s ∷ drop (suc i) (take (2 ^ 32) table)) (taken-get table (2 ^ 32) i spec few ∙ sym is) ∙ ap (λ n. spec ∷ drop n (take (2 ^ 32) table)) (sym (add-one i)) in
      subst (λ ss. Gains (covered_after file start i ss) before last) (sym there)
      (gains-then (covered_put file start i spec) (from_place (i + 1)) before now last one more)

  pub place-end : (i : ℕ) (s : CacheState) → min (length table) (2 ^ 32) ≤ i → Gains (from_place i) s s
  place-end i s h =
      let past_end : length (take (2 ^ 32) table) ≤ i = let l = taken-length table (2 ^ 32) in omega (arith, h, l) in
      subst (λ ss. Gains (covered_after file start i ss) s s) (sym (drop_all i (take (2 ^ 32) table) past_end)) (gains-none s)

-- ---- what the cache tells then

put-covered : (file : List ℕ) (start n : ℕ) (s : SegmentSpec) (q : ℕ) (b : Buffer) → IsPut (covered_put file start n s) q b → (q ≡ n) × (b ≡ slice_of file s)
put-covered file start n s q b h = at (nat_le start s.offset) h
  where
    at : (c : Bool) → IsPut (cond c ((record { 0 = n }, slice_of file s) ∷ []) []) q b → (q ≡ n) × (b ≡ slice_of file s)
    at true (inl h) = h
    at true (inr h) = absurd h
    at false h = absurd h

puts-covered : (file : List ℕ) (start n : ℕ) (table : List SegmentSpec) (q : ℕ) (b : Buffer) → IsPut (covered_after file start n table) q b
    → (i : ℕ) × (s : SegmentSpec) × ((q ≡ n + i) × (slice_get table i ≡ Some s) × (b ≡ slice_of file s))
puts-covered file start n [] q b h = absurd h
puts-covered file start n (s ∷ rest) q b h = elim (put-split (covered_put file start n s) (covered_after file start (n + 1) rest) q b h) [
  | inl one ↦ (let is = put-covered file start n s q b one in let here : q ≡ n + 0 = let e = is.0 in omega (arith, e) in (0, s, (here, refl, is.1)))
  | inr more ↦ (let there = puts-covered file start (n + 1) rest q b more in let here : q ≡ n + suc there.0 = let e = there.2.0 in omega (arith, e) in (suc there.0, there.1, (here, there.2.1, there.2.2)))
]

taken-some : (table : List SegmentSpec) (n i : ℕ) (s : SegmentSpec) → slice_get (take n table) i ≡ Some s → slice_get table i ≡ Some s
taken-some table zero i s e = cc
taken-some [] (suc n) i s e = e
taken-some (t ∷ table) (suc n) zero s e = e
taken-some (t ∷ table) (suc n) (suc i) s e = taken-some table n i s e

-- a cache that gained the covered segments still tells slices
pub covered-slices : (file : List ℕ) (start : ℕ) (table : List SegmentSpec) (before now : CacheState) → Gains (covered_segments file start table) before now → TellsSlices file table before → TellsSlices file table now
covered-slices file start table before now gains t = gained-slices file table (covered_segments file start table) before now gains own t
  where
    own : (q : ℕ) (b : Buffer) → IsPut (covered_segments file start table) q b → IsSlice file table q b
    own q b put spec found =
        let there = puts-covered file start 0 (take (2 ^ 32) table) q b put in
        let is : q ≡ there.0 = let e = there.2.0 in omega (arith, e) in
        let mine = taken-some table (2 ^ 32) there.0 there.1 there.2.1 in
        let same : there.1 ≡ spec = let both : Some there.1 ≡ Some spec = sym mine ∙ ap (slice_get table) (sym is) ∙ found in cc in
        ap (λ (x : Buffer). x.bytes) there.2.2 ∙ ap (λ (s : SegmentSpec). bytes_at file s.offset s.length) same
