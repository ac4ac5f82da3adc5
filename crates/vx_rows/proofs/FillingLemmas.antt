-- Room that is filled with the cells of rows, and cells that are added block by block.
use Rattle.std.proofs.Common.{◌≡◌, ℕ, zero, suc, ◌+◌, ◌≤◌, List, [], ◌∷◌, ◌++◌, length, take, refl, ap, sym, ◌∙◌, arith, append_assoc}
use Rattle.std.specs.List.{flat_map}
use Rattle.std.proofs.lemmas.Grind.{flat_map-append}
use Rattle.std.proofs.lemmas.Slice.{take-put_mid}
use borrow.Rule.Slice.PartMut.{put_mid}
use Rattle.vx_rows.specs.Span.{span}

ends : (xs : List ℕ) → xs ++ [] ≡ xs
ends [] = refl
ends (x ∷ xs) = ap (λ ys. x ∷ ys) (ends xs)

-- a run in two
pub span_two : {A : Type 0} → (f : ℕ → A) (first a b : ℕ) → span f first a ++ span f (first + a) b ≡ span f first (a + b)
span_two f first zero b =
    let none : first + 0 ≡ first = omega arith in
    let all : 0 + b ≡ b = omega arith in
    rw (none, all) refl
span_two f first (suc a) b =
    let next : first + suc a ≡ first + 1 + a = omega arith in
    let more : suc a + b ≡ suc (a + b) = omega arith in
    rw (next, more) (ap (λ xs. f first ∷ xs) (span_two f (first + 1) a b))

flat-two : {A : Type 0} → (g : A → List ℕ) (f : ℕ → A) (first a b : ℕ) → flat_map g (span f first a) ++ flat_map g (span f (first + a) b) ≡ flat_map g (span f first (a + b))
flat-two g f first a b = sym (flat_map-append g (span f first a) (span f (first + a) b)) ∙ ap (flat_map g) (span_two f first a b)

-- room with one cell more
pub filled_more : {A : Type 0} → (g : A → List ℕ) (f : ℕ → A) (at next m k first : ℕ) (room cell : List ℕ) → next ≡ at + length cell → at ≤ length room → cell ≡ g (f (first + k))
    → take at room ≡ flat_map g (span f first k) → take next (put_mid at m room cell) ≡ flat_map g (span f first (k + 1))
filled_more g f at next m k first room cell long inside is filled =
    take-put_mid at m room cell next long inside ∙ ap (λ xs. xs ++ cell) filled ∙ ap (λ c. flat_map g (span f first k) ++ c) (is ∙ sym (ends (g (f (first + k)))))
    ∙ flat-two g f first k 1

-- cells of more rows behind those of the first ones
pub pushed_more : {A : Type 0} → (g : A → List ℕ) (f : ℕ → A) (old before now : List ℕ) (first count : ℕ) → before ≡ old ++ flat_map g (span f 0 first) → now ≡ before ++ flat_map g (span f first count)
    → now ≡ old ++ flat_map g (span f 0 (first + count))
pushed_more g f old before now first count front behind =
    let start : 0 + first ≡ first = omega arith in
    let two = ap (λ k. flat_map g (span f 0 first) ++ flat_map g (span f k count)) (sym start) ∙ flat-two g f 0 first count in
    behind ∙ ap (λ xs. xs ++ flat_map g (span f first count)) front ∙ append_assoc old (flat_map g (span f 0 first)) (flat_map g (span f first count)) ∙ ap (λ xs. old ++ xs) two
