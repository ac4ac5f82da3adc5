-- A list in blocks.
use Rattle.std.proofs.Common.{◌≡◌, ℕ, zero, suc, ◌-◌, ◌≤◌, List, [], ◌∷◌, ◌++◌, length, refl, sym, ap, ◌∙◌, arith, append_assoc}
use Rattle.std.specs.List.{flat_map}
use Rattle.std.proofs.lemmas.List.{append-nil}
use Rattle.vx_sched.specs.declared.metrics.RequestMetrics.{RequestMetrics}
use Rattle.vx_source.specs.Events.{add_first, cut, blocks, with_spans, with_blocks}
use Rattle.vx_source.specs.declared.span.Span.{Span}
use Rattle.vx_sched.specs.Metrics.{with_call}

-- whole blocks: what follows begins a block
abbrev pub IsCut : {X : Type 0} → ℕ → List X → Type 0
IsCut {X} size done = (rest : List X) → blocks size (done ++ rest) ≡ blocks size done ++ blocks size rest

-- a block that fits the room
cut-short : {X : Type 0} (size room : ℕ) (x : X) (xs : List X) → length xs ≤ room → add_first x (cut size room xs) ≡ (x ∷ xs) ∷ []
cut-short size room x [] h = cut-nil room
  where
    cut-nil : (room : ℕ) → add_first x (cut size room []) ≡ (x ∷ []) ∷ []
    cut-nil zero = refl
    cut-nil (suc room) = refl
cut-short size zero x (y ∷ ys) h = absurd (omega arith)
cut-short size (suc room) x (y ∷ ys) h = ap (add_first x) (cut-short size room y ys (omega arith))

-- at most one block
pub block-short : {X : Type 0} (size : ℕ) (xs : List X) → 1 ≤ length xs → length xs ≤ size → blocks size xs ≡ xs ∷ []
block-short size [] some few = absurd (omega arith)
block-short size (x ∷ xs) some few = cut-short size (size - 1) x xs (omega arith)

-- a block that fills the room is followed by the blocks of the rest
cut-more : {X : Type 0} (size room : ℕ) (x : X) (xs rest : List X) → length xs ≡ room → add_first x (cut size room (xs ++ rest)) ≡ (x ∷ xs) ∷ blocks size rest
cut-more {X = X} size zero x [] rest h = ends rest
  where
    ends : (rest : List X) → add_first x (cut size 0 rest) ≡ (x ∷ []) ∷ blocks size rest
    ends [] = refl
    ends (y ∷ ys) = refl
cut-more size (suc room) x [] rest h = absurd (omega arith)
cut-more size zero x (y ∷ ys) rest h = absurd (omega arith)
cut-more size (suc room) x (y ∷ ys) rest h = ap (add_first x) (cut-more size room y ys rest (omega arith))

-- a whole block and the rest
pub block-more : {X : Type 0} (size : ℕ) (xs rest : List X) → 1 ≤ size → length xs ≡ size → blocks size (xs ++ rest) ≡ xs ∷ blocks size rest
block-more size [] rest some whole = absurd (omega arith)
block-more size (x ∷ xs) rest some whole = cut-more size (size - 1) x xs rest (omega arith)

-- one whole block more
pub cut-block : {X : Type 0} (size : ℕ) (done xs : List X) → IsCut size done → 1 ≤ size → length xs ≡ size → IsCut size (done ++ xs)
cut-block size done xs cuts some whole rest =
    ap (blocks size) (append_assoc done xs rest) ∙ cuts (xs ++ rest) ∙ ap (λ bs. blocks size done ++ bs) (block-more size xs rest some whole)
    ∙ sym (append_assoc (blocks size done) (xs ∷ []) (blocks size rest))
    ∙ ap (λ bs. bs ++ blocks size rest) (sym (cuts xs ∙ ap (λ bs. blocks size done ++ bs) (block-short size xs (omega arith) (omega arith))))

-- at most one block more
pub cut-last : {X : Type 0} (size : ℕ) (done xs : List X) → IsCut size done → 1 ≤ length xs → length xs ≤ size → blocks size (done ++ xs) ≡ blocks size done ++ xs ∷ []
cut-last size done xs cuts some few = cuts xs ∙ ap (λ bs. blocks size done ++ bs) (block-short size xs some few)

pub flat-append : {X Y : Type 0} (f : X → List Y) (xs : List X) (x : X) → flat_map f (xs ++ x ∷ []) ≡ flat_map f xs ++ f x
flat-append f [] x = append-nil (f x)
flat-append f (y ∷ ys) x = ap (λ zs. f y ++ zs) (flat-append f ys x) ∙ sym (append_assoc (f y) (flat_map f ys) (f x))

pub blocks-append : (xs : List (List Span)) (b : List Span) (m : RequestMetrics) → with_blocks (xs ++ b ∷ []) m ≡ with_spans b (with_call (length b) (with_blocks xs m))
blocks-append [] b m = refl
blocks-append (x ∷ xs) b m = blocks-append xs b (with_spans x (with_call (length x) m))
