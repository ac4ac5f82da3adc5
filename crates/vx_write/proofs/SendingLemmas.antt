-- Chunks from a place on.
use Rattle.std.proofs.Common.{◌≡◌, ℕ, zero, suc, ◌+◌, ◌<◌, ◌≤◌, ◌∙◌, arith, List, [], ◌∷◌, ◌++◌, length, get_or, take, drop, replicate, Option, refl, sym, ap, subst, add-one, drop-cons, append_assoc}
use Rattle.std.specs.Prelude.{IsOk, Err}
use Rattle.vx_footer.specs.declared.write_error.WriteError.TheVariants.{OutOfMemory}
use Rattle.vx_rows.specs.Rows.{Rows}
use Rattle.vx_write.specs.declared.held_leaves.LeafChunks.{LeafChunks}
use Rattle.vx_write.specs.Chunks.{last_seen, parts_seen, leaf_view, chunks_view}
use Rattle.vx_write.specs.Leaves.{ChunkRows, chunk_at, chunks_at}
use Rattle.vx_write.specs.Placed.{Place, Wrote, Failed, pieces}
use Rattle.vx_write.specs.Sending.{Coding, encoded_chunk, encoded_chunks, chunk_checks, Going, Goes}
use Rattle.vx_write.proofs.PlacedLemmas.{going_step, going_failed}
use Rattle.vx_write.proofs.TakenLemmas.{sent_part}

one-next : {A : Type 0} (xs : List A) (i : ℕ) (x : A) → i < length xs → x ≡ get_or xs i x → drop i xs ≡ x ∷ drop (i + 1) xs
one-next xs i x lt is = rw (add-one, drop-cons xs i x, ← is) refl

-- the chunks of a leaf from one on, and those behind the leaf
abbrev pub left_of : ℕ → List Rows → ℕ → List ChunkRows → List ChunkRows
left_of leaf cs i rest = chunks_at leaf (drop i cs) ++ rest

left-next : (leaf : ℕ) (cs : List Rows) (i : ℕ) (c : Rows) (rest : List ChunkRows) → i < length cs → c ≡ get_or cs i c
    → left_of leaf cs i rest ≡ chunk_at leaf c ∷ left_of leaf cs (i + 1) rest
left-next leaf cs i c rest lt is = ap (λ xs. chunks_at leaf xs ++ rest) (one-next cs i c lt is)

module _ (k : Coding) (p now next : Place) (all : List ChunkRows) (leaf : ℕ) (cs : List Rows) (i : ℕ) (c : Rows) (rest : List ChunkRows) (g h j : Option (List ℕ))
    (lt : i < length cs) (is : c ≡ get_or cs i c) (going : Going k p all (left_of leaf cs i rest) g now h) where
  pub turned : Going k p all (chunk_at leaf c ∷ left_of leaf cs (i + 1) rest) g now h
  turned = subst (λ xs. Going k p all xs g now h) (left-next leaf cs i c rest lt is) going

  pub chunk_failed : Failed now (encoded_chunk k (chunk_at leaf c) ∷ []) h next j → Failed p (encoded_chunks k all) g next j
  chunk_failed failed = going_failed k p now next all (left_of leaf cs (i + 1) rest) (chunk_at leaf c) g h j turned failed

  pub chunk_step : Wrote now (encoded_chunk k (chunk_at leaf c) ∷ []) h next j → IsOk (chunk_checks k now (chunk_at leaf c))
      → Going k p all (left_of leaf cs (i + 1) rest) g next j
  chunk_step wrote ok = going_step k p now next all (left_of leaf cs (i + 1) rest) (chunk_at leaf c) g h j turned wrote ok

-- no memory is left for the next chunk
pub going_stopped : (k : Coding) (p now : Place) (all rest : List ChunkRows) (g h : Option (List ℕ)) → Going k p all rest g now h → Goes k p all rest g now h (Err OutOfMemory)
going_stopped k p now all rest g h going = (
  record { took = sent_part (pieces p (encoded_chunks k all)) (pieces now (encoded_chunks k rest)) g h p.taken now.taken going.sent; quiet = going.quiet },
  λ fault memory. absurd (memory refl),
)

-- the chunks of a leaf are the one that is made and the others
pub leaf_splits : (leaf : ℕ) (first others : List Rows) (rest : List ChunkRows)
    → chunks_at leaf (first ++ others) ++ rest ≡ chunks_at leaf first ++ (chunks_at leaf others ++ rest)
leaf_splits leaf [] others rest = refl
leaf_splits leaf (c ∷ first) others rest = ap (λ xs. chunk_at leaf c ∷ xs) (leaf_splits leaf first others rest)

pub made_first : (k : Coding) (p now : Place) (all : List ChunkRows) (c : LeafChunks) (rest : List ChunkRows) (g h : Option (List ℕ)) → Going k p all (leaf_view c ++ rest) g now h
    → Going k p all (chunks_at c.leaf (last_seen c.chunks.first) ++ (chunks_at c.leaf (parts_seen c.chunks.others) ++ rest)) g now h
made_first k p now all c rest g h going =
    subst (λ xs. Going k p all xs g now h) (leaf_splits c.leaf (last_seen c.chunks.first) (parts_seen c.chunks.others) rest) going

-- of a leaf nothing is left behind its last chunk
none-left : {A : Type 0} (xs : List A) (i : ℕ) → length xs ≤ i → drop i xs ≡ []
none-left [] zero le = refl
none-left [] (suc i) le = refl
none-left (x ∷ xs) zero le = absurd (omega (arith, le))
none-left (x ∷ xs) (suc i) le = none-left xs i (omega (arith, le))

pub leaf_end : (leaf : ℕ) (cs : List Rows) (i : ℕ) (rest : List ChunkRows) → length cs ≤ i → left_of leaf cs i rest ≡ rest
leaf_end leaf cs i rest le = ap (λ xs. chunks_at leaf xs ++ rest) (none-left cs i le)

-- the leaves from one on
pub leaf_next : (cs : List LeafChunks) (i : ℕ) (c : LeafChunks) → i < length cs → c ≡ get_or cs i c → chunks_view (drop i cs) ≡ leaf_view c ++ chunks_view (drop (i + 1) cs)
leaf_next cs i c lt is = ap chunks_view (one-next cs i c lt is)

-- the first ones of many zeros
pub zeros_first : (n m : ℕ) → n ≤ m → take {A = ℕ} n (replicate m 0) ≡ replicate n 0
zeros_first zero m le = refl
zeros_first (suc n) zero le = absurd (omega (arith, le))
zeros_first (suc n) (suc m) le = ap (λ (xs : List ℕ). 0 ∷ xs) (zeros_first n m (omega (arith, le)))

-- the chunks of one more leaf
pub chunks_more : (cs : List LeafChunks) (c : LeafChunks) → chunks_view (cs ++ c ∷ []) ≡ chunks_view cs ++ leaf_view c
chunks_more [] c = nil (leaf_view c)
  where
    nil : (xs : List ChunkRows) → xs ++ [] ≡ xs
    nil [] = refl
    nil (x ∷ xs) = ap (λ ys. x ∷ ys) (nil xs)
chunks_more (x ∷ cs) c = ap (λ xs. leaf_view x ++ xs) (chunks_more cs c) ∙ sym (append_assoc (leaf_view x) (chunks_view cs) (leaf_view c))
