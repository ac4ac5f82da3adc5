-- Caches of segments by their last use.
use Rattle.std.proofs.Common.{◌≡◌, ℕ, zero, suc, ◌-◌, ◌⊎◌, inl, inr, Bool, true, false, cond, List, [], ◌∷◌, ◌++◌, take, Option, Some, None, Result, Ok, Err, refl, sym, ap, ◌∙◌, subst, arith, nat_eq}
use Rattle.std.specs.Prelude.{IsErrAnd}
use Rattle.std.proofs.lemmas.Bool.Decides.{nat_tests}
use Rattle.std.specs.Option.{option_map_or}
use Rattle.std.specs.Map.{lookup, lookup_entry, remove_entry}
use Rattle.lru.specs.LruCache.{LruCache, lru_cache, promoted, put_entries}
use Rattle.vx_base.specs.Buffer.{Buffer}
use Rattle.vx_base.specs.Caches.{GetCause, PutCause, OldEntries, buffer_of}
use Rattle.vx_base.specs.declared.segment.SegmentId.{SegmentId}
use Rattle.vx_base.specs.declared.segment_cache.CacheError.{CacheError}
use Rattle.vx_base.specs.declared.segment_cache.CacheError.TheVariants as cache_error
use Rattle.vx_source.specs.Keeping.{LruState, lru_state, as_segments}

Entries : Type 0
Entries = List (ℕ × Buffer)

-- the buffer of a number is its entry's value
pub buffer_of-as : (es : List (ℕ × Buffer)) (s : ℕ) → buffer_of (as_segments es) s ≡ lookup (nat_eq s) es
buffer_of-as [] s = refl
buffer_of-as (e ∷ es) s = ap (λ b. cond b (Some e.1) (buffer_of (as_segments es) s)) (grind (arith, nat_tests)) ∙ ap (cond (nat_eq s e.0) (Some e.1)) (buffer_of-as es s)

lookup-entry : (s : ℕ) (es : List (ℕ × Buffer)) (e : ℕ × Buffer) → lookup_entry (nat_eq s) es ≡ Some e → (lookup (nat_eq s) es ≡ Some e.1) × (nat_eq s e.0 ≡ true)
lookup-entry s [] e h = cc
lookup-entry s (f ∷ es) e h = (elim (nat_eq s f.0) as (λ b. nat_eq s f.0 ≡ b → (lookup (nat_eq s) (f ∷ es) ≡ Some e.1) × (nat_eq s e.0 ≡ true)) [
  | true ↦ λ t. let g = rw t at h in let same : f ≡ e = cc in (rw t (ap (λ (x : ℕ × Buffer). Some x.1) same), subst (λ x. nat_eq s x.0 ≡ true) same t)
  | false ↦ λ t. let on = lookup-entry s es e (rw t at h) in (rw t on.0, on.1)
]) refl

lookup-remove : (s q : ℕ) → nat_eq q s ≡ false → (es : List (ℕ × Buffer)) → lookup (nat_eq q) (remove_entry (nat_eq s) es) ≡ lookup (nat_eq q) es
lookup-remove s q other [] = refl
lookup-remove s q other (f ∷ es) = (elim (nat_eq s f.0) as (λ b. nat_eq s f.0 ≡ b → lookup (nat_eq q) (remove_entry (nat_eq s) (f ∷ es)) ≡ lookup (nat_eq q) (f ∷ es)) [
  | true ↦ λ t. let apart : nat_eq q f.0 ≡ false = grind (arith, nat_tests, t, other) in rw (t, apart) refl
  | false ↦ λ t. rw t (ap (cond (nat_eq q f.0) (Some f.1)) (lookup-remove s q other es))
]) refl

-- a number whose entry came to the front, maybe with another buffer
lookup-front : (s q : ℕ) (es : List (ℕ × Buffer)) (e : ℕ × Buffer) (v : Buffer) → nat_eq s e.0 ≡ true
    → lookup (nat_eq q) ((e.0, v) ∷ remove_entry (nat_eq s) es) ≡ cond (nat_eq q s) (Some v) (lookup (nat_eq q) es)
lookup-front s q es e v t = at (nat_eq q s) refl
  where
    at : (b : Bool) → nat_eq q s ≡ b → lookup (nat_eq q) ((e.0, v) ∷ remove_entry (nat_eq s) es) ≡ cond (nat_eq q s) (Some v) (lookup (nat_eq q) es)
    at true h = let here : nat_eq q e.0 ≡ true = grind (arith, nat_tests, t, h) in rw (h, here) refl
    at false h = let apart : nat_eq q e.0 ≡ false = grind (arith, nat_tests, t, h) in rw (h, apart) (lookup-remove s q h es)

-- bringing an entry to the front changes no buffer
pub lookup-promoted : (s q : ℕ) (es : List (ℕ × Buffer)) → lookup (nat_eq q) (promoted (nat_eq s) es) ≡ lookup (nat_eq q) es
lookup-promoted s q es = at (lookup_entry (nat_eq s) es) refl
  where
    at : (o : Option (ℕ × Buffer)) → lookup_entry (nat_eq s) es ≡ o → lookup (nat_eq q) (option_map_or (λ e. e ∷ remove_entry (nat_eq s) es) o es) ≡ lookup (nat_eq q) es
    at None h = refl
    at (Some e) h = let found = lookup-entry s es e h in lookup-front s q es e e.1 found.1 ∙ same (nat_eq q s) refl found.0
      where
        same : (b : Bool) → nat_eq q s ≡ b → lookup (nat_eq s) es ≡ Some e.1 → cond (nat_eq q s) (Some e.1) (lookup (nat_eq q) es) ≡ lookup (nat_eq q) es
        same true k f = let equal : s ≡ q = grind (arith, nat_tests, k) in rw k (sym (subst (λ n. lookup (nat_eq n) es ≡ Some e.1) equal f))
        same false k f = rw k refl

lookup-take : (n q : ℕ) (es : List (ℕ × Buffer)) (b : Buffer) → lookup (nat_eq q) (take n es) ≡ Some b → lookup (nat_eq q) es ≡ Some b
lookup-take zero q es b h = cc
lookup-take (suc n) q [] b h = cc
lookup-take (suc n) q (e ∷ es) b h = (elim (nat_eq q e.0) as (λ c. nat_eq q e.0 ≡ c → lookup (nat_eq q) (e ∷ es) ≡ Some b) [
  | true ↦ λ t. let g = rw t at h in rw t g
  | false ↦ λ t. let g = rw t at h in rw t (lookup-take n q es b g)
]) refl

-- an entry after a put was there, or is what was put
pub lookup-put : (c : LruCache ℕ Buffer) (s : ℕ) (v : Buffer) (q : ℕ) (b : Buffer) → lookup (nat_eq q) (put_entries nat_eq c s v) ≡ Some b
    → (lookup (nat_eq q) c.entries ≡ Some b) ⊎ ((q ≡ s) × (b ≡ v))
lookup-put c s v q b h = at (lookup_entry (nat_eq s) c.entries) refl h
  where
    place : (x : Option Buffer) → (x ≡ Some b → lookup (nat_eq q) c.entries ≡ Some b) → (t : Bool) → nat_eq q s ≡ t → cond (nat_eq q s) (Some v) x ≡ Some b
        → (lookup (nat_eq q) c.entries ≡ Some b) ⊎ ((q ≡ s) × (b ≡ v))
    place x old true t k = let g = rw t at k in let same : b ≡ v = cc in inr (grind (arith, nat_tests, t), same)
    place x old false t k = let g = rw t at k in inl (old g)

    at : (o : Option (ℕ × Buffer)) → lookup_entry (nat_eq s) c.entries ≡ o
        → lookup (nat_eq q) (option_map_or (λ e. (e.0, v) ∷ remove_entry (nat_eq s) c.entries) o ((s, v) ∷ take (c.cap - 1) c.entries)) ≡ Some b
        → (lookup (nat_eq q) c.entries ≡ Some b) ⊎ ((q ≡ s) × (b ≡ v))
    at None o k = place (lookup (nat_eq q) (take (c.cap - 1) c.entries)) (lookup-take (c.cap - 1) q c.entries b) (nat_eq q s) refl k
    at (Some e) o k = place (lookup (nat_eq q) c.entries) (λ y. y) (nat_eq q s) refl (sym (lookup-front s q c.entries e v (lookup-entry s c.entries e o).1) ∙ k)

moved : (c : LruState) (s : ℕ) → OldEntries (Some (as_segments c.kept.entries)) (Some (as_segments (promoted (nat_eq s) c.kept.entries)))
moved c s es fs q b e f is =
    let old : as_segments c.kept.entries ≡ es = cc in
    let new : as_segments (promoted (nat_eq s) c.kept.entries) ≡ fs = cc in
    ap (λ x. buffer_of x q) (sym old) ∙ buffer_of-as c.kept.entries q ∙ sym (lookup-promoted s q c.kept.entries) ∙ sym (buffer_of-as (promoted (nat_eq s) c.kept.entries) q)
    ∙ ap (λ x. buffer_of x q) new ∙ is

-- a cache after it was asked for a number
abbrev pub asked : LruState → ℕ → LruState
asked c s = record c { kept = lru_cache (promoted (nat_eq s) c.kept.entries) c.kept.cap }

-- what asking answers, where memory was found
pub got : (c : LruState) (s : ℕ) (o : Option Buffer) → o ≡ lookup (nat_eq s) c.kept.entries → GetCause s (lru_state c) (lru_state (asked c s)) (Ok o)
got c s o found = record {
  told = λ es h. let same : as_segments c.kept.entries ≡ es = cc in found ∙ sym (buffer_of-as c.kept.entries s) ∙ ap (λ x. buffer_of x s) same;
  nothing = λ h. cc;
  still = refl;
  failed = λ h. cc;
  sound = λ n h. cc;
  from = moved c s;
  tells = refl;
  puts = refl;
  lost = refl;
}

-- where it was not
pub got-nothing : (c : LruState) (s : ℕ) (r : Result (Option Buffer) CacheError) → IsErrAnd r (λ e. e ≡ cache_error.OutOfMemory) → GetCause s (lru_state c) (lru_state (asked c s)) r
got-nothing c s (Ok o) h = absurd h
got-nothing c s (Err e) h = record {
  told = tt;
  nothing = tt;
  still = tt;
  failed = λ k. cc;
  sound = λ n k. cc;
  from = moved c s;
  tells = refl;
  puts = refl;
  lost = refl;
}

-- a cache after a put
abbrev pub with_put : LruState → SegmentId → Buffer → LruState
with_put c id b = record c { kept = lru_cache (put_entries nat_eq c.kept id.0 b) c.kept.cap; puts = c.puts ++ (id, b) ∷ [] }

-- what a put answers, where memory was found
pub put : (c : LruState) (id : SegmentId) (v : Buffer) → PutCause id v (lru_state c) (lru_state (with_put c id v)) (Ok tt)
put c id v = record {
  logged = inl refl;
  failed = λ h. cc;
  sound = λ n h. cc;
  from = λ es fs q b e f is.
      let old : as_segments c.kept.entries ≡ es = cc in
      let new : as_segments (put_entries nat_eq c.kept id.0 v) ≡ fs = cc in
      elim (lookup-put c.kept id.0 v q b (sym (buffer_of-as (put_entries nat_eq c.kept id.0 v) q) ∙ ap (λ x. buffer_of x q) new ∙ is)) [
        | inl was ↦ inl (ap (λ x. buffer_of x q) (sym old) ∙ buffer_of-as c.kept.entries q ∙ was)
        | inr this ↦ inr this
      ];
  tells = refl;
}
