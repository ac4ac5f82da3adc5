-- Caches behind segments that are at hand.
use Rattle.std.proofs.Common.{◌≡◌, ℕ, ◌⊎◌, inl, inr, Bool, true, false, cond, [], ◌∷◌, ◌++◌, length, Option, Some, None, Result, Ok, Err, refl, sym, ap, ◌∙◌, subst, arith}
use Rattle.std.specs.Prelude.{◌&&◌, ◌==◌, is_some}
use Rattle.std.specs.Option.{option_map}
use Rattle.std.specs.BTreeMap.{is_at}
use Rattle.std.specs.Map.{lookup}
use Rattle.std.specs.Ordering.{nat_cmp}
use Rattle.std.proofs.lemmas.Bool.Decides.{nat_tests}
use Rattle.vx_base.specs.Buffer.{Buffer}
use Rattle.vx_base.specs.Caches.{Segments, CacheState, SameCache, GetCause, PutCause, OldEntries, buffer_of}
use Rattle.vx_base.specs.declared.segment.SegmentId.{SegmentId}
use Rattle.vx_base.specs.declared.segment_cache.CacheError.{CacheError}
use Rattle.vx_source.specs.Keeping.{in_front}

-- a buffer that is at hand counts
at-hand : (initial es : Segments) (q : ℕ) (b : Buffer) → buffer_of initial q ≡ Some b → buffer_of (initial ++ es) q ≡ Some b
at-hand [] es q b h = cc
at-hand (e ∷ rest) es q b h = (elim (e.0.0 == q) as (λ t. (e.0.0 == q) ≡ t → buffer_of ((e ∷ rest) ++ es) q ≡ Some b) [
  | true ↦ λ t. let g = rw t at h in rw t g
  | false ↦ λ t. let g = rw t at h in rw t (at-hand rest es q b g)
]) refl

-- where there is none, the others count
others : (initial es : Segments) (q : ℕ) → buffer_of initial q ≡ None → buffer_of (initial ++ es) q ≡ buffer_of es q
others [] es q h = refl
others (e ∷ rest) es q h = (elim (e.0.0 == q) as (λ t. (e.0.0 == q) ≡ t → buffer_of ((e ∷ rest) ++ es) q ≡ buffer_of es q) [
  | true ↦ λ t. let g = rw t at h in cc
  | false ↦ λ t. let g = rw t at h in rw t (others rest es q g)
]) refl

-- an entry that comes from the old entries or elsewhere does so behind others too
module _ (initial : Segments) (P : ℕ → Buffer → Type 0) where
  abbrev From : Option Segments → Option Segments → Type 0
  From before now = (es fs : Segments) (q : ℕ) (b : Buffer) → before ≡ Some es → now ≡ Some fs → buffer_of fs q ≡ Some b → (buffer_of es q ≡ Some b) ⊎ P q b

  from-front : (x y : Option Segments) → From x y → From (option_map (λ es. initial ++ es) x) (option_map (λ es. initial ++ es) y)
  from-front None y h es fs q b e f is = cc
  from-front (Some x) None h es fs q b e f is = cc
  from-front (Some x) (Some y) h es fs q b e f is =
      let old : initial ++ x ≡ es = cc in
      let new : initial ++ y ≡ fs = cc in
      at old (ap (λ l. buffer_of l q) new ∙ is) (buffer_of initial q) refl
    where
      at : initial ++ x ≡ es → buffer_of (initial ++ y) q ≡ Some b → (o : Option Buffer) → buffer_of initial q ≡ o → (buffer_of es q ≡ Some b) ⊎ P q b
      at old has (Some d) t = inl (ap (λ l. buffer_of l q) (sym old) ∙ at-hand initial x q d t ∙ sym (at-hand initial y q d t) ∙ has)
      at old has None t = elim (h x y q b refl refl (sym (others initial y q t) ∙ has)) [
        | inl was ↦ inl (ap (λ l. buffer_of l q) (sym old) ∙ others initial x q t ∙ was)
        | inr this ↦ inr this
      ]

old-front : (initial : Segments) (x y : Option Segments) → OldEntries x y → OldEntries (option_map (λ es. initial ++ es) x) (option_map (λ es. initial ++ es) y)
old-front initial x y h es fs q b e f is =
    elim (from-front initial (λ _ _. ⊥) x y (λ es fs q b e f is. inl (h es fs q b e f is)) es fs q b e f is) [ inl was ↦ was | inr never ↦ absurd never ]

tells-front : (initial : Segments) (x y : Option Segments) → is_some y ≡ is_some x → is_some (option_map (λ es. initial ++ es) y) ≡ is_some (option_map (λ es. initial ++ es) x)
tells-front initial None None h = refl
tells-front initial None (Some y) h = h
tells-front initial (Some x) None h = h
tells-front initial (Some x) (Some y) h = refl

-- no call changes what such a cache is
pub same-front : (initial : Segments) (a b : CacheState) → SameCache a b → SameCache (in_front initial a) (in_front initial b)
same-front initial a b h = record {
  never_gives = ap (λ t. (length initial == 0) && t) h.never_gives;
  never_fails = h.never_fails;
  never_falls = h.never_falls;
  lost_never_falls = h.lost_never_falls;
  sound = h.sound;
}

-- a put goes to the cache behind
pub put-front : (initial : Segments) (id : SegmentId) (buffer : Buffer) (a b : CacheState) (r : Result (Unit {0}) CacheError) → PutCause id buffer a b r
    → PutCause id buffer (in_front initial a) (in_front initial b) r
put-front initial id buffer a b r h = record {
  logged = elim h.logged [
    | inl grew ↦ inl grew
    | inr lost ↦ inr (record { refused = lost.refused; puts = lost.puts; rises = lost.rises })
  ];
  failed = h.failed;
  sound = h.sound;
  from = from-front initial (λ q d. (q ≡ id.0) × (d ≡ buffer)) a.entries b.entries h.from;
  tells = tells-front initial a.entries b.entries h.tells;
}

told-at-hand : (initial : Segments) (x : Option Segments) (s : ℕ) (b : Buffer) → Some b ≡ buffer_of initial s → (es : Segments) → option_map (λ es. initial ++ es) x ≡ Some es → Some b ≡ buffer_of es s
told-at-hand initial None s b h es e = cc
told-at-hand initial (Some x) s b h es e = let same : initial ++ x ≡ es = cc in sym (at-hand initial x s b (sym h)) ∙ ap (λ l. buffer_of l s) same

told-behind : (initial : Segments) (x : Option Segments) (s : ℕ) (o : Option Buffer) → None ≡ buffer_of initial s → ((es : Segments) → x ≡ Some es → o ≡ buffer_of es s)
    → (es : Segments) → option_map (λ es. initial ++ es) x ≡ Some es → o ≡ buffer_of es s
told-behind initial None s o h t es e = cc
told-behind initial (Some x) s o h t es e = let same : initial ++ x ≡ es = cc in t x refl ∙ sym (others initial x s (sym h)) ∙ ap (λ l. buffer_of l s) same

never-at-hand : (initial : Segments) (a : Bool) (s : ℕ) (b : Buffer) → Some b ≡ buffer_of initial s → ((length initial == 0) && a) ≡ true → ⊥
never-at-hand [] a s b h n = cc
never-at-hand (e ∷ rest) a s b h n = let some : (length (e ∷ rest) == 0) ≡ false = grind (arith, nat_tests) in let g = rw some at n in cc

never-behind : (x a : Bool) → (x && a) ≡ true → a ≡ true
never-behind true a h = h
never-behind false a h = cc

-- asking for a segment that is at hand
pub get-at-hand : (initial : Segments) (a : CacheState) (s : ℕ) (b : Buffer) → Some b ≡ buffer_of initial s → GetCause s (in_front initial a) (in_front initial a) (Ok (Some b))
get-at-hand initial a s b h = record {
  told = told-at-hand initial a.entries s b h;
  nothing = λ n. absurd (never-at-hand initial a.never_gives s b h n);
  still = refl;
  failed = λ k. cc;
  sound = λ n k. cc;
  from = old-front initial a.entries a.entries (λ es fs q d e f is. let same : fs ≡ es = cc in subst (λ l. buffer_of l q ≡ Some d) same is);
  tells = refl;
  puts = refl;
  lost = refl;
}

-- asking the cache behind
pub get-behind : (initial : Segments) (a b : CacheState) (s : ℕ) (r : Result (Option Buffer) CacheError) → None ≡ buffer_of initial s → GetCause s a b r
    → GetCause s (in_front initial a) (in_front initial b) r
get-behind initial a b s (Ok o) h g = record {
  told = told-behind initial a.entries s o h g.told;
  nothing = λ n. g.nothing (never-behind (length initial == 0) a.never_gives n);
  still = g.still;
  failed = g.failed;
  sound = g.sound;
  from = old-front initial a.entries b.entries g.from;
  tells = tells-front initial a.entries b.entries g.tells;
  puts = g.puts;
  lost = g.lost;
}
get-behind initial a b s (Err e) h g = record {
  told = tt;
  nothing = tt;
  still = tt;
  failed = g.failed;
  sound = g.sound;
  from = old-front initial a.entries b.entries g.from;
  tells = tells-front initial a.entries b.entries g.tells;
  puts = g.puts;
  lost = g.lost;
}

equal : (a b : ℕ) → is_at (nat_cmp a) b ≡ (b == a)
equal a b = grind (arith, nat_tests)

-- a segment's number is found as its entry
pub find-segment : (es : Segments) (id : SegmentId) → lookup (is_at (λ (k : SegmentId). nat_cmp id.0 k.0)) es ≡ buffer_of es id.0
find-segment [] id = refl
find-segment (e ∷ es) id = ap (λ t. cond t (Some e.1) (lookup (is_at (λ (k : SegmentId). nat_cmp id.0 k.0)) es)) (equal id.0 e.0.0) ∙ ap (cond (e.0.0 == id.0) (Some e.1)) (find-segment es id)
