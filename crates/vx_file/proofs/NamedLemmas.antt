-- Footers by name, as they are kept and as they are seen.
use Rattle.std.proofs.Common.{◌≡◌, ℕ, zero, suc, ◌-◌, ◌^◌, ◌<◌, Bool, true, false, cond, List, [], ◌∷◌, length, take, map, Option, Some, None, refl, sym, ap, subst, ◌∙◌, arith, String, string_bytes}
use Rattle.std.specs.Global.{Global}
use Rattle.std.specs.Option.{option_map}
use Rattle.std.specs.Str.{bytes_eq}
use Rattle.std.specs.Map.{lookup, lookup_entry, remove_entry}
use Rattle.std.specs.Prelude.{slice_get}
use Rattle.std.specs.Cmp.Lexicographic.{bytes_decides}
use Rattle.std.proofs.lemmas.List.{take_all}
use Rattle.std.proofs.lemmas.Option.{slice_get-map}
use Rattle.lru.specs.LruCache.{LruCache, promoted, put_entries, last_entry}
use Rattle.vx_footer.specs.Footers.{FooterValue}
use Rattle.vx_file.specs.KeptFooters.{KeptFooter}

abbrev pub Named : Type 0
Named = String Global × FooterValue

abbrev pub seen_entry : Named → KeptFooter
seen_entry e = (string_bytes e.0, e.1)

abbrev pub seen : List Named → List KeptFooter
seen es = map seen_entry es

abbrev has : List ℕ → String Global → Bool
has k s = bytes_eq k (string_bytes s)

pub lookup-seen : (k : List ℕ) (es : List Named) → lookup (has k) es ≡ lookup (bytes_eq k) (seen es)
lookup-seen k [] = refl
lookup-seen k (e ∷ es) = ap (cond (has k e.0) (Some e.1)) (lookup-seen k es)

pub entry-seen : (k : List ℕ) (es : List Named) → lookup_entry (bytes_eq k) (seen es) ≡ option_map seen_entry (lookup_entry (has k) es)
entry-seen k [] = refl
entry-seen k (e ∷ es) = (elim (has k e.0) as (λ b. has k e.0 ≡ b → lookup_entry (bytes_eq k) (seen (e ∷ es)) ≡ option_map seen_entry (lookup_entry (has k) (e ∷ es))) [
  | true ↦ λ h. rw h refl
  | false ↦ λ h. rw h (entry-seen k es)
]) refl

pub remove-seen : (k : List ℕ) (es : List Named) → seen (remove_entry (has k) es) ≡ remove_entry (bytes_eq k) (seen es)
remove-seen k [] = refl
remove-seen k (e ∷ es) = (elim (has k e.0) as (λ b. has k e.0 ≡ b → seen (remove_entry (has k) (e ∷ es)) ≡ remove_entry (bytes_eq k) (seen (e ∷ es))) [
  | true ↦ λ h. rw h refl
  | false ↦ λ h. rw h (ap (λ xs. seen_entry e ∷ xs) (remove-seen k es))
]) refl

pub promoted-seen : (k : List ℕ) (es : List Named) → seen (promoted (has k) es) ≡ promoted (bytes_eq k) (seen es)
promoted-seen k es = by (lookup_entry (has k) es) refl
  where
    by : (o : Option Named) → lookup_entry (has k) es ≡ o → seen (promoted (has k) es) ≡ promoted (bytes_eq k) (seen es)
    by None h = rw (entry-seen k es, h) refl
    by (Some e) h = rw (entry-seen k es, h) (ap (λ xs. seen_entry e ∷ xs) (remove-seen k es))

-- what stands under a key has it
entry-has : (k : List ℕ) (es : List Named) (e : Named) → lookup_entry (has k) es ≡ Some e → has k e.0 ≡ true
entry-has k [] e h = cc
entry-has k (f ∷ es) e h = (elim (has k f.0) as (λ b. has k f.0 ≡ b → has k e.0 ≡ true) [
  | true ↦ λ t. let g = rw t at h in let same : f ≡ e = cc in subst (λ (x : Named). has k x.0 ≡ true) same t
  | false ↦ λ t. entry-has k es e (rw t at h)
]) refl

remove-none : (k : List ℕ) (es : List Named) → lookup_entry (has k) es ≡ None → remove_entry (has k) es ≡ es
remove-none k [] h = refl
remove-none k (e ∷ es) h = (elim (has k e.0) as (λ b. has k e.0 ≡ b → remove_entry (has k) (e ∷ es) ≡ e ∷ es) [
  | true ↦ λ t. let g = rw t at h in cc
  | false ↦ λ t. let g = rw t at h in rw t (ap (λ xs. e ∷ xs) (remove-none k es g))
]) refl

-- a put where the cache is far from full
pub put-seen : (c : LruCache (String Global) FooterValue) (k : String Global) (v : FooterValue) → length c.entries < 2 ^ 63 → c.cap ≡ 2 ^ 64 - 1
    → seen (put_entries (λ s. has (string_bytes s)) c k v) ≡ (string_bytes k, v) ∷ remove_entry (bytes_eq (string_bytes k)) (seen c.entries)
put-seen c k v few cap = by (lookup_entry (has (string_bytes k)) c.entries) refl
  where
    by : (o : Option Named) → lookup_entry (has (string_bytes k)) c.entries ≡ o
        → seen (put_entries (λ s. has (string_bytes s)) c k v) ≡ (string_bytes k, v) ∷ remove_entry (bytes_eq (string_bytes k)) (seen c.entries)
    by None h = rw h (ap (λ xs. (string_bytes k, v) ∷ xs)
        (ap seen (take_all (c.cap - 1) c.entries (omega (arith, few, cap)) ∙ sym (remove-none (string_bytes k) c.entries h)) ∙ remove-seen (string_bytes k) c.entries))
    by (Some e) h = let same : string_bytes k ≡ string_bytes e.0 = (bytes_decides (string_bytes k) (string_bytes e.0)).0 (entry-has (string_bytes k) c.entries e h) in
        rw h (ap (λ b. (b, v) ∷ seen (remove_entry (has (string_bytes k)) c.entries)) (sym same)
        ∙ ap (λ xs. (string_bytes k, v) ∷ xs) (remove-seen (string_bytes k) c.entries))

pub last-seen : (es : List Named) → last_entry (seen es) ≡ option_map seen_entry (last_entry es)
last-seen es = ap (λ n. slice_get (seen es) (n - 1)) (length-seen es) ∙ slice_get-map seen_entry es (length es - 1)
  where
    length-seen : (xs : List Named) → length (seen xs) ≡ length xs
    length-seen [] = refl
    length-seen (x ∷ xs) = ap suc (length-seen xs)

pub front-seen : (es : List Named) → seen (take (length es - 1) es) ≡ take (length (seen es) - 1) (seen es)
front-seen es = ap (λ n. seen (take (n - 1) es)) (sym (length-seen es)) ∙ map-take (length (seen es) - 1) es
  where
    length-seen : (xs : List Named) → length (seen xs) ≡ length xs
    length-seen [] = refl
    length-seen (x ∷ xs) = ap suc (length-seen xs)

    map-take : (n : ℕ) (xs : List Named) → seen (take n xs) ≡ take n (seen xs)
    map-take zero xs = refl
    map-take (suc n) [] = refl
    map-take (suc n) (x ∷ xs) = ap (λ ys. seen_entry x ∷ ys) (map-take n xs)
