-- The ids of a tree are all there, and are few.
use Rattle.std.proofs.Common.{◌≡◌, ℕ, suc, ◌+◌, ◌<◌, ◌≤◌, Bool, true, false, List, [], ◌∷◌, ◌++◌, length, get_or, drop, refl, sym, ap, ◌∙◌, arith, add-one, drop-cons, length-append}
use Rattle.std.specs.Prelude.{◌&&◌, ◌||◌, cond, map, String, string_bytes}
use Rattle.std.specs.Global.{Global}
use Rattle.std.specs.Str.{bytes_eq}
use Rattle.std.proofs.lemmas.List.{length-map}
use Rattle.std.proofs.lemmas.Slice.Eq.{bytes_eq-Decides}
use Rattle.vx_data.specs.declared.layout_kind.LayoutKind.{LayoutKind}
use Rattle.vx_data.specs.declared.layout_kind.LayoutKind.TheVariants.{Flat, Chunked, Struct}
use Rattle.vx_data.specs.Layout.{LayoutTree, node, Layouts, no_layouts, a_layout, layouts_of, kind_of, children_of}
use Rattle.vx_data.specs.LayoutWritten.{kind_id, has_id, uses_ids, all_use}
use Rattle.vx_data.specs.LayoutIds.{with_id, ids_behind, all_behind, used_ids}
use Rattle.vx_data.proofs.LayoutTables.{size_is, next_size}

-- ---- one more layout

pub ids_are : (ids : List (List ℕ)) (t : LayoutTree) → ids_behind ids t ≡ all_behind (with_id ids (kind_id (kind_of t))) (children_of t)
ids_are ids (node k d n s ts) = refl

pub ruleset id_parts = (ids_are, size_is)

pub next_ids : (ids : List (List ℕ)) (ts : List LayoutTree) (i : ℕ) (t : LayoutTree) → i < length ts → t ≡ get_or ts i t
    → all_behind ids (layouts_of (drop i ts)) ≡ all_behind (ids_behind ids t) (layouts_of (drop (i + 1) ts))
next_ids ids ts i t lt is =
    let next : drop i ts ≡ t ∷ drop (i + 1) ts = rw (add-one, drop-cons ts i t, ← is) refl in
    ap (λ xs. all_behind ids (layouts_of xs)) next

pub ruleset id_steps = (next_ids, next_size)

-- ---- all are there

or_right : (b : Bool) → (b || true) ≡ true
or_right true = refl
or_right false = refl

or_none : (b : Bool) → (b || false) ≡ b
or_none true = refl
or_none false = refl

or_assoc : (a b c : Bool) → ((a || b) || c) ≡ (a || (b || c))
or_assoc true b c = refl
or_assoc false b c = refl

and_parts : (a b : Bool) → (a && b) ≡ true → (a ≡ true) × (b ≡ true)
and_parts true true h = (refl, refl)
and_parts true false h = absurd cc
and_parts false b h = absurd cc

has_push : (ids : List (List ℕ)) (y x : List ℕ) → has_id (ids ++ y ∷ []) x ≡ (has_id ids x || bytes_eq y x)
has_push [] y x = or_none (bytes_eq y x)
has_push (z ∷ zs) y x = ap (λ b. bytes_eq z x || b) (has_push zs y x) ∙ sym (or_assoc (bytes_eq z x) (has_id zs x) (bytes_eq y x))

same_bytes : (x : List ℕ) → bytes_eq x x ≡ true
same_bytes x = (bytes_eq-Decides x x).1 refl

still : (ids : List (List ℕ)) (y x : List ℕ) → has_id ids x ≡ true → has_id (with_id ids y) x ≡ true
still ids y x h = by (has_id ids y)
  where
    by : (b : Bool) → has_id (cond b ids (ids ++ y ∷ [])) x ≡ true
    by true = h
    by false = has_push ids y x ∙ ap (λ b. b || bytes_eq y x) h

now_there : (ids : List (List ℕ)) (y : List ℕ) → has_id (with_id ids y) y ≡ true
now_there ids y = by (has_id ids y) refl
  where
    by : (b : Bool) → has_id ids y ≡ b → has_id (cond b ids (ids ++ y ∷ [])) y ≡ true
    by true e = e
    by false e = has_push ids y y ∙ ap (λ b. has_id ids y || b) (same_bytes y) ∙ or_right (has_id ids y)

mutual
  tree_still : (ids : List (List ℕ)) (t : LayoutTree) (x : List ℕ) → has_id ids x ≡ true → has_id (ids_behind ids t) x ≡ true
  tree_still ids (node k d n s ts) x h = all_still (with_id ids (kind_id k)) ts x (still ids (kind_id k) x h)

  all_still : (ids : List (List ℕ)) (ts : Layouts) (x : List ℕ) → has_id ids x ≡ true → has_id (all_behind ids ts) x ≡ true
  all_still ids no_layouts x h = h
  all_still ids (a_layout t ts) x h = all_still (ids_behind ids t) ts x (tree_still ids t x h)

mutual
  use_more : (a b : List (List ℕ)) (t : LayoutTree) → ((x : List ℕ) → has_id a x ≡ true → has_id b x ≡ true) → uses_ids a t ≡ true → uses_ids b t ≡ true
  use_more a b (node k d n s ts) more h =
      let p = and_parts (has_id a (kind_id k)) (all_use a ts) h in
      rw (more (kind_id k) p.0, all_use_more a b ts more p.1) refl

  all_use_more : (a b : List (List ℕ)) (ts : Layouts) → ((x : List ℕ) → has_id a x ≡ true → has_id b x ≡ true) → all_use a ts ≡ true → all_use b ts ≡ true
  all_use_more a b no_layouts more h = refl
  all_use_more a b (a_layout t ts) more h =
      let p = and_parts (uses_ids a t) (all_use a ts) h in
      rw (use_more a b t more p.0, all_use_more a b ts more p.1) refl

mutual
  uses : (ids : List (List ℕ)) (t : LayoutTree) → uses_ids (ids_behind ids t) t ≡ true
  uses ids (node k d n s ts) =
      let more = with_id ids (kind_id k) in
      rw (all_still more ts (kind_id k) (now_there ids (kind_id k)), uses_all more ts) refl

  uses_all : (ids : List (List ℕ)) (ts : Layouts) → all_use (all_behind ids ts) ts ≡ true
  uses_all ids no_layouts = refl
  uses_all ids (a_layout t ts) =
      let more = ids_behind ids t in
      rw (use_more more (all_behind more ts) t (all_still more ts) (uses ids t), uses_all more ts) refl

pub all_used : (t : LayoutTree) → uses_ids (used_ids t) t ≡ true
all_used t = uses [] t

-- ---- and are few

flag : Bool → ℕ
flag true = 1
flag false = 0

flag_low : (b : Bool) → flag b ≤ 1
unfolding flag
flag_low true = omega arith
flag_low false = omega arith

-- how many of the three kinds are there
kinds : List (List ℕ) → ℕ
kinds ids = flag (has_id ids (kind_id Flat)) + flag (has_id ids (kind_id Chunked)) + flag (has_id ids (kind_id Struct))

-- an id that is not among others makes one more
one_more : (ids : List (List ℕ)) (k : LayoutKind) → has_id ids (kind_id k) ≡ false → length ids ≡ kinds ids → length (ids ++ kind_id k ∷ []) ≡ kinds (ids ++ kind_id k ∷ [])
unfolding kinds flag
one_more ids Flat new h =
    rw (has_push ids (kind_id Flat) (kind_id Flat), has_push ids (kind_id Flat) (kind_id Chunked), has_push ids (kind_id Flat) (kind_id Struct), or_none (has_id ids (kind_id Chunked)), or_none (has_id ids (kind_id Struct)), or_right (has_id ids (kind_id Flat)))
    (omega (arith, h, ap flag new, length-append ids (kind_id Flat ∷ [])))
one_more ids Chunked new h =
    rw (has_push ids (kind_id Chunked) (kind_id Flat), has_push ids (kind_id Chunked) (kind_id Chunked), has_push ids (kind_id Chunked) (kind_id Struct), or_none (has_id ids (kind_id Flat)), or_none (has_id ids (kind_id Struct)), or_right (has_id ids (kind_id Chunked)))
    (omega (arith, h, ap flag new, length-append ids (kind_id Chunked ∷ [])))
one_more ids Struct new h =
    rw (has_push ids (kind_id Struct) (kind_id Flat), has_push ids (kind_id Struct) (kind_id Chunked), has_push ids (kind_id Struct) (kind_id Struct), or_none (has_id ids (kind_id Flat)), or_none (has_id ids (kind_id Chunked)), or_right (has_id ids (kind_id Struct)))
    (omega (arith, h, ap flag new, length-append ids (kind_id Struct ∷ [])))

with_more : (ids : List (List ℕ)) (k : LayoutKind) → length ids ≡ kinds ids → length (with_id ids (kind_id k)) ≡ kinds (with_id ids (kind_id k))
with_more ids k h = by (has_id ids (kind_id k)) refl
  where
    by : (b : Bool) → has_id ids (kind_id k) ≡ b → length (cond b ids (ids ++ kind_id k ∷ [])) ≡ kinds (cond b ids (ids ++ kind_id k ∷ []))
    by true e = h
    by false e = one_more ids k e h

mutual
  tree_kinds : (ids : List (List ℕ)) (t : LayoutTree) → length ids ≡ kinds ids → length (ids_behind ids t) ≡ kinds (ids_behind ids t)
  tree_kinds ids (node k d n s ts) h = all_kinds (with_id ids (kind_id k)) ts (with_more ids k h)

  all_kinds : (ids : List (List ℕ)) (ts : Layouts) → length ids ≡ kinds ids → length (all_behind ids ts) ≡ kinds (all_behind ids ts)
  all_kinds ids no_layouts h = h
  all_kinds ids (a_layout t ts) h = all_kinds (ids_behind ids t) ts (tree_kinds ids t h)

three : (ids : List (List ℕ)) → length ids ≡ kinds ids → length ids ≤ 3
unfolding kinds
three ids h = omega (arith, h, flag_low (has_id ids (kind_id Flat)), flag_low (has_id ids (kind_id Chunked)), flag_low (has_id ids (kind_id Struct)))

no_kinds : kinds [] ≡ 0
unfolding kinds flag
no_kinds = refl

pub few_used : (ids : List (String Global)) (t : LayoutTree) → map string_bytes ids ≡ used_ids t → length ids ≤ 3
few_used ids t e = omega (arith, length-map ids string_bytes, ap length e, three (used_ids t) (tree_kinds [] t (sym no_kinds)))
