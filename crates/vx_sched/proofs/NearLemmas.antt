-- Reads in order of their places, and those of them that were found near a range.
use Rattle.std.proofs.Common.{◌≡◌, ℕ, suc, ◌+◌, ◌<◌, ◌≤◌, ◌==◌, ◌&&◌, ◌||◌, Bool, true, false, cond, List, [], ◌∷◌, ◌++◌, length, get_or, take, Option, Some, None, refl, ap, sym, ◌∙◌, subst, ⊎_elim, arith}
use Rattle.std.proofs.lemmas.Bool.{cases_lt}
use Rattle.std.proofs.lemmas.Bool.Decides.{nat_tests}
use Rattle.std.proofs.lemmas.List.{take_more, take_all, get_or_default}
use Rattle.std.proofs.lemmas.List.Elements.{All-push}
use Rattle.std.proofs.lemmas.List.Folds.{list_any-append}
use Rattle.std.specs.BTreeMap.{is_at}
use Rattle.std.specs.List.Sorted.{IsNonDecreasingBy, IsSortedByKey}
use Rattle.std.specs.Ordering.{nat_cmp, is_lt}
use Rattle.vx_sched.specs.Entries.{Entries, entry_at, if_waits}
use Rattle.vx_sched.specs.Merging.{is_listed}
use Rattle.vx_sched.specs.Places.{place_cmp, read_offset, has_place, holds_read, if_waiting, AreUpTo, IsWaitingRead}
use Rattle.vx_sched.specs.Stored.{Read}
use Rattle.vx_sched.specs.declared.request.ReadRequest.{ReadRequest}
use Rattle.vx_sched.proofs.EntriesLemmas.{waiting_in}
use Rattle.vx_sched.proofs.KeptLemmas.{or-first, or-second}

pub no_read : ReadRequest
no_read = record { id = 0; offset = 0; length = 0; alignment = 0 }

-- a read that is among some stands somewhere
pub record StandsRead (reads : List ReadRequest) (offset id : ℕ) : Type 0 where
  pub at : ℕ
  pub inside : at < length reads
  pub offset_is : (get_or reads at no_read).offset ≡ offset
  pub id_is : (get_or reads at no_read).id ≡ id

pub stands-read : (reads : List ReadRequest) (offset id : ℕ) → holds_read reads (offset, id) ≡ true → StandsRead reads offset id
stands-read [] offset id h = cc
stands-read (x ∷ rest) offset id h = at (stands-read rest offset id) ((x.offset == offset) && (x.id == id)) refl h
  where
    at : (holds_read rest (offset, id) ≡ true → StandsRead rest offset id) → (b : Bool) → ((x.offset == offset) && (x.id == id)) ≡ b → (b || holds_read rest (offset, id)) ≡ true
        → StandsRead (x ∷ rest) offset id
    at more true e h =
        record {
          at = 0;
          inside = omega arith;
          offset_is = grind (arith, nat_tests);
          id_is = grind (arith, nat_tests);
        }
    at more false e h =
        let later = more h in
        record { at = suc later.at; inside = omega (arith, later.inside); offset_is = later.offset_is; id_is = later.id_is }

-- the read at a place, whatever is given for the past of the end
pub same-read : (reads : List ReadRequest) (at : ℕ) (r : ReadRequest) → at < length reads → r ≡ get_or reads at r → r ≡ get_or reads at no_read
same-read reads at r l e = e ∙ get_or_default reads at r no_read l

pub past-one : (reads : List ReadRequest) (at right : ℕ) (r : ReadRequest) → r ≡ get_or reads at r → right < r.offset → at < length reads → right < (get_or reads at no_read).offset
past-one reads at right r e h l = subst (λ (x : ReadRequest). right < x.offset) (same-read reads at r l e) h

-- what is to hold of each read up to one, but for those that lie before an offset
abbrev pub Passed : (ReadRequest → Type 0) → List ReadRequest → ℕ → ℕ → Type 0
Passed P reads left at = (i : ℕ) → i < at → left ≤ (get_or reads i no_read).offset → P (get_or reads i no_read)

module _ (P : ReadRequest → Type 0) (reads : List ReadRequest) (left : ℕ) where
  pub passed-start : (first : ℕ) → ((i : ℕ) (d : ReadRequest) → i < first → (get_or reads i d).offset < left) → Passed P reads left first
  passed-start first below i l h = absurd (omega (arith, below i no_read l, h))

  pub passed-more : (Q : ReadRequest → Type 0) (at : ℕ) → ((r : ReadRequest) → P r → Q r) → Q (get_or reads at no_read) → Passed P reads left at → Passed Q reads left (at + 1)
  passed-more Q at keeps here passed i l h =
      ⊎_elim (λ (k : i < at). keeps _ (passed i k h))
      (λ (k : at ≤ i).
      let same : at ≡ i = omega arith in
      subst (λ n. Q (get_or reads n no_read)) same here) (cases_lt i at)

  -- it holds of all in bounds where none is left there
  pub passed-all : (right at : ℕ) → IsNonDecreasingBy read_offset reads → Passed P reads left at → (at < length reads → right < (get_or reads at no_read).offset)
      → (offset id : ℕ) → left ≤ offset → offset ≤ right → (s : StandsRead reads offset id) → P (get_or reads s.at no_read)
  passed-all right at rise passed past offset id l u s =
      ⊎_elim (λ (k : s.at < at). passed s.at k (omega (arith, l, s.offset_is)))
      (λ (k : at ≤ s.at).
      let beyond = past (omega (arith, k, s.inside)) in
      let up = rise at s.at no_read k s.inside in
      absurd (omega (arith, beyond, up, s.offset_is, u))) (cases_lt s.at at)

-- ---- the places of the reads

abbrev pub IsNoted : List (ℕ × ℕ) → ReadRequest → Type 0
IsNoted near r = has_place near (r.offset, r.id) ≡ true

pub noted-push : (near : List (ℕ × ℕ)) (place : ℕ × ℕ) (r : ReadRequest) → IsNoted near r → IsNoted (near ++ place ∷ []) r
noted-push near place r h = list_any-append (is_at (place_cmp (r.offset, r.id))) near (place ∷ []) ∙ or-first _ _ h

pub noted-last : (near : List (ℕ × ℕ)) (r : ReadRequest) → IsNoted (near ++ (r.offset, r.id) ∷ []) r
noted-last near r =
    let self : is_at (place_cmp (r.offset, r.id)) (r.offset, r.id) ≡ true = grind (arith, nat_tests) in
    list_any-append (is_at (place_cmp (r.offset, r.id))) near ((r.offset, r.id) ∷ []) ∙ or-second (has_place near (r.offset, r.id)) _ (or-first _ false self)

pub noted-all : (reads : List ReadRequest) (left right at : ℕ) (near : List (ℕ × ℕ)) → IsNonDecreasingBy read_offset reads → Passed (IsNoted near) reads left at
    → (at < length reads → right < (get_or reads at no_read).offset)
    → (offset id : ℕ) → left ≤ offset → offset ≤ right → holds_read reads (offset, id) ≡ true → has_place near (offset, id) ≡ true
noted-all reads left right at near rise passed past offset id l u h =
    let s = stands-read reads offset id h in
    subst (λ o. has_place near (o, id) ≡ true) s.offset_is
    (subst (λ n. has_place near ((get_or reads s.at no_read).offset, n) ≡ true) s.id_is (passed-all (IsNoted near) reads left right at rise passed past offset id l u s))

-- ---- those of the reads that wait

abbrev pub IsFound : Entries → List ReadRequest → ReadRequest → Type 0
IsFound entries found r = if_waiting (entry_at entries r.id) ≡ true → is_listed found r.id ≡ true

pub found-push : (entries : Entries) (found : List ReadRequest) (x r : ReadRequest) → IsFound entries found r → IsFound entries (found ++ x ∷ []) r
found-push entries found x r h w = list_any-append (λ y. y.id == r.id) found (x ∷ []) ∙ or-first _ _ (h w)

pub found-last : (entries : Entries) (found : List ReadRequest) (r : ReadRequest) → IsFound entries (found ++ r ∷ []) r
found-last entries found r w =
    let self : (r.id == r.id) ≡ true = grind (arith, nat_tests) in
    list_any-append (λ y. y.id == r.id) found (r ∷ []) ∙ or-second (is_listed found r.id) _ (or-first _ false self)

pub found-not : (entries : Entries) (found : List ReadRequest) (r : ReadRequest) → if_waiting (entry_at entries r.id) ≡ false → IsFound entries found r
found-not entries found r n w = cc

-- a read in order that waits is the one of its number
pub asked-waits : (entries : Entries) (r : ReadRequest) → ((s : ReadRequest) → if_waits (entry_at entries r.id) ≡ Some s → s ≡ r)
    → if_waiting (entry_at entries r.id) ≡ true → IsWaitingRead entries r
asked-waits entries r asked h = at (entry_at entries r.id) refl h
  where
    at : (x : Option Read) → entry_at entries r.id ≡ x → if_waiting x ≡ true → IsWaitingRead entries r
    at None e k = cc
    at (Some x) e k =
        let waits : if_waits (Some x) ≡ Some x.request = ap (λ b. cond b (Some x.request) None) k in
        let there : waiting_in entries r.id ≡ Some x.request = ap if_waits e ∙ waits in
        there ∙ ap Some (asked x.request there)

pub found-all : (entries : Entries) (reads : List ReadRequest) (left right at : ℕ) (found : List ReadRequest) → IsNonDecreasingBy read_offset reads
    → Passed (IsFound entries found) reads left at → (at < length reads → right < (get_or reads at no_read).offset)
    → (offset id : ℕ) → left ≤ offset → offset ≤ right → if_waiting (entry_at entries id) ≡ true → holds_read reads (offset, id) ≡ true → is_listed found id ≡ true
found-all entries reads left right at found rise passed past offset id l u w h =
    let s = stands-read reads offset id h in
    subst (λ n. if_waiting (entry_at entries n) ≡ true → is_listed found n ≡ true) s.id_is
    (passed-all (IsFound entries found) reads left right at rise passed past offset id l u s) w

-- in the order of places offsets do not fall
pub reads-sorted : (reads : List ReadRequest) → IsSortedByKey (λ (r : ReadRequest). (r.offset, r.id)) place_cmp reads → IsSortedByKey read_offset nat_cmp reads
reads-sorted reads h k d l u = at (get_or reads (k + 1) d) (get_or reads k d) (h k d l u)
  where
    at : (a b : ReadRequest) → is_lt (place_cmp (a.offset, a.id) (b.offset, b.id)) ≡ false → is_lt (nat_cmp a.offset b.offset) ≡ false
    at a b h = grind (arith, nat_tests)

-- ---- the greatest number

pub newest-more : (reads : List ReadRequest) (at before after : ℕ) → at < length reads → AreUpTo before (take at reads) → before ≤ after → (get_or reads at no_read).id ≤ after
    → AreUpTo after (take (at + 1) reads)
newest-more reads at before after l front least one =
    subst (AreUpTo after) (sym (take_more reads at no_read l))
    (All-push (λ r. r.id ≤ after) (take at reads) (get_or reads at no_read) (λ k d m. let low = front k d m in omega (arith, low, least)) one)

pub newest-all : (reads : List ReadRequest) (at newest : ℕ) → length reads ≤ at → AreUpTo newest (take at reads) → AreUpTo newest reads
newest-all reads at newest l front = subst (AreUpTo newest) (take_all at reads l) front
