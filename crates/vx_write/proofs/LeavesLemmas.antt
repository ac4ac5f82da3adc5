-- Leaves one after the other.
use Rattle.std.proofs.Common.{◌≡◌, ℕ, zero, suc, ◌+◌, ◌<◌, ◌≤◌, ◌≢◌, List, [], ◌∷◌, ◌++◌, length, get_or, set, take, drop, drop-cons, get_or-set_other, Some, refl, ap, ap₂, sym, ◌∙◌, subst, arith, append_assoc}
use Rattle.std.specs.Prelude.{slice_get}
use Rattle.std.proofs.lemmas.List.{map-append, length-map, length-set, drop_all, take_all, append-nil, take_more_set}
use Rattle.std.proofs.lemmas.List.Sums.{sum_by-cons}
use Rattle.std.proofs.lemmas.List.Elements.{All-nil, All-cons, All-append, All-head, All-tail}
use Rattle.vx_data.specs.Dtype.{Dtype}
use Rattle.vx_rows.specs.declared.column.Column.{Column}
use Rattle.vx_rows.specs.Rows.{Rows, column_view, rows_len, dtype_of, IsColumn}
use Rattle.vx_rows.specs.Parts.{appended, plain_size}
use Rattle.vx_rows.proofs.ColumnLaws.{part_type, appended_type}
use Rattle.vx_write.specs.Cutting.{full_chunks, last_chunk, cut}
use Rattle.vx_write.specs.Leaves.{Leaf, ChunkRows, LeafState, nows, nexts, leaf_type, leaf_types, column_types, AreSound, chunks_at, filled_from, grown, grown_leaf, rests_from, held_size, IsChunk, AreChunks, IsOfType, AllOfType}
use Rattle.vx_write.specs.Chunks.{columns_seen}

-- ---- one of the leaves

next_state : (ls : List LeafState) (i : ℕ) (l : LeafState) → i < length ls → l ≡ get_or ls i l → drop i ls ≡ l ∷ drop (i + 1) ls
next_state ls i l h e = let one : i + 1 ≡ suc i = omega arith in drop-cons ls i l h ∙ ap (λ x. x ∷ drop (suc i) ls) (sym e) ∙ ap (λ n. l ∷ drop n ls) (sym one)

next_column : (cs : List Column) (i : ℕ) (c : Column) → i < length cs → c ≡ get_or cs i c → drop i cs ≡ c ∷ drop (i + 1) cs
next_column cs i c h e = let one : i + 1 ≡ suc i = omega arith in drop-cons cs i c h ∙ ap (λ x. x ∷ drop (suc i) cs) (sym e) ∙ ap (λ n. c ∷ drop n cs) (sym one)

-- leaves from one on are as they were
pub record Ahead (i : ℕ) (now start : List LeafState) : Type 0 where
  pub long : length now ≡ length start
  pub same : (k : ℕ) (l : LeafState) → i ≤ k → get_or now k l ≡ get_or start k l

pub ahead_start : (ls : List LeafState) → Ahead 0 ls ls
ahead_start ls = record { long = refl; same = λ k l h. refl }

pub ahead_set : (i : ℕ) (now start : List LeafState) (l : LeafState) → Ahead i now start → Ahead (i + 1) (set now i l) start
ahead_set i now start l a = record {
  long = length-set now i l ∙ a.long;
  same = λ k d h. let ne : k ≢ i = omega (arith, h) in get_or-set_other now i k l d ne ∙ a.same k d (omega (arith, h));
}

-- a leaf whose rows do not count yet
pub now_set : (ls : List LeafState) (i : ℕ) (l l' : LeafState) → l ≡ get_or ls i l → l'.now ≡ l.now → nows (set ls i l') ≡ nows ls
now_set [] i l l' e f = refl
now_set (x ∷ ls) zero l l' e f = ap (λ y. y ∷ nows ls) (f ∙ ap (λ (s : LeafState). s.now) e)
now_set (x ∷ ls) (suc i) l l' e f = ap (λ ys. x.now ∷ ys) (now_set ls i l l' e f)

-- ---- columns of the leaves' types

pub as_many : (ls : List LeafState) (cs : List Column) → column_types (columns_seen cs) ≡ leaf_types (nows ls) → length cs ≡ length ls
as_many ls cs e =
    let a = length-map (columns_seen cs) dtype_of in
    let b = length-map cs column_view in
    let c = length-map (nows ls) leaf_type in
    let d = length-map ls (λ (l : LeafState). l.now) in
    sym b ∙ sym a ∙ ap length e ∙ c ∙ d

pub typed_at : (ls : List LeafState) (cs : List Column) (i : ℕ) (l : LeafState) (c : Column) → column_types (columns_seen cs) ≡ leaf_types (nows ls)
    → i < length ls → l ≡ get_or ls i l → i < length cs → c ≡ get_or cs i c → dtype_of (column_view c) ≡ leaf_type l.now
typed_at [] cs i l c t h e k f = absurd (omega (arith, h))
typed_at (x ∷ ls) [] i l c t h e k f = absurd (omega (arith, k))
typed_at (x ∷ ls) (y ∷ cs) zero l c t h e k f =
    let first : dtype_of (column_view y) ≡ leaf_type x.now = cc in
    ap (λ (z : Column). dtype_of (column_view z)) f ∙ first ∙ ap (λ (s : LeafState). leaf_type s.now) (sym e)
typed_at (x ∷ ls) (y ∷ cs) (suc i) l c t h e k f =
    let others : column_types (columns_seen cs) ≡ leaf_types (nows ls) = cc in
    typed_at ls cs i l c others (omega (arith, h)) e (omega (arith, k)) f

abbrev IsSound : Rows → Type 0
IsSound c = IsColumn (rows_len c) c

pub sound_at : (cs : List Column) (i : ℕ) (c : Column) → AreSound (columns_seen cs) → i < length cs → c ≡ get_or cs i c → IsColumn (rows_len (column_view c)) (column_view c)
sound_at [] i c s h e = absurd (omega (arith, h))
sound_at (x ∷ cs) zero c s h e = subst (λ (y : Column). IsSound (column_view y)) (sym e) (All-head IsSound (column_view x) (columns_seen cs) s)
sound_at (x ∷ cs) (suc i) c s h e = sound_at cs i c (All-tail IsSound (column_view x) (columns_seen cs) s) (omega (arith, h)) e

pub type_at : (ls : List LeafState) (i : ℕ) (l : LeafState) → i < length ls → l ≡ get_or ls i l → slice_get (leaf_types (nows ls)) i ≡ Some (leaf_type l.now)
type_at [] i l h e = absurd (omega (arith, h))
type_at (x ∷ ls) zero l h e = ap (λ (s : LeafState). Some (leaf_type s.now)) (sym e)
type_at (x ∷ ls) (suc i) l h e = type_at ls i l (omega (arith, h)) e

-- ---- full chunks

pub filled_more : (ls : List LeafState) (cs : List Column) (i : ℕ) (l : LeafState) (c : Column) (made made' : List ChunkRows) (full : List Rows) → i < length ls → l ≡ get_or ls i l → i < length cs → c ≡ get_or cs i c
    → full ≡ full_chunks l.now.strategy (appended l.now.kept (column_view c)) → made' ≡ made ++ chunks_at i full
    → made' ++ filled_from (i + 1) (nows (drop (i + 1) ls)) (columns_seen (drop (i + 1) cs)) ≡ made ++ filled_from i (nows (drop i ls)) (columns_seen (drop i cs))
filled_more ls cs i l c made made' full h e k f is more =
    ap (λ xs. xs ++ filled_from (i + 1) (nows (drop (i + 1) ls)) (columns_seen (drop (i + 1) cs))) (more ∙ ap (λ x. made ++ chunks_at i x) is)
    ∙ append_assoc made (chunks_at i (full_chunks l.now.strategy (appended l.now.kept (column_view c)))) (filled_from (i + 1) (nows (drop (i + 1) ls)) (columns_seen (drop (i + 1) cs)))
    ∙ sym (ap₂ (λ (x : List LeafState) (y : List Column). made ++ filled_from i (nows x) (columns_seen y)) (next_state ls i l h e) (next_column cs i c k f))

pub filled_end : (ls : List LeafState) (cs : List Column) (i : ℕ) (made : List ChunkRows) → length ls ≤ i → made ++ filled_from i (nows (drop i ls)) (columns_seen (drop i cs)) ≡ made
filled_end ls cs i made h = ap (λ (x : List LeafState). made ++ filled_from i (nows x) (columns_seen (drop i cs))) (drop_all i ls h) ∙ append-nil made

pub chunks_typed : (types : List Dtype) (i : ℕ) (d : Dtype) (full : List Rows) → slice_get types i ≡ Some d → AllOfType d full → AreChunks types (chunks_at i full)
chunks_typed types i d [] e h = All-nil (IsChunk types)
chunks_typed types i d (c ∷ cs) e h =
    let here = All-head (IsOfType d) c cs h in
    All-cons (IsChunk types) (record { leaf = i; rows = c }) (chunks_at i cs) (record { sound = here.sound; typed = e ∙ ap Some (sym here.typed) }) (chunks_typed types i d cs e (All-tail (IsOfType d) c cs h))

pub chunks_sound : (ls : List LeafState) (i : ℕ) (l : LeafState) (made made' : List ChunkRows) (full : List Rows) → i < length ls → l ≡ get_or ls i l → AreChunks (leaf_types (nows ls)) made
    → AllOfType (leaf_type l.now) full → made' ≡ made ++ chunks_at i full → AreChunks (leaf_types (nows ls)) made'
chunks_sound ls i l made made' full h e s t more =
    subst (AreChunks (leaf_types (nows ls))) (sym more)
    (All-append (IsChunk (leaf_types (nows ls))) made (chunks_at i full) s (chunks_typed (leaf_types (nows ls)) i (leaf_type l.now) full (type_at ls i l h e) t))

-- ---- what is held then

pub grown_more : (now ls : List LeafState) (cs : List Column) (i : ℕ) (l l' : LeafState) (c : Column) → i < length now → i < length ls → l ≡ get_or ls i l → i < length cs → c ≡ get_or cs i c
    → l'.next ≡ grown_leaf l.now (column_view c)
    → nexts (take (i + 1) (set now i l')) ++ grown (nows (drop (i + 1) ls)) (columns_seen (drop (i + 1) cs)) ≡ nexts (take i now) ++ grown (nows (drop i ls)) (columns_seen (drop i cs))
grown_more now ls cs i l l' c g h e k f is =
    ap (λ (x : List LeafState). nexts x ++ grown (nows (drop (i + 1) ls)) (columns_seen (drop (i + 1) cs))) (take_more_set now i l' g)
    ∙ ap (λ x. x ++ grown (nows (drop (i + 1) ls)) (columns_seen (drop (i + 1) cs))) (map-append (λ (s : LeafState). s.next) (take i now) (l' ∷ []))
    ∙ append_assoc (nexts (take i now)) (l'.next ∷ []) (grown (nows (drop (i + 1) ls)) (columns_seen (drop (i + 1) cs)))
    ∙ ap (λ x. nexts (take i now) ++ x ∷ grown (nows (drop (i + 1) ls)) (columns_seen (drop (i + 1) cs))) is
    ∙ sym (ap₂ (λ (x : List LeafState) (y : List Column). nexts (take i now) ++ grown (nows x) (columns_seen y)) (next_state ls i l h e) (next_column cs i c k f))

pub grown_end : (now ls : List LeafState) (cs : List Column) (i : ℕ) → length now ≤ i → length ls ≤ i → nexts (take i now) ++ grown (nows (drop i ls)) (columns_seen (drop i cs)) ≡ nexts now
grown_end now ls cs i g h =
    ap₂ (λ (x y : List LeafState). nexts x ++ grown (nows y) (columns_seen (drop i cs))) (take_all i now g) (drop_all i ls h) ∙ append-nil (nexts now)

-- its types are the same
pub grown_typed : (ls : List Leaf) (cs : List Rows) → length cs ≡ length ls → leaf_types (grown ls cs) ≡ leaf_types ls
grown_typed [] cs e = refl
grown_typed (l ∷ ls) [] e = absurd (omega (arith, e))
grown_typed (l ∷ ls) (c ∷ cs) e =
    ap₂ (λ x y. x ∷ y) (part_type (cut l.strategy (appended l.kept c)).start (rows_len (appended l.kept c)) (appended l.kept c) ∙ appended_type l.kept c) (grown_typed ls cs (omega (arith, e)))

-- ---- a push that is settled

pub settled_more : (now ls : List LeafState) (i : ℕ) (l l' : LeafState) → i < length now → i < length ls → l ≡ get_or ls i l → l'.now ≡ l.next
    → nows (take (i + 1) (set now i l')) ++ nexts (drop (i + 1) ls) ≡ nows (take i now) ++ nexts (drop i ls)
settled_more now ls i l l' g h e is =
    ap (λ (x : List LeafState). nows x ++ nexts (drop (i + 1) ls)) (take_more_set now i l' g)
    ∙ ap (λ x. x ++ nexts (drop (i + 1) ls)) (map-append (λ (s : LeafState). s.now) (take i now) (l' ∷ []))
    ∙ append_assoc (nows (take i now)) (l'.now ∷ []) (nexts (drop (i + 1) ls))
    ∙ ap (λ x. nows (take i now) ++ x ∷ nexts (drop (i + 1) ls)) is
    ∙ sym (ap (λ (x : List LeafState). nows (take i now) ++ nexts x) (next_state ls i l h e))

pub settled_end : (now ls : List LeafState) (i : ℕ) → length now ≤ i → length ls ≤ i → nows (take i now) ++ nexts (drop i ls) ≡ nows now
settled_end now ls i g h = ap₂ (λ (x y : List LeafState). nows x ++ nexts y) (take_all i now g) (drop_all i ls h) ∙ append-nil (nows now)

-- ---- sizes

pub size_more : (ls : List LeafState) (i : ℕ) (l : LeafState) → i < length ls → l ≡ get_or ls i l → held_size (nows (drop i ls)) ≡ plain_size l.now.kept + held_size (nows (drop (i + 1) ls))
size_more ls i l h e = ap (λ (x : List LeafState). held_size (nows x)) (next_state ls i l h e) ∙ sum_by-cons (λ (x : Leaf). plain_size x.kept) l.now (nows (drop (i + 1) ls))

pub size_end : (ls : List LeafState) (i : ℕ) → length ls ≤ i → held_size (nows (drop i ls)) ≡ 0
size_end ls i h = ap (λ (x : List LeafState). held_size (nows x)) (drop_all i ls h)

-- ---- last chunks

pub rests_more : (ls : List LeafState) (i : ℕ) (l l' : LeafState) (made made' : List ChunkRows) (last : List Rows) → i < length ls → l ≡ get_or ls i l → l' ≡ l → last ≡ last_chunk l'.now.strategy l'.now.kept
    → made' ≡ made ++ chunks_at i last → made' ++ rests_from (i + 1) (nows (drop (i + 1) ls)) ≡ made ++ rests_from i (nows (drop i ls))
rests_more ls i l l' made made' last h e same is more =
    let here : last ≡ last_chunk l.now.strategy l.now.kept = is ∙ ap (λ (s : LeafState). last_chunk s.now.strategy s.now.kept) same in
    ap (λ xs. xs ++ rests_from (i + 1) (nows (drop (i + 1) ls))) (more ∙ ap (λ x. made ++ chunks_at i x) here)
    ∙ append_assoc made (chunks_at i (last_chunk l.now.strategy l.now.kept)) (rests_from (i + 1) (nows (drop (i + 1) ls)))
    ∙ sym (ap (λ (x : List LeafState). made ++ rests_from i (nows x)) (next_state ls i l h e))

pub rests_end : (ls : List LeafState) (i : ℕ) (made : List ChunkRows) → length ls ≤ i → made ++ rests_from i (nows (drop i ls)) ≡ made
rests_end ls i made h = ap (λ (x : List LeafState). made ++ rests_from i (nows x)) (drop_all i ls h) ∙ append-nil made

-- the columns of a push are as many as the leaves
pub push_typed : (ls : List Leaf) (cs : List Rows) (types : List Dtype) → leaf_types (grown ls cs) ≡ types → column_types cs ≡ leaf_types ls → types ≡ leaf_types ls
push_typed ls cs types e t = sym e ∙ grown_typed ls cs (sym (length-map cs dtype_of) ∙ ap length t ∙ length-map ls leaf_type)
