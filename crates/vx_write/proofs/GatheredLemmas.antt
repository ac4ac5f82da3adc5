-- What is told of columns, and of columns behind one another.
use Rattle.std.proofs.Common.{◌≡◌, ℕ, zero, suc, ◌+◌, ◌<◌, ◌≤◌, ◌^◌, Bool, true, false, List, [], ◌∷◌, ◌++◌, length, map, take, drop, get_or, refl, sym, ap, subst, ◌∙◌, arith, add-one, drop-cons, length-append}
use Rattle.std.specs.Prelude.{replicate, slice_set, Some, String, string_bytes}
use Rattle.std.specs.Global.{Global}
use Rattle.vx_data.specs.declared.dtype.DType.{DType}
use Rattle.vx_data.specs.declared.stats_set.Stat.{Stat}
use Rattle.vx_data.specs.Dtype.{Dtype, FieldList, bool, int, text, struct, no_fields, field, dtype_view, pairs_view as types_view}
use Rattle.vx_data.specs.Layout.{dtypes_of}
use Rattle.vx_data.specs.StatsTable.{columns_of}
use Rattle.vx_rows.specs.declared.column.Column.{Column}
use Rattle.vx_rows.specs.Parts.{appended, fields_appended}
use Rattle.vx_rows.specs.ReadRows.{no_rows, no_rows_each}
use Rattle.vx_rows.specs.Rows.{Rows, FieldRows, bools, ints, texts, structs, no_columns, column, column_view, pairs_view, rows_len, dtype_of, types_of, HasRows, AllHaveRows}
use Rattle.vx_rows.specs.RowStats.{Running, Summary, summary, stats_of}
use Rattle.vx_rows.proofs.ColumnLaws.{first-type, rest-types, fields-same, rows_are}
use Rattle.vx_write.specs.Gathered.{Counted, running, counted_fields, counted_columns, gathered, set_of, sets_of, file_stats, both, half_both, ArePair, ArePairs}

-- ---- no rows

pub empty_rows : (d : Dtype) → rows_len (no_rows d) ≡ 0
empty_rows (bool nullable) = refl
empty_rows (int ptype nullable) = refl
empty_rows (text nullable) = refl
empty_rows (struct fs nullable) = refl

mutual
  pub empty_type : (d : Dtype) → dtype_of (no_rows d) ≡ d
  empty_type (bool nullable) = refl
  empty_type (int ptype nullable) = refl
  empty_type (text nullable) = refl
  empty_type (struct fs nullable) = ap (λ ts. struct ts nullable) (empty_types fs)

  empty_types : (fs : FieldList) → types_of (no_rows_each fs) ≡ fs
  empty_types no_fields = refl
  empty_types (field name d fs) = ap (λ t. field name t (types_of (no_rows_each fs))) (empty_type d) ∙ ap (field name d) (empty_types fs)

mutual
  pub alone : (c : Rows) → appended (no_rows (dtype_of c)) c ≡ c
  alone (bools c) = refl
  alone (ints c) = refl
  alone (texts c) = refl
  alone (structs c cs) = ap (structs c) (all-alone cs)

  all-alone : (cs : FieldRows) → fields_appended (no_rows_each (types_of cs)) cs ≡ cs
  all-alone no_columns = refl
  all-alone (column name c cs) = ap (λ x. column name x (fields_appended (no_rows_each (types_of cs)) cs)) (alone c) ∙ ap (column name c) (all-alone cs)

-- ---- one column

pub running_is : (s : Running) (w : List Stat) (x : Counted) → s.wanted ≡ w → s.rows ≡ rows_len x.1 → s.seen ≡ summary x.0 x.1 → s ≡ running w x
running_is s w x wanted rows seen =
    ap (λ v. record { wanted = v; rows = s.rows; seen = s.seen }) wanted ∙ ap (λ n. record { wanted = w; rows = n; seen = s.seen }) rows ∙ ap (λ t. record { wanted = w; rows = rows_len x.1; seen = t }) seen

pub first_seen : (old new : Summary) (p : List Bool) (c : Rows) → ((d : Dtype) → old ≡ summary [] (no_rows d))
    → ((b : Rows) (q : List Bool) → length q ≡ rows_len b → dtype_of b ≡ dtype_of c → old ≡ summary q b → new ≡ summary (q ++ p) (appended b c)) → new ≡ summary p c
first_seen old new p c none more = more (no_rows (dtype_of c)) [] (sym (empty_rows (dtype_of c))) (empty_type (dtype_of c)) (none (dtype_of c)) ∙ ap (summary p) (alone c)

-- ---- fields

next : {A : Type 0} → (xs : List A) (i : ℕ) (x : A) → i < length xs → x ≡ get_or xs i x → drop i xs ≡ x ∷ drop (i + 1) xs
next xs i x lt is = rw (add-one, drop-cons xs i x, ← is) refl

pub next_field : (w : List Stat) (p : List Bool) (cs : List (String Global × Column)) (i : ℕ) (c : String Global × Column) → i < length cs → c ≡ get_or cs i c
    → map (running w) (counted_fields p (pairs_view (drop i cs))) ≡ running w (p, column_view c.1) ∷ map (running w) (counted_fields p (pairs_view (drop (i + 1) cs)))
next_field w p cs i c lt is = ap (λ xs. map (running w) (counted_fields p (pairs_view xs))) (next cs i c lt is)

pub next_rows : (n : ℕ) (cs : List (String Global × Column)) (i : ℕ) (c : String Global × Column) → i < length cs → c ≡ get_or cs i c
    → AllHaveRows n (pairs_view (drop i cs)) → HasRows n (column_view c.1) × AllHaveRows n (pairs_view (drop (i + 1) cs))
next_rows n cs i c lt is h = subst (λ xs. AllHaveRows n (pairs_view xs)) (next cs i c lt is) h

pub field_long : (p : List Bool) (cs : List (String Global × Column)) (i : ℕ) (c : String Global × Column) → i < length cs → c ≡ get_or cs i c
    → AllHaveRows (length p) (pairs_view (drop i cs)) → length p ≡ rows_len (column_view c.1)
field_long p cs i c lt is h = sym (rows_are (length p) (column_view c.1) (next_rows (length p) cs i c lt is h).0)

-- no rows of each field
pub next_empty : (w : List Stat) (fs : List (String Global × DType)) (i : ℕ) (f : String Global × DType) → i < length fs → f ≡ get_or fs i f
    → map (running w) (counted_fields [] (no_rows_each (types_view (drop i fs)))) ≡ running w ([], no_rows (dtype_view f.1)) ∷ map (running w) (counted_fields [] (no_rows_each (types_view (drop (i + 1) fs))))
next_empty w fs i f lt is = ap (λ xs. map (running w) (counted_fields [] (no_rows_each (types_view xs)))) (next fs i f lt is)

pub empty_is : (s : Running) (w : List Stat) (d : Dtype) → (s.wanted ≡ w) × (s.rows ≡ 0) → ((e : Dtype) → s.seen ≡ summary [] (no_rows e)) → s ≡ running w ([], no_rows d)
empty_is s w d h none = running_is s w ([], no_rows d) h.0 (h.1 ∙ sym (empty_rows d)) (none d)

-- ---- columns behind others

pub appended_length : (c d : Rows) → dtype_of c ≡ dtype_of d → rows_len (appended c d) ≡ rows_len c + rows_len d
appended_length (bools c) (bools d) t = length-append c.rows d.rows
appended_length (bools c) (ints d) t = cc
appended_length (bools c) (texts d) t = cc
appended_length (bools c) (structs d ds) t = cc
appended_length (ints c) (bools d) t = cc
appended_length (ints c) (ints d) t = length-append c.rows d.rows
appended_length (ints c) (texts d) t = cc
appended_length (ints c) (structs d ds) t = cc
appended_length (texts c) (bools d) t = cc
appended_length (texts c) (ints d) t = cc
appended_length (texts c) (texts d) t = length-append c.rows d.rows
appended_length (texts c) (structs d ds) t = cc
appended_length (structs c cs) (bools d) t = cc
appended_length (structs c cs) (ints d) t = cc
appended_length (structs c cs) (texts d) t = cc
appended_length (structs c cs) (structs d ds) t = length-append c.present d.present

pub merged_is : (old other new : Running) (w : List Stat) (a b : Counted) → ArePair a b → old ≡ running w a → other ≡ running w b → (new.wanted ≡ old.wanted) × (new.rows ≡ old.rows + other.rows)
    → ((c d : Rows) (p q : List Bool) → length p ≡ rows_len c → length q ≡ rows_len d → dtype_of c ≡ dtype_of d → old.seen ≡ summary p c → other.seen ≡ summary q d → new.seen ≡ summary (p ++ q) (appended c d))
    → new ≡ running w (both a b)
merged_is old other new w a b pair is more kept seen = running_is new w (both a b)
    (kept.0 ∙ ap (λ (r : Running). r.wanted) is)
    (kept.1 ∙ ap (λ (r : Running). r.rows + other.rows) is ∙ ap (λ (r : Running). rows_len a.1 + r.rows) more ∙ sym (appended_length a.1 b.1 pair.types))
    (seen a.1 b.1 a.0 b.0 pair.first pair.second pair.types (ap (λ (r : Running). r.seen) is) (ap (λ (r : Running). r.seen) more))

-- ---- all columns

pub half_all : (w : List Stat) (olds news : List Counted) → ArePairs olds news → half_both w (length news) olds news ≡ map (running w) olds
half_all w [] [] h = refl
half_all w [] (b ∷ news) h = absurd h
half_all w (a ∷ olds) [] h = absurd h
half_all w (a ∷ olds) (b ∷ news) h = ap (λ xs. running w a ∷ xs) (half_all w olds news h.1)

-- the one at a place is still alone, and is then behind the one there
pub half_at : (w : List Stat) (k : ℕ) (olds news : List Counted) (d : Running) (e : Counted) → ArePairs olds news → k < length news → get_or (half_both w (suc k) olds news) k d ≡ running w (get_or olds k e)
half_at w k [] [] d e h lt = absurd (omega (arith, lt))
half_at w k [] (b ∷ news) d e h lt = absurd h
half_at w k (a ∷ olds) [] d e h lt = absurd h
half_at w zero (a ∷ olds) (b ∷ news) d e h lt = refl
half_at w (suc k) (a ∷ olds) (b ∷ news) d e h lt = half_at w k olds news d e h.1 (omega (arith, lt))

pub half_set : (w : List Stat) (k : ℕ) (olds news : List Counted) (e : Counted) → ArePairs olds news → k < length news
    → slice_set (half_both w (suc k) olds news) k (running w (both (get_or olds k e) (get_or news k e))) ≡ half_both w k olds news
half_set w k [] [] e h lt = absurd (omega (arith, lt))
half_set w k [] (b ∷ news) e h lt = absurd h
half_set w k (a ∷ olds) [] e h lt = absurd h
half_set w zero (a ∷ olds) (b ∷ news) e h lt = ap (λ xs. running w (both a b) ∷ xs) refl
half_set w (suc k) (a ∷ olds) (b ∷ news) e h lt = ap (λ xs. running w a ∷ xs) (half_set w k olds news e h.1 (omega (arith, lt)))

pub pair_at : (k : ℕ) (olds news : List Counted) (e : Counted) → ArePairs olds news → k < length news → ArePair (get_or olds k e) (get_or news k e)
pair_at k [] [] e h lt = absurd (omega (arith, lt))
pair_at k [] (b ∷ news) e h lt = absurd h
pair_at k (a ∷ olds) [] e h lt = absurd h
pair_at zero (a ∷ olds) (b ∷ news) e h lt = h.0
pair_at (suc k) (a ∷ olds) (b ∷ news) e h lt = pair_at k olds news e h.1 (omega (arith, lt))

-- ---- rows behind rows

replicate-both : (m n : ℕ) → replicate m true ++ replicate n true ≡ replicate (m + n) true
replicate-both zero n = ap (λ k. replicate k true) (omega arith)
replicate-both (suc m) n = ap (λ xs. true ∷ xs) (replicate-both m n) ∙ ap (λ k. replicate k true) (let sum : suc (m + n) ≡ suc m + n = omega arith in sum)

fields-both : (w : List Stat) (p q : List Bool) (cs ds : FieldRows) → types_of cs ≡ types_of ds → half_both w 0 (counted_fields p cs) (counted_fields q ds) ≡ map (running w) (counted_fields (p ++ q) (fields_appended cs ds))
fields-both w p q no_columns no_columns t = refl
fields-both w p q no_columns (column name d ds) t = cc
fields-both w p q (column name c cs) no_columns t = cc
fields-both w p q (column name c cs) (column other d ds) t =
    ap (λ xs. running w (p ++ q, appended c d) ∷ xs) (fields-both w p q cs ds (rest-types name other (dtype_of c) (dtype_of d) (types_of cs) (types_of ds) t))

whole-both : (w : List Stat) (m n k : ℕ) (c : Rows) → k ≡ m + n → running w (replicate m true ++ replicate n true, c) ∷ [] ≡ running w (replicate k true, c) ∷ []
whole-both w m n k c is = ap (λ p. running w (p, c) ∷ []) (replicate-both m n ∙ ap (λ x. replicate x true) (sym is))

-- all of it is what is told of the rows behind those before
pub gathered_both : (w : List Stat) (c d : Rows) → dtype_of c ≡ dtype_of d → half_both w 0 (counted_columns c) (counted_columns d) ≡ gathered w (appended c d)
gathered_both w (bools c) (bools d) t = whole-both w (length c.rows) (length d.rows) (length (c.rows ++ d.rows)) (bools (record { nullable = c.nullable; rows = c.rows ++ d.rows })) (length-append c.rows d.rows)
gathered_both w (bools c) (ints d) t = cc
gathered_both w (bools c) (texts d) t = cc
gathered_both w (bools c) (structs d ds) t = cc
gathered_both w (ints c) (bools d) t = cc
gathered_both w (ints c) (ints d) t = whole-both w (length c.rows) (length d.rows) (length (c.rows ++ d.rows)) (ints (record { ptype = c.ptype; nullable = c.nullable; rows = c.rows ++ d.rows })) (length-append c.rows d.rows)
gathered_both w (ints c) (texts d) t = cc
gathered_both w (ints c) (structs d ds) t = cc
gathered_both w (texts c) (bools d) t = cc
gathered_both w (texts c) (ints d) t = cc
gathered_both w (texts c) (texts d) t = whole-both w (length c.rows) (length d.rows) (length (c.rows ++ d.rows)) (texts (record { nullable = c.nullable; rows = c.rows ++ d.rows })) (length-append c.rows d.rows)
gathered_both w (texts c) (structs d ds) t = cc
gathered_both w (structs c cs) (bools d) t = cc
gathered_both w (structs c cs) (ints d) t = cc
gathered_both w (structs c cs) (texts d) t = cc
gathered_both w (structs c cs) (structs d ds) t = fields-both w c.present d.present cs ds (fields-same (types_of cs) (types_of ds) c.nullable d.nullable t)

length-true : (n : ℕ) → length (replicate n true) ≡ n
length-true zero = refl
length-true (suc n) = ap suc (length-true n)

field-pairs : (p q : List Bool) (cs ds : FieldRows) → types_of cs ≡ types_of ds → AllHaveRows (length p) cs → AllHaveRows (length q) ds → length p + length q < 2 ^ 64
    → ArePairs (counted_fields p cs) (counted_fields q ds)
field-pairs p q no_columns no_columns t h k lt = tt
field-pairs p q no_columns (column name d ds) t h k lt = cc
field-pairs p q (column name c cs) no_columns t h k lt = cc
field-pairs p q (column name c cs) (column other d ds) t h k lt =
    let m = rows_are (length p) c h.0 in
    let n = rows_are (length q) d k.0 in (
      record {
        first = sym m;
        second = sym n;
        types = first-type name other (dtype_of c) (dtype_of d) (types_of cs) (types_of ds) t;
        few = omega (arith, m, n, lt);
      },
      field-pairs p q cs ds (rest-types name other (dtype_of c) (dtype_of d) (types_of cs) (types_of ds) t) h.1 k.1 lt,
    )

whole-pair : (c d : Rows) → dtype_of c ≡ dtype_of d → rows_len c + rows_len d < 2 ^ 64 → ArePairs ((replicate (rows_len c) true, c) ∷ []) ((replicate (rows_len d) true, d) ∷ [])
whole-pair c d t lt = (record { first = length-true (rows_len c); second = length-true (rows_len d); types = t; few = lt }, tt)

pub pairs_of : (c d : Rows) → dtype_of c ≡ dtype_of d → HasRows (rows_len c) c → HasRows (rows_len d) d → rows_len c + rows_len d < 2 ^ 64 → ArePairs (counted_columns c) (counted_columns d)
pairs_of (bools c) (bools d) t h k lt = whole-pair (bools c) (bools d) t lt
pairs_of (bools c) (ints d) t h k lt = cc
pairs_of (bools c) (texts d) t h k lt = cc
pairs_of (bools c) (structs d ds) t h k lt = cc
pairs_of (ints c) (bools d) t h k lt = cc
pairs_of (ints c) (ints d) t h k lt = whole-pair (ints c) (ints d) t lt
pairs_of (ints c) (texts d) t h k lt = cc
pairs_of (ints c) (structs d ds) t h k lt = cc
pairs_of (texts c) (bools d) t h k lt = cc
pairs_of (texts c) (ints d) t h k lt = cc
pairs_of (texts c) (texts d) t h k lt = whole-pair (texts c) (texts d) t lt
pairs_of (texts c) (structs d ds) t h k lt = cc
pairs_of (structs c cs) (bools d) t h k lt = cc
pairs_of (structs c cs) (ints d) t h k lt = cc
pairs_of (structs c cs) (texts d) t h k lt = cc
pairs_of (structs c cs) (structs d ds) t h k lt = field-pairs c.present d.present cs ds (fields-same (types_of cs) (types_of ds) c.nullable d.nullable t) h.1 k.1 lt

-- ---- the sets

map-twice : {A B C : Type 0} (f : B → C) (g : A → B) (xs : List A) → map f (map g xs) ≡ map (λ x. f (g x)) xs
map-twice f g [] = refl
map-twice f g (x ∷ xs) = ap (λ ys. f (g x) ∷ ys) (map-twice f g xs)

pub sets_are : (w : List Stat) (c : Rows) → map (λ (r : Running). stats_of r.wanted r.seen) (gathered w c) ≡ sets_of w c
sets_are w c = map-twice (λ (r : Running). stats_of r.wanted r.seen) (running w) (counted_columns c)

fields-many : (w : List Stat) (p : List Bool) (cs : FieldRows) → length (map (set_of w) (counted_fields p cs)) ≡ length (dtypes_of (types_of cs))
fields-many w p no_columns = refl
fields-many w p (column name c cs) = ap suc (fields-many w p cs)

pub as_many_sets : (w : List Stat) (c : Rows) → length (sets_of w c) ≡ length (columns_of (dtype_of c))
as_many_sets w (bools c) = refl
as_many_sets w (ints c) = refl
as_many_sets w (texts c) = refl
as_many_sets w (structs c cs) = fields-many w c.present cs

-- ---- merging from the last column on

halves-long : (w : List Stat) (k : ℕ) (olds news : List Counted) → length (half_both w k olds news) ≡ length olds
halves-long w k [] news = refl
halves-long w k (a ∷ olds) [] = ap suc (halves-long w k olds [])
halves-long w zero (a ∷ olds) (b ∷ news) = ap suc (halves-long w zero olds news)
halves-long w (suc k) (a ∷ olds) (b ∷ news) = ap suc (halves-long w k olds news)

pairs-long : (olds news : List Counted) → ArePairs olds news → length olds ≡ length news
pairs-long [] [] h = refl
pairs-long [] (b ∷ news) h = absurd h
pairs-long (a ∷ olds) [] h = absurd h
pairs-long (a ∷ olds) (b ∷ news) h = ap suc (pairs-long olds news h.1)

map-long : (w : List Stat) (xs : List Counted) → length (map (running w) xs) ≡ length xs
map-long w [] = refl
map-long w (x ∷ xs) = ap suc (map-long w xs)

take-all : (xs : List Counted) → take (length xs) xs ≡ xs
take-all [] = refl
take-all (x ∷ xs) = ap (λ ys. x ∷ ys) (take-all xs)

pub merge_begins : (w : List Stat) (olds news : List Counted) (stats more : List Running) → ArePairs olds news → stats ≡ map (running w) olds → more ≡ map (running w) news
    → (stats ≡ half_both w (length more) olds news) × (more ≡ map (running w) (take (length more) news))
merge_begins w olds news stats more h is rest =
    let size : length more ≡ length news = ap length rest ∙ map-long w news in
    (is ∙ sym (ap (λ n. half_both w n olds news) size ∙ half_all w olds news h), rest ∙ sym (ap (λ n. map (running w) (take n news)) size ∙ ap (map (running w)) (take-all news)))

abbrev nothing : Counted
nothing = ([], no_rows (bool false))

-- the last of the columns that are still to come
record Last (w : List Stat) (front : List Running) (last : Running) (news : List Counted) : Type 0 where
  inside : length front < length news
  is : last ≡ running w (get_or news (length front) nothing)
  rest : front ≡ map (running w) (take (length front) news)

last-is : (w : List Stat) (front : List Running) (last : Running) (k : ℕ) (news : List Counted) → front ++ last ∷ [] ≡ map (running w) (take k news) → Last w front last news
last-is w [] last zero [] h = absurd cc
last-is w [] last (suc k) [] h = absurd cc
last-is w [] last zero (b ∷ news) h = absurd cc
last-is w [] last (suc k) (b ∷ news) h = record { inside = omega arith; is = cc; rest = refl }
last-is w (f ∷ front) last zero [] h = absurd cc
last-is w (f ∷ front) last (suc k) [] h = absurd cc
last-is w (f ∷ front) last zero (b ∷ news) h = absurd cc
last-is w (f ∷ front) last (suc k) (b ∷ news) h =
    let more : front ++ last ∷ [] ≡ map (running w) (take k news) = cc in
    let first : f ≡ running w b = cc in
    let x = last-is w front last k news more in
    record { inside = omega (arith, x.inside); is = x.is; rest = ap (λ y. y ∷ front) first ∙ ap (λ ys. running w b ∷ ys) x.rest }

-- what a turn of merging needs, and gives
pub record Turn (w : List Stat) (olds news : List Counted) (stats : List Running) (front : List Running) (last : Running) : Type 0 where
  pub old : Counted
  pub new : Counted
  pub pair : ArePair old new
  pub inside : length front < length stats
  pub alone : get_or stats (length front) (running w old) ≡ running w old
  pub more : last ≡ running w new
  pub after : slice_set stats (length front) (running w (both old new)) ≡ half_both w (length front) olds news
  pub rest : front ≡ map (running w) (take (length front) news)

pub merge_turn : (w : List Stat) (olds news : List Counted) (stats more front : List Running) (last : Running) → ArePairs olds news → stats ≡ half_both w (length more) olds news
    → more ≡ map (running w) (take (length more) news) → more ≡ front ++ last ∷ [] → Turn w olds news stats front last
merge_turn w olds news stats more front last h is rest split =
    let x = last-is w front last (length more) news (sym split ∙ rest) in
    let size : length more ≡ suc (length front) = omega (arith, ap length split, length-append front (last ∷ [])) in
    let now : stats ≡ half_both w (suc (length front)) olds news = is ∙ ap (λ n. half_both w n olds news) size in
    let old = get_or olds (length front) nothing in
    record {
      old = old;
      new = get_or news (length front) nothing;
      pair = pair_at (length front) olds news nothing h x.inside;
      inside = omega (arith, x.inside, ap length now, halves-long w (suc (length front)) olds news, pairs-long olds news h);
      alone = ap (λ ys. get_or ys (length front) (running w old)) now ∙ half_at w (length front) olds news (running w old) nothing h x.inside;
      more = x.is;
      after = ap (λ ys. slice_set ys (length front) (running w (both old (get_or news (length front) nothing)))) now ∙ half_set w (length front) olds news nothing h x.inside;
      rest = x.rest;
    }

-- some statistics are wanted
pub some_stats : (w : List Stat) (d : Dtype) (c : Rows) → (w ≡ [] → ⊥) → file_stats w d c ≡ Some (record { sets = sets_of w c; dtypes = columns_of d })
some_stats [] d c h = absurd (h refl)
some_stats (stat ∷ more) d c h = refl
