-- Columns that are put behind one another, and zipped to structs.
use Rattle.std.proofs.Common.{◌≡◌, ℕ, zero, suc, ◌+◌, ◌<◌, ◌≤◌, Bool, true, false, List, [], ◌∷◌, ◌++◌, length, map, get_or, drop, Option, Some, None, refl, ap, sym, ◌∙◌, subst, arith, append_assoc, add-one, drop-cons}
use Rattle.std.specs.Global.{Global}
use Rattle.std.specs.Prelude.{String, string_bytes, ◌==◌, ◌&&◌, replicate, sum_by, is_some, unwrap_or, slice_index_or}
use Rattle.std.specs.List.{list_all, AllByRecursion}
use Rattle.std.specs.Option.{option_map}
use Rattle.std.proofs.lemmas.List.{append-nil, drop_all}
use Rattle.std.proofs.lemmas.List.Sums.{sum_by-cons}
use Rattle.std.proofs.lemmas.Bool.{eqb-true}
use Rattle.std.proofs.lemmas.List.{length-map, length-replicate}
use Rattle.vx_data.specs.declared.layout_kind.LayoutKind.TheVariants.{Chunked, Struct}
use Rattle.vx_data.specs.declared.dtype.DType.{DType}
use Rattle.vx_data.specs.Dtype.{Dtype, FieldList, bool, int, text, struct, no_fields, field, dtype_view, pairs_view as types_view}
use Rattle.vx_data.specs.Layout.{dtypes_of, validity}
use Rattle.vx_rows.specs.declared.column.Column.{Column}
use Rattle.vx_rows.specs.Columns.{Bools, Structs, may_hold, are_there}
use Rattle.vx_rows.specs.LayoutRows.{joined, zipped}
use Rattle.vx_rows.specs.Rows.{Rows, FieldRows, bools, ints, texts, structs, no_columns, column, columns_of as fields_in_order, column_view, viewed, dtype_of, types_of, rows_len, AllHaveRows, IsColumn, AreColumns}
use Rattle.vx_rows.specs.Parts.{part, appended, fields_appended}
use Rattle.vx_rows.specs.Trees.{before}
use Rattle.vx_rows.specs.ReadRows.{no_rows, no_rows_each}
use Rattle.vx_file.specs.Scans.{seen, AreChunks, AreFields, AreColumnsOf, AreParts, structs_over}
use Rattle.vx_rows.proofs.ColumnLaws.{appended_type, appended_is_column, column_rows, columns_rows, all-kept}

-- ---- columns behind one another

mutual
  -- no rows before others
  pub none_before : (c : Rows) → appended (no_rows (dtype_of c)) c ≡ c
  none_before (bools c) = refl
  none_before (ints c) = refl
  none_before (texts c) = refl
  none_before (structs c cs) = ap (structs c) (none_before_fields cs)

  none_before_fields : (cs : FieldRows) → fields_appended (no_rows_each (types_of cs)) cs ≡ cs
  none_before_fields no_columns = refl
  none_before_fields (column name c cs) =
      ap (λ (x : Rows). column name x (fields_appended (no_rows_each (types_of cs)) cs)) (none_before c) ∙ ap (column name c) (none_before_fields cs)

mutual
  -- no rows behind others
  pub none_behind : (c : Rows) → appended c (no_rows (dtype_of c)) ≡ c
  none_behind (bools c) = ap (λ rows. bools (record { nullable = c.nullable; rows = rows })) (append-nil c.rows)
  none_behind (ints c) = ap (λ rows. ints (record { ptype = c.ptype; nullable = c.nullable; rows = rows })) (append-nil c.rows)
  none_behind (texts c) = ap (λ rows. texts (record { nullable = c.nullable; rows = rows })) (append-nil c.rows)
  none_behind (structs c cs) =
      ap (λ present. structs (record { nullable = c.nullable; present = present }) (fields_appended cs (no_rows_each (types_of cs)))) (append-nil c.present)
      ∙ ap (structs c) (none_behind_fields cs)

  none_behind_fields : (cs : FieldRows) → fields_appended cs (no_rows_each (types_of cs)) ≡ cs
  none_behind_fields no_columns = refl
  none_behind_fields (column name c cs) =
      ap (λ (x : Rows). column name x (fields_appended cs (no_rows_each (types_of cs)))) (none_behind c) ∙ ap (column name c) (none_behind_fields cs)

first-type : (a b : List ℕ) (c d : Dtype) (cs ds : FieldList) → field a c cs ≡ field b d ds → c ≡ d
first-type a b c d cs ds e = cc

rest-types : (a b : List ℕ) (c d : Dtype) (cs ds : FieldList) → field a c cs ≡ field b d ds → cs ≡ ds
rest-types a b c d cs ds e = cc

field-types : (cs ds : FieldList) (a b : Bool) → struct cs a ≡ struct ds b → cs ≡ ds
field-types cs ds a b e = cc

mutual
  -- of three columns the first two, which have one type, may be joined first
  pub appended_assoc : (a b c : Rows) → dtype_of a ≡ dtype_of b → appended (appended a b) c ≡ appended a (appended b c)
  appended_assoc (bools a) (bools b) (bools c) e = ap (λ rows. bools (record { nullable = a.nullable; rows = rows })) (append_assoc a.rows b.rows c.rows)
  appended_assoc (bools a) (bools b) (ints c) e = refl
  appended_assoc (bools a) (bools b) (texts c) e = refl
  appended_assoc (bools a) (bools b) (structs c cs) e = refl
  appended_assoc (bools a) (ints b) c e = cc
  appended_assoc (bools a) (texts b) c e = cc
  appended_assoc (bools a) (structs b bs) c e = cc
  appended_assoc (ints a) (ints b) (ints c) e = ap (λ rows. ints (record { ptype = a.ptype; nullable = a.nullable; rows = rows })) (append_assoc a.rows b.rows c.rows)
  appended_assoc (ints a) (ints b) (bools c) e = refl
  appended_assoc (ints a) (ints b) (texts c) e = refl
  appended_assoc (ints a) (ints b) (structs c cs) e = refl
  appended_assoc (ints a) (bools b) c e = cc
  appended_assoc (ints a) (texts b) c e = cc
  appended_assoc (ints a) (structs b bs) c e = cc
  appended_assoc (texts a) (texts b) (texts c) e = ap (λ rows. texts (record { nullable = a.nullable; rows = rows })) (append_assoc a.rows b.rows c.rows)
  appended_assoc (texts a) (texts b) (bools c) e = refl
  appended_assoc (texts a) (texts b) (ints c) e = refl
  appended_assoc (texts a) (texts b) (structs c cs) e = refl
  appended_assoc (texts a) (bools b) c e = cc
  appended_assoc (texts a) (ints b) c e = cc
  appended_assoc (texts a) (structs b bs) c e = cc
  appended_assoc (structs a as_) (structs b bs) (structs c cs) e =
      ap (λ present. structs (record { nullable = a.nullable; present = present }) (fields_appended (fields_appended as_ bs) cs)) (append_assoc a.present b.present c.present)
      ∙ ap (structs (record { nullable = a.nullable; present = a.present ++ (b.present ++ c.present) })) (fields_appended_assoc as_ bs cs (field-types (types_of as_) (types_of bs) a.nullable b.nullable e))
  appended_assoc (structs a as_) (structs b bs) (bools c) e = refl
  appended_assoc (structs a as_) (structs b bs) (ints c) e = refl
  appended_assoc (structs a as_) (structs b bs) (texts c) e = refl
  appended_assoc (structs a as_) (bools b) c e = cc
  appended_assoc (structs a as_) (ints b) c e = cc
  appended_assoc (structs a as_) (texts b) c e = cc

  fields_appended_assoc : (as_ bs cs : FieldRows) → types_of as_ ≡ types_of bs → fields_appended (fields_appended as_ bs) cs ≡ fields_appended as_ (fields_appended bs cs)
  fields_appended_assoc no_columns no_columns no_columns e = refl
  fields_appended_assoc no_columns no_columns (column k c cs) e = refl
  fields_appended_assoc no_columns (column n b bs) cs e = cc
  fields_appended_assoc (column m a as_) no_columns cs e = cc
  fields_appended_assoc (column m a as_) (column n b bs) no_columns e = refl
  fields_appended_assoc (column m a as_) (column n b bs) (column k c cs) e =
      ap (λ (x : Rows). column m x (fields_appended (fields_appended as_ bs) cs)) (appended_assoc a b c (first-type m n (dtype_of a) (dtype_of b) (types_of as_) (types_of bs) e))
      ∙ ap (column m (appended a (appended b c))) (fields_appended_assoc as_ bs cs (rest-types m n (dtype_of a) (dtype_of b) (types_of as_) (types_of bs) e))

-- ---- chunks

mutual
  none_type : (d : Dtype) → dtype_of (no_rows d) ≡ d
  none_type (bool nullable) = refl
  none_type (int p nullable) = refl
  none_type (text nullable) = refl
  none_type (struct fs nullable) = ap (λ gs. struct gs nullable) (none_types fs)

  none_types : (fs : FieldList) → types_of (no_rows_each fs) ≡ fs
  none_types no_fields = refl
  none_types (field name d fs) = ap (λ t. field name t (types_of (no_rows_each fs))) (none_type d) ∙ ap (field name d) (none_types fs)

or-true : (b : Bool) → may_hold {A = Bool} b [] ≡ true
or-true true = refl
or-true false = refl

all-there : (b : Bool) → are_there b [] ≡ true
all-there true = refl
all-there false = refl

mutual
  none_sound : (d : Dtype) → IsColumn 0 (no_rows d)
  none_sound (bool nullable) = (refl, or-true nullable)
  none_sound (int p nullable) = (refl, or-true nullable, λ i d l. absurd (omega (arith, l)))
  none_sound (text nullable) = (refl, or-true nullable, λ i d l. absurd (omega (arith, l)))
  none_sound (struct fs nullable) = (refl, all-there nullable, none_sounds fs)

  none_sounds : (fs : FieldList) → AreColumns 0 (no_rows_each fs)
  none_sounds no_fields = tt
  none_sounds (field name d fs) = (none_sound d, none_sounds fs)

pub joined_type : (d : Dtype) (cs : List Rows) → AreChunks d cs → dtype_of (joined d cs) ≡ d
joined_type d [] h = none_type d
joined_type d (c ∷ cs) h = appended_type c (joined d cs) ∙ h.0.0

pub joined_sound : (d : Dtype) (cs : List Rows) → AreChunks d cs → IsColumn (sum_by rows_len cs) (joined d cs)
joined_sound d [] h = none_sound d
joined_sound d (c ∷ cs) h =
    subst (λ n. IsColumn n (appended c (joined d cs))) (sym (sum_by-cons rows_len c cs))
    (appended_is_column (rows_len c) (sum_by rows_len cs) c (joined d cs) (h.0.0 ∙ sym (joined_type d cs h.1)) h.0.1 (joined_sound d cs h.1))

-- the chunks in front are joined, and those behind are to be
pub record Joins (d : Dtype) (all rest : List Rows) (front : Rows) : Type 0 where
  pub value : appended front (joined d rest) ≡ joined d all
  pub typed : dtype_of front ≡ d
  pub chunks : AreChunks d rest

pub joins_none : (d : Dtype) (all : List Rows) (front : Rows) → AreChunks d all → front ≡ no_rows d → dtype_of front ≡ d → Joins d all all front
joins_none d all front h e t = record {
  value = ap (λ (x : Rows). appended x (joined d all)) e ∙ subst (λ (t : Dtype). appended (no_rows t) (joined d all) ≡ joined d all) (joined_type d all h) (none_before (joined d all));
  typed = t;
  chunks = h;
}

pub joins_more : (d : Dtype) (all rest : List Rows) (c front next : Rows) → Joins d all (c ∷ rest) front → next ≡ appended front (part 0 (rows_len c) c) → Joins d all rest next
joins_more d all rest c front next j e =
    let whole = all-kept c (rows_len c) (column_rows (rows_len c) c j.chunks.0.1) in
    let grown : next ≡ appended front c = e ∙ ap (appended front) whole in
    record {
      value = ap (λ (x : Rows). appended x (joined d rest)) grown ∙ appended_assoc front c (joined d rest) (j.typed ∙ sym j.chunks.0.0) ∙ j.value;
      typed = ap dtype_of grown ∙ appended_type front c ∙ j.typed;
      chunks = j.chunks.1;
    }

pub joins_all : (d : Dtype) (all : List Rows) (front : Rows) → Joins d all [] front → front ≡ joined d all
joins_all d all front j = sym (subst (λ (t : Dtype). appended front (no_rows t) ≡ front) j.typed (none_behind front)) ∙ j.value

-- one chunk more behind those that are joined
joined_behind : (d : Dtype) (cs : List Rows) (c : Rows) → AreChunks d cs → dtype_of c ≡ d → appended (joined d cs) c ≡ joined d (cs ++ c ∷ [])
joined_behind d [] c h t = subst (λ (t : Dtype). appended (no_rows t) c ≡ appended c (no_rows t)) t (none_before c ∙ sym (none_behind c))
joined_behind d (x ∷ xs) c h t =
    appended_assoc x (joined d xs) c (h.0.0 ∙ sym (joined_type d xs h.1)) ∙ ap (appended x) (joined_behind d xs c h.1 t)

chunks_behind : (d : Dtype) (cs : List Rows) (c : Rows) → AreChunks d cs → (dtype_of c ≡ d) × IsColumn (rows_len c) c → AreChunks d (cs ++ c ∷ [])
chunks_behind d [] c h x = (x, tt)
chunks_behind d (y ∷ ys) c h x = (h.0, chunks_behind d ys c h.1 x)

-- the rows of the chunks so far
pub record IsJoined (d : Dtype) (cs : List Rows) (rows : Rows) : Type 0 where
  pub value : rows ≡ joined d cs
  pub typed : dtype_of rows ≡ d
  pub chunks : AreChunks d cs

pub joined_none : (d : Dtype) (rows : Rows) → rows ≡ no_rows d → dtype_of rows ≡ d → IsJoined d [] rows
joined_none d rows e t = record { value = e; typed = t; chunks = tt }

pub joined_more : (d : Dtype) (cs : List Rows) (c before now : Rows) → IsJoined d cs before → dtype_of c ≡ d → IsColumn (rows_len c) c → now ≡ appended before (part 0 (rows_len c) c)
    → IsJoined d (cs ++ c ∷ []) now
joined_more d cs c before now j t s e =
    let whole = all-kept c (rows_len c) (column_rows (rows_len c) c s) in
    let grown : now ≡ appended before c = e ∙ ap (appended before) whole in
    record {
      value = grown ∙ ap (λ (x : Rows). appended x c) j.value ∙ joined_behind d cs c j.chunks t;
      typed = ap dtype_of grown ∙ appended_type before c ∙ j.typed;
      chunks = chunks_behind d cs c j.chunks (t, s);
    }

some-same : {A : Type 0} → (x y : A) → Some x ≡ Some y → x ≡ y
some-same x y e = cc

first-same : {A : Type 0} → (x y : A) (xs ys : List A) → x ∷ xs ≡ y ∷ ys → x ≡ y
first-same x y xs ys e = cc

rest-same : {A : Type 0} → (x y : A) (xs ys : List A) → x ∷ xs ≡ y ∷ ys → xs ≡ ys
rest-same x y xs ys e = cc

chunks-of : (d : Dtype) (cs : List Rows) → replicate (length cs) d ≡ map dtype_of cs → AllByRecursion (λ c. IsColumn (rows_len c) c) cs → AreChunks d cs
chunks-of d [] e h = tt
chunks-of d (c ∷ cs) e h =
    ((sym (first-same d (dtype_of c) (replicate (length cs) d) (map dtype_of cs) e), h.0), chunks-of d cs (rest-same d (dtype_of c) (replicate (length cs) d) (map dtype_of cs) e) h.1)

pub chunks_are : (d : Dtype) (n : ℕ) (cs : List Rows) → AreParts Chunked d n cs → AreChunks d cs
chunks_are d n cs p = chunks-of d cs (some-same (replicate (length cs) d) (map dtype_of cs) p.dtypes) p.sound

pub chunks_sum : (d : Dtype) (n : ℕ) (cs : List Rows) → AreParts Chunked d n cs → n ≡ sum_by rows_len cs
chunks_sum d n cs p = eqb-true n (sum_by rows_len cs) p.rows

-- ---- fields

and-first : (a b : Bool) → (a && b) ≡ true → a ≡ true
and-first true b h = refl
and-first false b h = h

and-rest : (a b : Bool) → (a && b) ≡ true → b ≡ true
and-rest true b h = h
and-rest false b h = cc

long-column : (n : ℕ) (c : Rows) → (n == rows_len c) ≡ true → IsColumn (rows_len c) c → IsColumn n c
long-column n c e h = subst (λ k. IsColumn k c) (sym (eqb-true n (rows_len c) e)) h

fields-of : (n : ℕ) (fs : FieldList) (cs : List Rows) → dtypes_of fs ≡ map dtype_of cs → list_all (λ c. n == rows_len c) cs ≡ true → AllByRecursion (λ c. IsColumn (rows_len c) c) cs → AreFields n fs cs
fields-of n no_fields [] e l h = tt
fields-of n no_fields (c ∷ cs) e l h = cc
fields-of n (field name d fs) [] e l h = cc
fields-of n (field name d fs) (c ∷ cs) e l h = (
  (sym (first-same d (dtype_of c) (dtypes_of fs) (map dtype_of cs) e), long-column n c (and-first (n == rows_len c) (list_all (λ c. n == rows_len c) cs) l) h.0),
  fields-of n fs cs (rest-same d (dtype_of c) (dtypes_of fs) (map dtype_of cs) e) (and-rest (n == rows_len c) (list_all (λ c. n == rows_len c) cs) l) h.1,
)

columns-of : (fs : FieldList) (nullable : Bool) (n : ℕ) (cs : List Rows) → validity nullable ++ dtypes_of fs ≡ map dtype_of cs → list_all (λ c. n == rows_len c) cs ≡ true
    → AllByRecursion (λ c. IsColumn (rows_len c) c) cs → AreColumnsOf (struct fs nullable) n cs
columns-of fs true n [] e l h = cc
columns-of fs true n (c ∷ cs) e l h = (
  (sym (first-same (bool false) (dtype_of c) (dtypes_of fs) (map dtype_of cs) e), long-column n c (and-first (n == rows_len c) (list_all (λ c. n == rows_len c) cs) l) h.0),
  fields-of n fs cs (rest-same (bool false) (dtype_of c) (dtypes_of fs) (map dtype_of cs) e) (and-rest (n == rows_len c) (list_all (λ c. n == rows_len c) cs) l) h.1,
)
columns-of fs false n cs e l h = fields-of n fs cs e l h

pub columns_are : (d : Dtype) (n : ℕ) (cs : List Rows) → AreParts Struct d n cs → AreColumnsOf d n cs
columns_are (struct fs nullable) n cs p = columns-of fs nullable n cs (some-same (validity nullable ++ dtypes_of fs) (map dtype_of cs) p.dtypes) p.rows p.sound
columns_are (bool nullable) n cs p = absurd (none-some p.dtypes)
  where
    none-some : ◌≡◌ {A = Option (List Dtype)} None (Some (map dtype_of cs)) → ⊥
    none-some e = cc
columns_are (int q nullable) n cs p = absurd (none-some p.dtypes)
  where
    none-some : ◌≡◌ {A = Option (List Dtype)} None (Some (map dtype_of cs)) → ⊥
    none-some e = cc
columns_are (text nullable) n cs p = absurd (none-some p.dtypes)
  where
    none-some : ◌≡◌ {A = Option (List Dtype)} None (Some (map dtype_of cs)) → ⊥
    none-some e = cc

some-map : {A B : Type 0} → (f : A → B) (o : Option A) → is_some (option_map f o) ≡ is_some o
some-map f None = refl
some-map f (Some x) = refl

pub fields_zipped : (n : ℕ) (fs : FieldList) (cs : List Rows) → AreFields n fs cs → is_some (zipped fs cs) ≡ true
fields_zipped n no_fields [] h = refl
fields_zipped n no_fields (c ∷ cs) h = absurd h
fields_zipped n (field name d fs) [] h = absurd h
fields_zipped n (field name d fs) (c ∷ cs) h = some-map (column name c) (zipped fs cs) ∙ fields_zipped n fs cs h.1

-- columns of fields, once they are under their names
abbrev Named : ℕ → FieldList → FieldRows → Type 0
Named n fs x = (types_of x ≡ fs) × AreColumns n x

named-more : (n : ℕ) (name : List ℕ) (d : Dtype) (fs : FieldList) (c : Rows) (o : Option FieldRows) (x : FieldRows) → dtype_of c ≡ d → IsColumn n c
    → ((y : FieldRows) → o ≡ Some y → Named n fs y) → option_map (column name c) o ≡ Some x → Named n (field name d fs) x
named-more n name d fs c None x t h more e = absurd (none-some e)
  where
    none-some : ◌≡◌ {A = Option FieldRows} None (Some x) → ⊥
    none-some e = cc
named-more n name d fs c (Some y) x t h more e =
    let rest = more y refl in
    subst (Named n (field name d fs)) (some-same (column name c y) x e) (ap (λ u. field name u (types_of y)) t ∙ ap (field name d) rest.0, (h, rest.1))

pub zipped_named : (n : ℕ) (fs : FieldList) (cs : List Rows) (x : FieldRows) → AreFields n fs cs → zipped fs cs ≡ Some x → (types_of x ≡ fs) × AreColumns n x
zipped_named n no_fields [] x h e = subst (Named n no_fields) (some-same no_columns x e) (refl, tt)
zipped_named n no_fields (c ∷ cs) x h e = absurd h
zipped_named n (field name d fs) [] x h e = absurd h
zipped_named n (field name d fs) (c ∷ cs) x h e = named-more n name d fs c (zipped fs cs) x h.0.0 h.0.1 (λ y. zipped_named n fs cs y h.1) e

pub all_there : (n : ℕ) → list_all (λ b. b) (replicate n true) ≡ true
all_there zero = refl
all_there (suc n) = all_there n

structs-typed : (n : ℕ) (fs : FieldList) (s : Structs) (o : Option FieldRows) (x : Rows) → length s.present ≡ n → are_there s.nullable s.present ≡ true
    → ((y : FieldRows) → o ≡ Some y → Named n fs y) → option_map (structs s) o ≡ Some x → (dtype_of x ≡ struct fs s.nullable) × IsColumn n x
structs-typed n fs s None x l t more e = absurd (none-some e)
  where
    none-some : ◌≡◌ {A = Option Rows} None (Some x) → ⊥
    none-some e = cc
structs-typed n fs s (Some y) x l t more e =
    let rest = more y refl in
    subst (λ (c : Rows). (dtype_of c ≡ struct fs s.nullable) × IsColumn n c) (some-same (structs s y) x e) (ap (λ gs. struct gs s.nullable) rest.0, (l, t, rest.1))

flags-long : (b : Bools) (n : ℕ) → length b.rows ≡ n → length (map (λ row. unwrap_or row false) b.rows) ≡ n
flags-long b n l = rw length-map l

pub structs_typed : (d : Dtype) (n : ℕ) (cs : List Rows) (x : Rows) → AreColumnsOf d n cs → structs_over d n cs ≡ Some x → (dtype_of x ≡ d) × IsColumn n x
structs_typed (struct fs true) n [] x h e = absurd h
structs_typed (struct fs true) n (bools b ∷ cs) x h e =
    structs-typed n fs (record { nullable = true; present = map (λ row. unwrap_or row false) b.rows }) (zipped fs cs) x (flags-long b n h.0.1.0) refl (λ y. zipped_named n fs cs y h.1) e
structs_typed (struct fs true) n (ints c ∷ cs) x h e = absurd (other h.0.0)
  where
    other : int c.ptype c.nullable ≡ bool false → ⊥
    other e = cc
structs_typed (struct fs true) n (texts c ∷ cs) x h e = absurd (other h.0.0)
  where
    other : text c.nullable ≡ bool false → ⊥
    other e = cc
structs_typed (struct fs true) n (structs c ds ∷ cs) x h e = absurd (other h.0.0)
  where
    other : struct (types_of ds) c.nullable ≡ bool false → ⊥
    other e = cc
structs_typed (struct fs false) n cs x h e =
    structs-typed n fs (record { nullable = false; present = replicate n true }) (zipped fs cs) x (length-replicate n true) (all_there n) (λ y. zipped_named n fs cs y h) e
structs_typed (bool nullable) n cs x h e = absurd h
structs_typed (int p nullable) n cs x h e = absurd h
structs_typed (text nullable) n cs x h e = absurd h

-- ---- columns under names, one after the other

-- the fields in front are under their names, and those behind are to be
pub record Names (fs rest : FieldList) (all left : List Rows) (named : List (String Global × Rows)) : Type 0 where
  pub value : option_map (before named) (zipped rest left) ≡ zipped fs all
  pub many : is_some (zipped rest left) ≡ true

pub names_none : (fs : FieldList) (all : List Rows) → is_some (zipped fs all) ≡ true → Names fs fs all all []
names_none fs all h = record { value = same-map (zipped fs all); many = h }
  where
    same-map : (o : Option FieldRows) → option_map (before []) o ≡ o
    same-map None = refl
    same-map (Some x) = refl

before-last : (named : List (String Global × Rows)) (n : String Global) (c : Rows) (x : FieldRows) → before (named ++ (n, c) ∷ []) x ≡ before named (column (string_bytes n) c x)
before-last [] n c x = refl
before-last (f ∷ named) n c x = ap (column (string_bytes f.0) f.1) (before-last named n c x)

pub names_more : (fs rest : FieldList) (all left : List Rows) (named next : List (String Global × Rows)) (name : List ℕ) (n : String Global) (d : Dtype) (c : Rows)
    → Names fs (field name d rest) all (c ∷ left) named → string_bytes n ≡ name → next ≡ named ++ (n, c) ∷ [] → Names fs rest all left next
names_more fs rest all left named next name n d c h same e = record {
  value = ap (λ ns. option_map (before ns) (zipped rest left)) e ∙ moved (zipped rest left) ∙ h.value;
  many = sym (some-map (column name c) (zipped rest left)) ∙ h.many;
}
  where
    moved : (o : Option FieldRows) → option_map (before (named ++ (n, c) ∷ [])) o ≡ option_map (before named) (option_map (column name c) o)
    moved None = refl
    moved (Some x) = ap Some (before-last named n c x ∙ ap (λ m. before named (column m c x)) same)

-- where a field is left, so is a column
pub names_left : (fs rest : FieldList) (all : List Rows) (left : List Column) (named : List (String Global × Rows)) (name : List ℕ) (d : Dtype) → length left ≡ 0
    → Names fs (field name d rest) all (seen left) named → ⊥
names_left fs rest all [] named name d e h = none h.many
  where
    none : is_some (zipped (field name d rest) []) ≡ true → ⊥
    none e = cc
names_left fs rest all (c ∷ left) named name d e h = absurd (omega (arith, e))

pub viewed_last : (named : List (String Global × Column)) (n : String Global) (c : Column) → viewed (named ++ (n, c) ∷ []) ≡ viewed named ++ (n, column_view c) ∷ []
viewed_last [] n c = refl
viewed_last (f ∷ named) n c = ap (λ fs. (f.0, column_view f.1) ∷ fs) (viewed_last named n c)

-- where no field is left, all columns are named
pub names_all : (fs : FieldList) (all left : List Rows) (named : List (String Global × Rows)) → Names fs no_fields all left named → zipped fs all ≡ Some (fields_in_order named)
names_all fs all [] named h = sym h.value ∙ ap Some (closed named)
  where
    closed : (named : List (String Global × Rows)) → before named no_columns ≡ fields_in_order named
    closed [] = refl
    closed (f ∷ named) = ap (column (string_bytes f.0) f.1) (closed named)
names_all fs all (c ∷ left) named h = absurd (none h.many)
  where
    none : is_some (zipped no_fields (c ∷ left)) ≡ true → ⊥
    none e = cc

-- ---- the next column of some

next-column : (cs : List Column) (i : ℕ) (c : Column) → i < length cs → c ≡ get_or cs i c → seen (drop i cs) ≡ column_view c ∷ seen (drop (i + 1) cs)
next-column cs i c l is = ap seen (let next : drop i cs ≡ c ∷ drop (i + 1) cs = rw (add-one, drop-cons cs i c, ← is) refl in next)

pub joins_next : (d : Dtype) (all : List Rows) (cs : List Column) (i : ℕ) (c : Column) (front : Rows) → i < length cs → c ≡ get_or cs i c → Joins d all (seen (drop i cs)) front
    → Joins d all (column_view c ∷ seen (drop (i + 1) cs)) front
joins_next d all cs i c front l is j = subst (λ rest. Joins d all rest front) (next-column cs i c l is) j

pub joins_end : (d : Dtype) (all : List Rows) (cs : List Column) (i : ℕ) (front : Rows) → length cs ≤ i → Joins d all (seen (drop i cs)) front → front ≡ joined d all
joins_end d all cs i front l j = joins_all d all front (subst (λ rest. Joins d all (seen rest) front) (drop_all i cs l) j)

-- ---- the next field of some

next-field : (fs : List (String Global × DType)) (i : ℕ) (f : String Global × DType) → i < length fs → f ≡ get_or fs i f
    → types_view (drop i fs) ≡ field (string_bytes f.0) (dtype_view f.1) (types_view (drop (i + 1) fs))
next-field fs i f l is = ap types_view (let next : drop i fs ≡ f ∷ drop (i + 1) fs = rw (add-one, drop-cons fs i f, ← is) refl in next)

pub names_next : (all-fields : FieldList) (fs : List (String Global × DType)) (i : ℕ) (f : String Global × DType) (all left : List Rows) (named : List (String Global × Rows)) → i < length fs → f ≡ get_or fs i f
    → Names all-fields (types_view (drop i fs)) all left named → Names all-fields (field (string_bytes f.0) (dtype_view f.1) (types_view (drop (i + 1) fs))) all left named
names_next all-fields fs i f all left named l is h = subst (λ rest. Names all-fields rest all left named) (next-field fs i f l is) h

pub names_end : (all-fields : FieldList) (fs : List (String Global × DType)) (i : ℕ) (all left : List Rows) (named : List (String Global × Rows)) → length fs ≤ i
    → Names all-fields (types_view (drop i fs)) all left named → zipped all-fields all ≡ Some (fields_in_order named)
names_end all-fields fs i all left named l h = names_all all-fields all left named (subst (λ rest. Names all-fields (types_view rest) all left named) (drop_all i fs l) h)

-- ---- truth values

pub flags_more : (rows : List (Option Bool)) (i : ℕ) (flags next : List Bool) → i < length rows → next ≡ flags ++ unwrap_or (slice_index_or rows i None) false ∷ []
    → next ++ map (λ row. unwrap_or row false) (drop (i + 1) rows) ≡ flags ++ map (λ row. unwrap_or row false) (drop i rows)
flags_more rows i flags next l e =
    let here : drop i rows ≡ slice_index_or rows i None ∷ drop (i + 1) rows = rw (add-one, drop-cons rows i None) refl in
    ap (λ xs. xs ++ map (λ row. unwrap_or row false) (drop (i + 1) rows)) e
    ∙ append_assoc flags (unwrap_or (slice_index_or rows i None) false ∷ []) (map (λ row. unwrap_or row false) (drop (i + 1) rows))
    ∙ ap (λ xs. flags ++ map (λ row. unwrap_or row false) xs) (sym here)

pub flags_all : (rows : List (Option Bool)) (i : ℕ) (flags : List Bool) → length rows ≤ i → flags ++ map (λ row. unwrap_or row false) (drop i rows) ≡ map (λ row. unwrap_or row false) rows
    → flags ≡ map (λ row. unwrap_or row false) rows
flags_all rows i flags l e = sym (ap (λ xs. flags ++ map (λ row. unwrap_or row false) xs) (drop_all i rows l) ∙ append-nil flags) ∙ e

-- ---- the columns of structs

-- behind the truth values that say which are there are the columns of the fields
pub present_fields : (fs : FieldList) (n : ℕ) (all cs : List Column) (c : Column) (b : Bools) → all ≡ c ∷ cs → column_view c ≡ bools b → AreColumnsOf (struct fs true) n (seen all)
    → (length b.rows ≡ n) × AreFields n fs (seen cs)
present_fields fs n all cs c b e f h =
    let first = subst (λ (xs : List Column). AreColumnsOf (struct fs true) n (seen xs)) e h in
    let column = subst (λ (x : Rows). IsColumn n x) f first.0.1 in
    (column.0, first.1)

-- named columns are as long
pub names_long : (fs : FieldList) (n m : ℕ) (cs : List Rows) (x : FieldRows) → AreFields n fs cs → zipped fs cs ≡ Some x → m ≡ n → AllHaveRows m x
names_long fs n m cs x h e same = subst (λ k. AllHaveRows k x) (sym same) (columns_rows n x (zipped_named n fs cs x h e).1)

-- chunks that are put together
pub chunks_typed : (d : Dtype) (n : ℕ) (cs : List Rows) (c : Rows) → AreParts Chunked d n cs → c ≡ joined d cs → (dtype_of c ≡ d) × IsColumn n c
chunks_typed d n cs c p e =
    let h = chunks_are d n cs p in
    subst (λ (x : Rows). (dtype_of x ≡ d) × IsColumn n x) (sym e)
    (joined_type d cs h, subst (λ k. IsColumn k (joined d cs)) (sym (chunks_sum d n cs p)) (joined_sound d cs h))
