-- The rows of a layout are those of its plan's leaves, where the chunks of each are read.
use Rattle.std.proofs.Common.{◌≡◌, ℕ, ◌+◌, ◌<◌, ◌≤◌, ◌^◌, Bool, true, false, List, [], ◌∷◌, ◌++◌, length, map, drop, Option, Some, None, Ok, refl, sym, ap, ap₂, subst, ◌∙◌, arith, length-append}
use Rattle.std.specs.Prelude.{◌&&◌, replicate, unwrap_or, is_some}
use Rattle.std.specs.List.{list_all}
use Rattle.std.specs.Option.{option_map, option_and_then}
use Rattle.std.specs.Result.{result_ok}
use Rattle.vx_data.specs.Dtype.{Dtype, bool}
use Rattle.vx_data.specs.Layout.{LayoutTree, layouts_of}
use Rattle.vx_rows.specs.Columns.{Structs, are_there}
use Rattle.vx_rows.specs.Rows.{Rows, FieldRows, bools, ints, texts, structs, no_columns, column, rows_len, dtype_of, types_of, IsColumn, AreColumns}
use Rattle.vx_rows.specs.Encoded.{is_permitted, array_bytes}
use Rattle.vx_rows.specs.LayoutRows.{zipped, struct_rows, rows_of, rows_of_all}
use Rattle.vx_rows.specs.LayoutRows as layout
use Rattle.vx_rows.specs.Parts.{appended, presence}
use Rattle.vx_rows.specs.ReadRows.{no_rows}
use Rattle.vx_rows.specs.Trees.{array}
use Rattle.vx_rows.proofs.TreeBackLemmas.{array_back}
use Rattle.vx_write.specs.declared.laid_chunk.Numbered.{Numbered}
use Rattle.vx_write.specs.declared.strategy.LeafStrategy.{LeafStrategy}
use Rattle.vx_write.specs.Cutting.{joined}
use Rattle.vx_write.specs.Laying.{Groups, flat, chunked, leaf_layout, first_group, validity_count, leaf_count, leaves_count, with_validity, laid_out, all_laid_out}
use Rattle.vx_write.specs.Plans.{PlanTree, PlanList, a_leaf, a_struct, no_plans, a_plan, IsFor, AreFor, columns_of, columns_in}
use Rattle.vx_write.proofs.ReadBackColumns.{none_behind}

abbrev Bytes : Type 0
Bytes = ℕ → Option (List ℕ)

-- ---- the chunks of a leaf

-- the segment of a chunk has the bytes of these rows
pub record IsChunkRead (bytes : ℕ → Option (List ℕ)) (ids : List (List ℕ)) (d : Dtype) (x : Numbered) (c : Rows) : Type 0 where
  pub rows : x.rows ≡ rows_len c
  pub found : bytes x.segment ≡ Some (array_bytes ids c)
  pub permitted : is_permitted ids c ≡ true
  pub short : length (array_bytes ids c) < 2 ^ 32
  pub typed : dtype_of c ≡ d
  pub even : IsColumn (rows_len c) c

abbrev pub AreChunksRead : (ℕ → Option (List ℕ)) → List (List ℕ) → Dtype → List Numbered → List Rows → Type 0
AreChunksRead bytes ids d [] [] = Unit {0}
AreChunksRead bytes ids d [] (c ∷ cs) = ⊥
AreChunksRead bytes ids d (x ∷ xs) [] = ⊥
AreChunksRead bytes ids d (x ∷ xs) (c ∷ cs) = IsChunkRead bytes ids d x c × AreChunksRead bytes ids d xs cs

-- the chunks of a leaf, one behind the other, are its rows
pub record IsLeafRead (bytes : ℕ → Option (List ℕ)) (ids : List (List ℕ)) (g : List Numbered) (all : Rows) : Type 0 where
  pub chunks : List Rows
  pub read : AreChunksRead bytes ids (dtype_of all) g chunks
  pub whole : joined chunks (no_rows (dtype_of all)) ≡ all

flat_read : (bytes : Bytes) (ids : List (List ℕ)) (d : Dtype) (x : Numbered) (c : Rows) → length ids ≤ 65536 → IsChunkRead bytes ids d x c → rows_of bytes ids (flat d x) ≡ Some c
flat_read bytes ids d x c few h =
    let again : array ids d x.rows (array_bytes ids c) ≡ Ok c =
    ap (λ e. array ids e x.rows (array_bytes ids c)) (sym h.typed) ∙ ap (λ n. array ids (dtype_of c) n (array_bytes ids c)) h.rows ∙ array_back ids c (rows_len c) (array_bytes ids c) few h.permitted h.short refl h.even in
    ap (option_and_then (λ b. result_ok (array ids d x.rows b))) h.found ∙ ap result_ok again

flats_read : (bytes : Bytes) (ids : List (List ℕ)) (d : Dtype) (xs : List Numbered) (cs : List Rows) → length ids ≤ 65536 → AreChunksRead bytes ids d xs cs → rows_of_all bytes ids (layouts_of (map (flat d) xs)) ≡ Some cs
flats_read bytes ids d [] [] few h = refl
flats_read bytes ids d [] (c ∷ cs) few h = absurd h
flats_read bytes ids d (x ∷ xs) [] few h = absurd h
flats_read bytes ids d (x ∷ xs) (c ∷ cs) few h = rw (flat_read bytes ids d x c few h.0, flats_read bytes ids d xs cs few h.1) refl

joined_same : (d : Dtype) (cs : List Rows) → layout.joined d cs ≡ joined cs (no_rows d)
joined_same d [] = refl
joined_same d (c ∷ cs) = ap (appended c) (joined_same d cs)

chunked_read : (bytes : Bytes) (ids : List (List ℕ)) (d : Dtype) (xs : List Numbered) (cs : List Rows) → length ids ≤ 65536 → AreChunksRead bytes ids d xs cs → rows_of bytes ids (chunked d xs) ≡ Some (joined cs (no_rows d))
chunked_read bytes ids d xs cs few h = rw (flats_read bytes ids d xs cs few h) (ap (λ c. Some c) (joined_same d cs))

leaf_by : (bytes : Bytes) (ids : List (List ℕ)) (d : Dtype) (g : List Numbered) (cs : List Rows) → length ids ≤ 65536 → AreChunksRead bytes ids d g cs → rows_of bytes ids (leaf_layout d g) ≡ Some (joined cs (no_rows d))
leaf_by bytes ids d [] cs few h = chunked_read bytes ids d [] cs few h
leaf_by bytes ids d (x ∷ []) [] few h = absurd h
leaf_by bytes ids d (x ∷ []) (c ∷ []) few h =
    flat_read bytes ids d x c few h.0 ∙ ap (λ r. Some r) (sym (ap (λ e. appended c (no_rows e)) (sym h.0.typed) ∙ none_behind c))
leaf_by bytes ids d (x ∷ []) (c ∷ e ∷ cs) few h = absurd h.1
leaf_by bytes ids d (x ∷ y ∷ xs) cs few h = chunked_read bytes ids d (x ∷ y ∷ xs) cs few h

pub leaf_read : (bytes : ℕ → Option (List ℕ)) (ids : List (List ℕ)) (d : Dtype) (g : List Numbered) (all : Rows) → length ids ≤ 65536 → dtype_of all ≡ d → IsLeafRead bytes ids g all → rows_of bytes ids (leaf_layout d g) ≡ Some all
leaf_read bytes ids d g all few typed h =
    ap (λ e. rows_of bytes ids (leaf_layout e g)) (sym typed) ∙ leaf_by bytes ids (dtype_of all) g h.chunks few h.read ∙ ap (λ r. Some r) h.whole

-- ---- the leaves of a plan

-- each of the first groups is read as a column
abbrev pub AreLeavesRead : (ℕ → Option (List ℕ)) → List (List ℕ) → Groups → List Rows → Type 0
AreLeavesRead bytes ids gs [] = Unit {0}
AreLeavesRead bytes ids [] (c ∷ cs) = ⊥
AreLeavesRead bytes ids (g ∷ gs) (c ∷ cs) = IsLeafRead bytes ids g c × AreLeavesRead bytes ids gs cs

leaves_front : (bytes : Bytes) (ids : List (List ℕ)) (gs : Groups) (xs ys : List Rows) → AreLeavesRead bytes ids gs (xs ++ ys) → AreLeavesRead bytes ids gs xs
leaves_front bytes ids gs [] ys h = tt
leaves_front bytes ids [] (x ∷ xs) ys h = absurd h
leaves_front bytes ids (g ∷ gs) (x ∷ xs) ys h = (h.0, leaves_front bytes ids gs xs ys h.1)

leaves_behind : (bytes : Bytes) (ids : List (List ℕ)) (gs : Groups) (xs ys : List Rows) → AreLeavesRead bytes ids gs (xs ++ ys) → AreLeavesRead bytes ids (drop (length xs) gs) ys
leaves_behind bytes ids gs [] ys h = h
leaves_behind bytes ids [] (x ∷ xs) ys h = absurd h
leaves_behind bytes ids (g ∷ gs) (x ∷ xs) ys h = leaves_behind bytes ids gs xs ys h.1

mutual
  columns_many : (p : PlanTree) (c : Rows) → IsFor p (dtype_of c) → length (columns_of p c) ≡ leaf_count p
  columns_many (a_leaf s) c fit = refl
  columns_many (a_struct v ps) (bools c) fit = absurd fit
  columns_many (a_struct v ps) (ints c) fit = absurd fit
  columns_many (a_struct v ps) (texts c) fit = absurd fit
  columns_many (a_struct None ps) (structs c cs) fit = omega (arith, all_columns_many ps cs fit.2)
  columns_many (a_struct (Some s) ps) (structs c cs) fit = omega (arith, all_columns_many ps cs fit.2)

  all_columns_many : (ps : PlanList) (cs : FieldRows) → AreFor ps (types_of cs) → length (columns_in ps cs) ≡ leaves_count ps
  all_columns_many no_plans cs fit = refl
  all_columns_many (a_plan p ps) no_columns fit = absurd fit
  all_columns_many (a_plan p ps) (column name c cs) fit = omega (arith, columns_many p c fit.0, all_columns_many ps cs fit.1, length-append (columns_of p c) (columns_in ps cs))

-- the columns of fields
fields_list : FieldRows → List Rows
fields_list no_columns = []
fields_list (column name c cs) = c ∷ fields_list cs

zipped_again : (cs : FieldRows) → zipped (types_of cs) (fields_list cs) ≡ Some cs
unfolding fields_list
zipped_again no_columns = refl
zipped_again (column name c cs) = ap (option_map (column name c)) (zipped_again cs)

-- ---- structs that are there

there_again : (present : List Bool) → map (λ row. unwrap_or row false) (map Some present) ≡ present
there_again [] = refl
there_again (b ∷ present) = ap (λ bs. b ∷ bs) (there_again present)

and_parts : (a b : Bool) → (a && b) ≡ true → (a ≡ true) × (b ≡ true)
and_parts true true h = (refl, refl)
and_parts true false h = absurd cc
and_parts false b h = absurd cc

all_there : (present : List Bool) → list_all (λ b. b) present ≡ true → replicate (length present) true ≡ present
all_there [] h = refl
all_there (b ∷ present) h =
    let parts = and_parts b (list_all (λ x. x) present) h in
    ap₂ (λ x xs. x ∷ xs) (sym parts.0) (all_there present parts.1)

-- the structs of a column of validity and the columns of the fields
validity_list : Option LeafStrategy → Structs → List Rows → List Rows
validity_list None s cs = cs
validity_list (Some v) s cs = presence s ∷ cs

structs_by : (v : Option LeafStrategy) (n : ℕ) (nullable : Bool) (present : List Bool) (cs : FieldRows) → is_some v ≡ nullable → length present ≡ n → are_there nullable present ≡ true
    → struct_rows (types_of cs) nullable n (validity_list v (record { nullable = nullable; present = present }) (fields_list cs)) ≡ Some (structs (record { nullable = nullable; present = present }) cs)
unfolding validity_list
structs_by None n false present cs is long there =
    let all : replicate n true ≡ present = ap (λ m. replicate m true) (sym long) ∙ all_there present there in
    rw (zipped_again cs, all) refl
structs_by None n true present cs is long there = cc
structs_by (Some v) n true present cs is long there = rw (there_again present, zipped_again cs) refl
structs_by (Some v) n false present cs is long there = cc

structs_again : (v : Option LeafStrategy) (n : ℕ) (s : Structs) (cs : FieldRows) → is_some v ≡ s.nullable → length s.present ≡ n → are_there s.nullable s.present ≡ true
    → struct_rows (types_of cs) s.nullable n (validity_list v s (fields_list cs)) ≡ Some (structs s cs)
structs_again v n s cs is long there = structs_by v n s.nullable s.present cs is long there

-- ---- plans

validity_read : (bytes : Bytes) (ids : List (List ℕ)) (v : Option LeafStrategy) (s : Structs) (ps : PlanList) (cs : FieldRows) (gs : Groups) (ts : List LayoutTree) (rs : List Rows) → length ids ≤ 65536
    → AreLeavesRead bytes ids gs (columns_of (a_struct v ps) (structs s cs)) → rows_of_all bytes ids (layouts_of ts) ≡ Some rs → rows_of_all bytes ids (layouts_of (with_validity v gs ts)) ≡ Some (validity_list v s rs)
unfolding validity_list
validity_read bytes ids None s ps cs gs ts rs few h rest = rest
validity_read bytes ids (Some l) s ps cs [] ts rs few h rest = absurd h
validity_read bytes ids (Some l) s ps cs (g ∷ gs) ts rs few h rest = rw (leaf_read bytes ids (bool false) g (presence s) few refl h.0, rest) refl

fields_groups : (bytes : Bytes) (ids : List (List ℕ)) (v : Option LeafStrategy) (s : Structs) (ps : PlanList) (cs : FieldRows) (gs : Groups) → AreLeavesRead bytes ids gs (columns_of (a_struct v ps) (structs s cs))
    → AreLeavesRead bytes ids (drop (validity_count v) gs) (columns_in ps cs)
fields_groups bytes ids None s ps cs gs h = h
fields_groups bytes ids (Some l) s ps cs [] h = absurd h
fields_groups bytes ids (Some l) s ps cs (g ∷ gs) h = h.1

first_leaf : (bytes : Bytes) (ids : List (List ℕ)) (d : Dtype) (gs : Groups) (c : Rows) → length ids ≤ 65536 → dtype_of c ≡ d → AreLeavesRead bytes ids gs (c ∷ []) → rows_of bytes ids (leaf_layout d (first_group gs)) ≡ Some c
first_leaf bytes ids d [] c few typed h = absurd h
first_leaf bytes ids d (g ∷ gs) c few typed h = leaf_read bytes ids d g c few typed h.0

mutual
  unfolding fields_list

  -- the rows of the layout of a column's type are the column
  plan_read_own : (bytes : Bytes) (ids : List (List ℕ)) (p : PlanTree) (n : ℕ) (gs : Groups) (c : Rows) → length ids ≤ 65536 → IsFor p (dtype_of c) → IsColumn n c → AreLeavesRead bytes ids gs (columns_of p c)
      → rows_of bytes ids (laid_out p (dtype_of c) n gs) ≡ Some c
  plan_read_own bytes ids (a_leaf s) n gs c few fit even h = first_leaf bytes ids (dtype_of c) gs c few refl h
  plan_read_own bytes ids (a_struct v ps) n gs (bools c) few fit even h = absurd fit
  plan_read_own bytes ids (a_struct v ps) n gs (ints c) few fit even h = absurd fit
  plan_read_own bytes ids (a_struct v ps) n gs (texts c) few fit even h = absurd fit
  plan_read_own bytes ids (a_struct v ps) n gs (structs s cs) few fit even h =
      let rest = plans_read bytes ids ps n (drop (validity_count v) gs) cs few fit.2 even.2 (fields_groups bytes ids v s ps cs gs h) in
      let all = validity_read bytes ids v s ps cs gs (all_laid_out ps (types_of cs) n (drop (validity_count v) gs)) (fields_list cs) few h rest in
      rw all (structs_again v n s cs fit.0 even.0 even.1)

  plans_read : (bytes : Bytes) (ids : List (List ℕ)) (ps : PlanList) (n : ℕ) (gs : Groups) (cs : FieldRows) → length ids ≤ 65536 → AreFor ps (types_of cs) → AreColumns n cs → AreLeavesRead bytes ids gs (columns_in ps cs)
      → rows_of_all bytes ids (layouts_of (all_laid_out ps (types_of cs) n gs)) ≡ Some (fields_list cs)
  plans_read bytes ids no_plans n gs no_columns few fit even h = refl
  plans_read bytes ids no_plans n gs (column name c cs) few fit even h = absurd fit
  plans_read bytes ids (a_plan p ps) n gs no_columns few fit even h = absurd fit
  plans_read bytes ids (a_plan p ps) n gs (column name c cs) few fit even h =
      let first = plan_read_own bytes ids p n gs c few fit.0 even.0 (leaves_front bytes ids gs (columns_of p c) (columns_in ps cs) h) in
      let behind : AreLeavesRead bytes ids (drop (leaf_count p) gs) (columns_in ps cs) =
      subst (λ (k : ℕ). AreLeavesRead bytes ids (drop k gs) (columns_in ps cs)) (columns_many p c fit.0) (leaves_behind bytes ids gs (columns_of p c) (columns_in ps cs) h) in
      let rest = plans_read bytes ids ps n (drop (leaf_count p) gs) cs few fit.1 even.1 behind in
      rw (first, rest) refl

pub plan_read : (bytes : ℕ → Option (List ℕ)) (ids : List (List ℕ)) (p : PlanTree) (d : Dtype) (n : ℕ) (gs : Groups) (c : Rows) → length ids ≤ 65536 → dtype_of c ≡ d → IsFor p d → IsColumn n c → AreLeavesRead bytes ids gs (columns_of p c)
    → rows_of bytes ids (laid_out p d n gs) ≡ Some c
plan_read bytes ids p d n gs c few typed fit even h =
    ap (λ e. rows_of bytes ids (laid_out p e n gs)) (sym typed) ∙ plan_read_own bytes ids p n gs c few (subst (λ (e : Dtype). IsFor p e) (sym typed) fit) even h
