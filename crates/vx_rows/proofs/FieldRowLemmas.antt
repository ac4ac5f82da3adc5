-- The rows of fields, one name after the other.
use Rattle.std.proofs.Common.{◌≡◌, ℕ, zero, suc, ◌+◌, ◌<◌, ◌≤◌, Bool, true, false, List, [], ◌∷◌, length, get_or, drop, refl, ap, sym, ◌∙◌, arith, ◌⊎◌, inl, inr}
use Rattle.std.specs.Prelude.{String, string_bytes, map, slice_index_or, ◌&&◌, Option, Some, None}
use Rattle.std.specs.Option.{option_map}
use Rattle.std.specs.Global.{Global}
use Rattle.std.specs.Borrow.{Bor}
use Rattle.std.proofs.lemmas.List.{drop_all}
use Rattle.vx_data.specs.Dtype.{Dtype}
use Rattle.vx_rows.specs.declared.cell.Cell.TheVariants.{Null}
use Rattle.vx_rows.specs.declared.column.Column.{Column}
use Rattle.vx_rows.specs.declared.operand.Operand.TheVariants.{Value, Rows as RowsOf}
use Rattle.vx_rows.specs.Columns.{Structs}
use Rattle.vx_rows.specs.Span.{span, every}
use Rattle.vx_rows.specs.Bits.{present_at}
use Rattle.vx_rows.proofs.SpanLemmas.{length_span, get_or_span, every_all, every_holds}
use Rattle.vx_rows.proofs.WrittenLemmas.{past}
use Rattle.std.proofs.lemmas.Bool.{cases_lt}
use Rattle.vx_rows.specs.Rows.{Rows, FieldRows, bools, ints, texts, structs, no_columns, column, rows_len, column_view, pairs_view}
use Rattle.vx_rows.specs.RowValues.{null, Row, flat, of_parts, cell, nth_part, part_at, if_there, row_in, parts_in}
use Rattle.vx_rows.specs.Predicates.{path}
use Rattle.vx_rows.specs.Binding.{place, with_place}
use Rattle.vx_rows.specs.Truth.{row_at}
use Rattle.vx_rows.specs.Operands.{is_shown, shown_row, IsValueOf}
use Rattle.vx_rows.specs.Fields.{is_there, shown_and_there, Hides, nth_column, part_of}
use Rattle.vx_rows.proofs.PlaceLemmas.{next_name}

-- ---- parts of rows

hidden-part : (i : ℕ) (b : Bool) (r : Row) → part_at i (if_there b r) ≡ if_there b (part_at i r)
hidden-part i true r = refl
hidden-part i false r = refl

hidden-twice : (a b : Bool) (r : Row) → if_there a (if_there b r) ≡ if_there (a && b) r
hidden-twice true b r = refl
hidden-twice false b r = refl

hidden-null : (b : Bool) → if_there b (flat null) ≡ flat null
hidden-null true = refl
hidden-null false = refl

nth-row : (i : ℕ) (cs : FieldRows) (x : Rows) (row : ℕ) → nth_column i cs ≡ Some x → nth_part i (parts_in cs row) ≡ row_in x row
nth-row i no_columns x row h = cc
nth-row zero (column name c cs) x row h = let e : c ≡ x = cc in ap (λ y. row_in y row) e
nth-row (suc i) (column name c cs) x row h = nth-row i cs x row h

nth-none : (i : ℕ) (cs : FieldRows) (row : ℕ) → nth_column i cs ≡ None → nth_part i (parts_in cs row) ≡ flat null
nth-none i no_columns row h = refl
nth-none zero (column name c cs) row h = cc
nth-none (suc i) (column name c cs) row h = nth-none i cs row h

part-row : (i : ℕ) (c : Rows) (s : Structs) (x : Rows) (row : ℕ) → part_of i c ≡ Some (s, x) → part_at i (row_in c row) ≡ if_there (is_there s row) (row_in x row)
part-row i (bools c) s x row h = cc
part-row i (ints c) s x row h = cc
part-row i (texts c) s x row h = cc
part-row i (structs c cs) s x row h = found (nth_column i cs) refl h
  where
    found : (o : Option Rows) → nth_column i cs ≡ o → option_map {U = Structs × Rows} (λ y. (c, y)) o ≡ Some (s, x) → part_at i (row_in (structs c cs) row) ≡ if_there (is_there s row) (row_in x row)
    found None is h = cc
    found (Some y) is h =
        let pair : (c, y) ≡ (s, x) = cc in
        let same : c ≡ s = ap (λ (p : Structs × Rows). p.0) pair in
        let last : y ≡ x = ap (λ (p : Structs × Rows). p.1) pair in
        hidden-part i (is_there c row) (of_parts (parts_in cs row)) ∙ ap (if_there (is_there c row)) (nth-row i cs y row is)
        ∙ ap (λ z. if_there (is_there z row) (row_in y row)) same ∙ ap (λ z. if_there (is_there s row) (row_in z row)) last

part-none : (i : ℕ) (c : Rows) (row : ℕ) → part_of i c ≡ None → part_at i (row_in c row) ≡ flat null
part-none i (bools c) row h = refl
part-none i (ints c) row h = refl
part-none i (texts c) row h = refl
part-none i (structs c cs) row h = found (nth_column i cs) refl h
  where
    found : (o : Option Rows) → nth_column i cs ≡ o → option_map {U = Structs × Rows} (λ y. (c, y)) o ≡ None → part_at i (row_in (structs c cs) row) ≡ flat null
    found None is h = hidden-part i (is_there c row) (of_parts (parts_in cs row)) ∙ ap (if_there (is_there c row)) (nth-none i cs row is) ∙ hidden-null (is_there c row)
    found (Some y) is h = cc

-- what is null has null parts
null-below : (names : List (List ℕ)) (d : Dtype) → row_at names d (flat null) ≡ flat null
null-below [] d = refl
null-below (name ∷ names) d = found (null-below names) (place name d)
  where
    found : ((e : Dtype) → row_at names e (flat null) ≡ flat null) → (o : Option (ℕ × Dtype)) → with_place o (flat null) (λ i e. row_at names e (part_at i (flat null))) ≡ flat null
    found below None = refl
    found below (Some (i, e)) = below e

-- ---- one name further

-- what some names lead to at the rows shown of a column is what all names lead to
pub record Walked (all : List (List ℕ)) (d : Dtype) (c : Rows) (rest : List (List ℕ)) (here : Dtype) (below : Rows) (shown : Option (List Bool)) : Type 0 where
  pub same : (row : ℕ) → row < rows_len c → row_at rest here (shown_row shown below row) ≡ row_at all d (row_in c row)

pub walked_first : (all : List (List ℕ)) (d : Dtype) (c : Rows) → Walked all d c all d c None
walked_first all d c = record { same = λ row less. refl }

on-names : (name : List ℕ) (names : List (List ℕ)) (d : Dtype) (r : Row) (k : ℕ) (e : Dtype) → place name d ≡ Some (k, e) → row_at (name ∷ names) d r ≡ row_at names e (part_at k r)
on-names name names d r k e here = ap (λ p. with_place p (flat null) (λ k e. row_at names e (part_at k r))) here

pub walked_on : (all : List (List ℕ)) (d : Dtype) (c : Rows) (names : List (String Global)) (i : ℕ) (n : String Global) (here inner : Dtype) (below part : Rows) (k : ℕ) (s : Structs)
    (shown less : Option (List Bool)) → Walked all d c (map string_bytes (drop i names)) here below shown → i < length names → n ≡ get_or names i n
    → place (string_bytes n) here ≡ Some (k, inner) → part_of k below ≡ Some (s, part) → Hides shown s (rows_len c) less
    → Walked all d c (map string_bytes (drop (i + 1) names)) inner part less
walked_on all d c names i n here inner below part k s shown less so lt is found has hides = record {
  same = λ row inside.
      let rest = map string_bytes (drop (i + 1) names) in
      let parted : part_at k (shown_row shown below row) ≡ shown_row less part row =
      hidden-part k (is_shown shown row) (row_in below row) ∙ ap (if_there (is_shown shown row)) (part-row k below s part row has)
      ∙ hidden-twice (is_shown shown row) (is_there s row) (row_in part row) ∙ ap (λ b. if_there b (row_in part row)) (sym (hides.same row inside)) in
      sym (ap (λ ns. row_at ns here (shown_row shown below row)) (next_name names i n lt is)
      ∙ on-names (string_bytes n) rest here (shown_row shown below row) k inner found ∙ ap (row_at rest inner) parted)
      ∙ so.same row inside;
}

-- ---- the end of the names, or no field of a name

pub walked_end : (all : List (List ℕ)) (d : Dtype) (c : Rows) (names : List (String Global)) (i : ℕ) (here : Dtype) (below : Bor Column) (shown : Option (List Bool))
    → Walked all d c (map string_bytes (drop i names)) here (column_view below.now) shown → length names ≤ i → IsValueOf (path all) d c (RowsOf below shown)
walked_end all d c names i here below shown so past = record {
  same = λ row inside.
      ap cell (sym (ap (λ ns. row_at (map string_bytes ns) here (shown_row shown (column_view below.now) row)) (drop_all i names past)) ∙ so.same row inside);
}

pub walked_off : (all : List (List ℕ)) (d : Dtype) (c : Rows) (names : List (String Global)) (i : ℕ) (n : String Global) (here : Dtype) (below : Rows) (shown : Option (List Bool))
    → Walked all d c (map string_bytes (drop i names)) here below shown → i < length names → n ≡ get_or names i n → place (string_bytes n) here ≡ None
    → IsValueOf (path all) d c (Value Null)
walked_off all d c names i n here below shown so lt is found = record {
  same = λ row inside.
      let r = shown_row shown below row in
      let off : row_at (map string_bytes (drop i names)) here r ≡ flat null =
      ap (λ ns. row_at ns here r) (next_name names i n lt is)
      ∙ ap (λ p. with_place p (flat null) (λ k e. row_at (map string_bytes (drop (i + 1) names)) e (part_at k r))) found in
      ap cell (sym off ∙ so.same row inside);
}

pub walked_out : (all : List (List ℕ)) (d : Dtype) (c : Rows) (names : List (String Global)) (i : ℕ) (n : String Global) (here inner : Dtype) (below : Rows) (k : ℕ) (shown : Option (List Bool))
    → Walked all d c (map string_bytes (drop i names)) here below shown → i < length names → n ≡ get_or names i n → place (string_bytes n) here ≡ Some (k, inner) → part_of k below ≡ None
    → IsValueOf (path all) d c (Value Null)
walked_out all d c names i n here inner below k shown so lt is found none = record {
  same = λ row inside.
      let r = shown_row shown below row in
      let rest = map string_bytes (drop (i + 1) names) in
      let out : part_at k r ≡ flat null =
      hidden-part k (is_shown shown row) (row_in below row) ∙ ap (if_there (is_shown shown row)) (part-none k below row none) ∙ hidden-null (is_shown shown row) in
      let off : row_at (map string_bytes (drop i names)) here r ≡ flat null =
      ap (λ ns. row_at ns here r) (next_name names i n lt is) ∙ on-names (string_bytes n) rest here r k inner found
      ∙ ap (row_at rest inner) out ∙ null-below rest inner in
      ap cell (sym off ∙ so.same row inside);
}

-- ---- columns at places, and hidden rows

pub nth_past : (cs : List (String Global × Column)) (i : ℕ) → length cs ≤ i → nth_column i (pairs_view cs) ≡ None
nth_past [] i h = refl
nth_past (c ∷ cs) zero h = absurd (omega arith)
nth_past (c ∷ cs) (suc i) h = nth_past cs i (omega arith)

pub nth_there : (cs : List (String Global × Column)) (i : ℕ) (d : String Global × Column) → i < length cs → Some (column_view (slice_index_or cs i d).1) ≡ nth_column i (pairs_view cs)
nth_there [] i d h = absurd (omega arith)
nth_there (c ∷ cs) zero d h = refl
nth_there (c ∷ cs) (suc i) d h = nth_there cs i d (omega arith)

and-true : (a b : Bool) → b ≡ true → a ≡ (a && b)
and-true true b h = sym h
and-true false b h = refl

-- where each struct is there, nothing more is hidden
pub hides_none : (shown : Option (List Bool)) (c : Structs) (n : ℕ) → every (is_there c) 0 n ≡ true → Hides shown c n shown
hides_none shown c n h = record {
  same = λ row less.
      let there : is_there c row ≡ true = ap (is_there c) (omega arith) ∙ every_all (is_there c) 0 n h row less in
      and-true (is_shown shown row) (is_there c row) there;
}

pub hides_some : (shown : Option (List Bool)) (c : Structs) (n : ℕ) (bits : List Bool) → bits ≡ span (shown_and_there shown c) 0 n → Hides shown c n (Some bits)
hides_some shown c n bits is = record {
  same = λ row less.
      ap (λ xs. slice_index_or xs row true) is ∙ get_or_span (shown_and_there shown c) 0 n row true less ∙ ap (shown_and_there shown c) (omega arith);
}

-- ---- structs of which none is null

pub none_null : (present : Option (List Bool)) (count row : ℕ) → present ≡ None → slice_index_or (span (present_at present) 0 count) row true ≡ true
none_null present count row e = ap (λ p. slice_index_or (span (present_at p) 0 count) row true) e ∙ by (cases_lt row count)
  where
    by : (row < count) ⊎ (count ≤ row) → slice_index_or (span (present_at None) 0 count) row true ≡ true
    by (inl l) = get_or_span (present_at None) 0 count row true l
    by (inr l) = let size = length_span (present_at None) 0 count in past (span (present_at None) 0 count) row true (omega (arith, size, l))

pub all_there : (c : Structs) (count : ℕ) → ((row : ℕ) → slice_index_or c.present row true ≡ true) → every (is_there c) 0 count ≡ true
all_there c count h = every_holds (is_there c) 0 count (λ i l u. h i)
