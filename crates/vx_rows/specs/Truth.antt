-- What a predicate is at a row: true, false or null.
use Rattle.std.specs.Prelude.{ℕ, ℤ, Bool, true, false, not, if◌then◌else◌, List, [], ◌∷◌, Option, Some, None, Result, Ok, Err}
use Rattle.std.specs.Prelude.{◌+ℤ◌}
use Rattle.std.specs.declared.cmp.Ordering.{Ordering}
use Rattle.std.specs.Ordering.{nat_cmp, int_cmp, bool_cmp, is_eq, is_ne, is_lt, is_le, is_gt, is_ge}
use Rattle.std.specs.Cmp.Lexicographic.{slice_cmp}
use Rattle.vx_data.specs.Dtype.{Dtype}
use Rattle.vx_data.specs.Scalar.{Value, flag, number, words}
use Rattle.vx_rows.specs.Written.{is_within}
use Rattle.vx_rows.specs.Rows.{Rows, rows_len}
use Rattle.vx_rows.specs.Span.{span}
use Rattle.vx_rows.specs.RowValues.{Cell, null, value, a_struct, Row, flat, cell, part_at, value_cell, bool_cell, int_cell, row_in}
use Rattle.vx_rows.specs.declared.kind.Kind.{Kind}
use Rattle.vx_rows.specs.declared.kind.Kind.TheVariants.{Bool as Truth, Int, Text, Struct}
use Rattle.vx_rows.specs.declared.bind_error.BindError.{BindError}
use Rattle.vx_rows.specs.declared.predicate.Comparison.{Comparison}
use Rattle.vx_rows.specs.declared.predicate.Comparison.TheVariants.{Eq, Ne, Lt, Le, Gt, Ge}
use Rattle.vx_rows.specs.Predicates.{Pred, lit, root, path, cast, add, compare, both, either, negated, null_test, present_test}
use Rattle.vx_rows.specs.Binding.{place, with_place, kind_in}

-- ---- three truth values: true, false and, as none, null

abbrev pub to_truth : Cell → Option Bool
to_truth null = None
to_truth (value (flag b)) = Some b
to_truth (value (number n)) = None
to_truth (value (words t)) = None
to_truth a_struct = None

-- false decides, and else null does
abbrev pub kleene_and : Option Bool → Option Bool → Option Bool
kleene_and (Some false) b = Some false
kleene_and (Some true) b = b
kleene_and None (Some false) = Some false
kleene_and None (Some true) = None
kleene_and None None = None

-- true decides, and else null does
abbrev pub kleene_or : Option Bool → Option Bool → Option Bool
kleene_or (Some true) b = Some true
kleene_or (Some false) b = b
kleene_or None (Some true) = Some true
kleene_or None (Some false) = None
kleene_or None None = None

abbrev pub kleene_not : Option Bool → Option Bool
kleene_not None = None
kleene_not (Some b) = Some (not b)

abbrev pub is_true : Option Bool → Bool
is_true None = false
is_true (Some b) = b

abbrev pub is_null : Cell → Bool
is_null null = true
is_null (value v) = false
is_null a_struct = false

-- ---- comparisons

abbrev pub meets : Comparison → Ordering → Bool
meets Eq o = is_eq o
meets Ne o = is_ne o
meets Lt o = is_lt o
meets Le o = is_le o
meets Gt o = is_gt o
meets Ge o = is_ge o

-- false is below true, and texts are ordered by their bytes
abbrev pub compared_values : Comparison → Value → Value → Option Bool
compared_values op (flag a) (flag b) = Some (meets op (bool_cmp a b))
compared_values op (number a) (number b) = Some (meets op (int_cmp a b))
compared_values op (words a) (words b) = Some (meets op (slice_cmp nat_cmp a b))
compared_values op _ _ = None

abbrev pub compared : Comparison → Cell → Cell → Option Bool
compared op (value a) (value b) = compared_values op a b
compared op _ _ = None

-- ---- sums

-- a sum within the type
abbrev pub sum_within : Result Kind BindError → ℤ → ℤ → Option ℤ
sum_within (Ok (Int ptype)) a b = if is_within ptype (a +ℤ b) then Some (a +ℤ b) else None
sum_within (Ok Truth) a b = None
sum_within (Ok Text) a b = None
sum_within (Ok Struct) a b = None
sum_within (Err e) a b = None

abbrev pub summed : Result Kind BindError → Cell → Cell → Option ℤ
summed kind (value (number a)) (value (number b)) = sum_within kind a b
summed kind _ _ = None

-- ---- predicates

-- the part of a row that names lead to; null where there is none
abbrev pub row_at : List (List ℕ) → Dtype → Row → Row
row_at [] d r = r
row_at (name ∷ names) d r = with_place (place name d) (flat null) (λ i e. row_at names e (part_at i r))

-- what a predicate is at a row of a type. A cast keeps the value
abbrev pub value_at : Pred → Dtype → Row → Cell
value_at (lit t v) d r = value_cell v
value_at root d r = cell r
value_at (path names) d r = cell (row_at names d r)
value_at (cast t p) d r = value_at p d r
value_at (add p q) d r = int_cell (summed (kind_in p d) (value_at p d r) (value_at q d r))
value_at (compare op p q) d r = bool_cell (compared op (value_at p d r) (value_at q d r))
value_at (both p q) d r = bool_cell (kleene_and (to_truth (value_at p d r)) (to_truth (value_at q d r)))
value_at (either p q) d r = bool_cell (kleene_or (to_truth (value_at p d r)) (to_truth (value_at q d r)))
value_at (negated p) d r = bool_cell (kleene_not (to_truth (value_at p d r)))
value_at (null_test p) d r = value (flag (is_null (value_at p d r)))
value_at (present_test p) d r = value (flag (not (is_null (value_at p d r))))

-- a row satisfies a predicate where that is true
abbrev pub satisfies : Pred → Dtype → Row → Bool
satisfies p d r = is_true (to_truth (value_at p d r))

-- the same of a row of a column
abbrev pub is_satisfied : Pred → Dtype → Rows → ℕ → Bool
is_satisfied p d c row = satisfies p d (row_in c row)

-- each row of a column, whether it satisfies a predicate
abbrev pub rows_satisfying : Pred → Dtype → Rows → List Bool
rows_satisfying p d c = span (is_satisfied p d c) 0 (rows_len c)
