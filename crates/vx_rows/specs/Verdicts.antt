-- What a comparison tells of two values by their order, worked out once for all rows.
use Rattle.std.specs.Prelude.{ℕ, ℤ, Bool, List, slice_index_or, Option, Some, None}
use Rattle.std.specs.declared.cmp.Ordering.{Ordering}
use Rattle.std.specs.declared.cmp.Ordering.TheVariants.{Less, Equal, Greater}
use Rattle.std.specs.Ordering.{nat_cmp, int_cmp, bool_cmp}
use Rattle.std.specs.Cmp.Lexicographic.{slice_cmp}
use Rattle.vx_data.specs.Scalar.{Value, flag, number, words}
use Rattle.vx_data.specs.declared.ptype.PType.{PType}
use Rattle.vx_rows.specs.Columns.{Ints, Texts, int_row}
use Rattle.vx_rows.specs.RowValues.{Cell, value, int_cell, text_cell}
use Rattle.vx_rows.specs.Truth.{meets}
use Rattle.vx_rows.specs.Operands.{operand_at}
use Rattle.vx_rows.specs.declared.predicate.Comparison.{Comparison}
use Rattle.vx_rows.specs.declared.operand.Operand.{Operand}
use Rattle.vx_rows.specs.declared.comparing.Verdict.{Verdict}

-- what a comparison tells of values in each order
abbrev pub verdict_of : Comparison → Verdict
verdict_of op = record { less = meets op Less; equal = meets op Equal; greater = meets op Greater }

-- the same where the values change places
abbrev pub turned : Verdict → Verdict
turned v = record { less = v.greater; equal = v.equal; greater = v.less }

abbrev pub by_order : Verdict → Ordering → Bool
by_order v Less = v.less
by_order v Equal = v.equal
by_order v Greater = v.greater

-- what is told of two values of one kind; nothing of others
abbrev pub told_values : Verdict → Value → Value → Option Bool
told_values v (flag a) (flag b) = Some (by_order v (bool_cmp a b))
told_values v (number a) (number b) = Some (by_order v (int_cmp a b))
told_values v (words a) (words b) = Some (by_order v (slice_cmp nat_cmp a b))
told_values v _ _ = None

abbrev pub told : Verdict → Cell → Cell → Option Bool
told v (value a) (value b) = told_values v a b
told v _ _ = None

-- what is told of two operands at a row
abbrev pub told_at : Verdict → Operand → Operand → ℕ → Option Bool
told_at v a b row = told v (operand_at a row) (operand_at b row)

-- and of a row of a column and a literal
abbrev pub plain_told : Verdict → PType → List ℕ → ℕ → ℤ → ℕ → Option Bool
plain_told v p bytes at n row = told v (int_cell (int_row p None bytes at row)) (value (number n))

abbrev pub number_told : Verdict → Ints → ℤ → ℕ → Option Bool
number_told v c n row = told v (int_cell (slice_index_or c.rows row None)) (value (number n))

abbrev pub text_told : Verdict → Texts → List ℕ → ℕ → Option Bool
text_told v c t row = told v (text_cell (slice_index_or c.rows row None)) (value (words t))
