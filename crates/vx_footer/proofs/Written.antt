-- What was written of a type or a layout are the bytes of its pieces, which are short.
use Rattle.std.proofs.Common.{◌≡◌, ℕ, ◌<◌, ◌^◌, Bool, true, false, List, length, refl, sym, subst}
use Rattle.std.specs.Prelude.{Ok, nat_le, nat_lt}
use Rattle.std.proofs.Common.{arith}
use Rattle.std.proofs.lemmas.Bool.Decides.{nat_tests}
use Rattle.vx_base.specs.Checks.{◌>>=◌, ◌unless◌}
use Rattle.vx_tables.specs.Block.{Piece, root_bytes}
use Rattle.vx_data.specs.declared.table_write_error.TableWriteError.TheVariants.{TooDeep, TooManyTables, TableTooLong}
use Rattle.vx_data.specs.Dtype.{Dtype}
use Rattle.vx_data.specs.DtypeWritten.{pieces_of, levels_of, visits_of, dtype_written}
use Rattle.vx_data.specs.Layout.{LayoutTree}
use Rattle.vx_data.specs.LayoutWritten.{tree_pieces, tree_levels, tree_visits, layout_written}
use Rattle.vx_data.specs.Written.{written}

opened : (a b c : Bool) (x bytes : List ℕ) → (TooDeep unless a >>= λ _. TooManyTables unless b >>= λ _. TableTooLong unless c >>= λ _. Ok x) ≡ Ok bytes → (c ≡ true) × (x ≡ bytes)
opened true true true x bytes h = (refl, cc)
opened true true false x bytes h = absurd cc
opened true false c x bytes h = absurd cc
opened false b c x bytes h = absurd cc

is_less : (n m : ℕ) → nat_lt n m ≡ true → n < m
is_less n m h = grind (arith, nat_tests)

was_written : (levels visits : ℕ) (ps : List Piece) (bytes : List ℕ) → written levels visits ps ≡ Ok bytes → (bytes ≡ root_bytes ps) × (length bytes < 2 ^ 32)
was_written levels visits ps bytes h =
    let o = opened (nat_le levels 64) (nat_le visits 1000000) (nat_lt (length (root_bytes ps)) (2 ^ 32)) (root_bytes ps) bytes h in
    (sym o.1, subst (λ (b : List ℕ). length b < 2 ^ 32) o.1 (is_less _ _ o.0))

pub dtype_written_is : (d : Dtype) (bytes : List ℕ) → dtype_written d ≡ Ok bytes → bytes ≡ root_bytes (pieces_of d)
unfolding dtype_written
dtype_written_is d bytes h = (was_written (levels_of d) (visits_of d) (pieces_of d) bytes h).0

pub dtype_short : (d : Dtype) (bytes : List ℕ) → dtype_written d ≡ Ok bytes → length bytes < 2 ^ 32
unfolding dtype_written
dtype_short d bytes h = (was_written (levels_of d) (visits_of d) (pieces_of d) bytes h).1

pub layout_written_is : (ids : List (List ℕ)) (t : LayoutTree) (bytes : List ℕ) → layout_written ids t ≡ Ok bytes → bytes ≡ root_bytes (tree_pieces ids t)
unfolding layout_written
layout_written_is ids t bytes h = (was_written (tree_levels t) (tree_visits t) (tree_pieces ids t) bytes h).0

pub layout_short : (ids : List (List ℕ)) (t : LayoutTree) (bytes : List ℕ) → layout_written ids t ≡ Ok bytes → length bytes < 2 ^ 32
unfolding layout_written
layout_short ids t bytes h = (was_written (tree_levels t) (tree_visits t) (tree_pieces ids t) bytes h).1
