-- A table of statistics has as many sets as the type has columns.
use Rattle.std.proofs.Common.{◌≡◌, ℕ, suc, Bool, true, false, List, [], ◌∷◌, length, Option, Some, None, refl, sym, ap, ◌∙◌, arith}
use Rattle.std.specs.Prelude.{Ok, ◌==◌}
use Rattle.std.proofs.lemmas.Bool.Decides.{nat_tests}
use Rattle.vx_base.specs.Checks.{◌>>=◌, ◌unless◌, ◌lacking◌}
use Rattle.vx_tables.specs.Counted.{allowed}
use Rattle.vx_data.specs.declared.data_error.DataError.TheVariants.{BadTable, StatsCount}
use Rattle.vx_data.specs.Dtype.{Dtype}
use Rattle.vx_data.specs.Stats.{Stats}
use Rattle.vx_data.specs.StatsEntry.{Entry}
use Rattle.vx_data.specs.StatsTable.{stats_table, columns_of, stats_of, set_before, all_stats, stats_checks}

before_length : (o : Option Stats) (r : Option (List Stats)) (ss : List Stats) (n : ℕ) → set_before o r ≡ Some ss → ((ts : List Stats) → r ≡ Some ts → length ts ≡ n) → length ss ≡ suc n
before_length None r ss n h each = absurd cc
before_length (Some s) None ss n h each = absurd cc
before_length (Some s) (Some ts) ss n h each = let same : s ∷ ts ≡ ss = cc in ap length (sym same) ∙ ap suc (each ts refl)

sets_length : (es : List Entry) (ds : List Dtype) (ss : List Stats) → length es ≡ length ds → all_stats es ds ≡ Some ss → length ss ≡ length ds
sets_length [] [] ss e h = let same : [] ≡ ss = cc in ap length (sym same)
sets_length [] (d ∷ ds) ss e h = absurd (omega (arith, e))
sets_length (x ∷ es) [] ss e h = absurd (omega (arith, e))
sets_length (x ∷ es) (d ∷ ds) ss e h = before_length (stats_of d x) (all_stats es ds) ss (length ds) h (λ ts got. sets_length es ds ts (omega (arith, e)) got)

gives_sets : (o : Option (List Stats)) (sets : List Stats) → (BadTable lacking o) ≡ Ok sets → o ≡ Some sets
gives_sets None sets h = absurd cc
gives_sets (Some ss) sets h = let same : ss ≡ sets = cc in ap (λ x. Some x) same

are_equal : (n m : ℕ) → (n == m) ≡ true → n ≡ m
are_equal n m h = grind (arith, nat_tests)

counted_sets : (b : Bool) (es : List Entry) (ds : List Dtype) (sets : List Stats) → ((StatsCount unless b) >>= λ _. BadTable lacking all_stats es ds) ≡ Ok sets → (b ≡ true) × (all_stats es ds ≡ Some sets)
counted_sets true es ds sets h = (refl, gives_sets (all_stats es ds) sets h)
counted_sets false es ds sets h = absurd cc

read_sets : (o : Option (List Entry)) (ds : List Dtype) (sets : List Stats)
    → ((BadTable lacking o) >>= λ es. (StatsCount unless length es == length ds) >>= λ _. BadTable lacking all_stats es ds) ≡ Ok sets → length sets ≡ length ds
read_sets None ds sets h = absurd cc
read_sets (Some es) ds sets h =
    let parts = counted_sets (length es == length ds) es ds sets h in
    sets_length es ds sets (are_equal (length es) (length ds) parts.0) parts.1

pub as_many_sets : (d : Dtype) (bytes : List ℕ) (sets : List Stats) → stats_checks d bytes ≡ Ok sets → length sets ≡ length (columns_of d)
unfolding stats_checks
as_many_sets d bytes sets h = read_sets (allowed (stats_table bytes)) (columns_of d) sets h
