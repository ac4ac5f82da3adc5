-- Statistics as trees of numbers, by which a proof tells them apart.
use Rattle.std.specs.Prelude.{◌≡◌, ℕ, ℤ, Bool, true, false, List, Option, ◌⊎◌, refl}
use Rattle.std.specs.Coded.{Coded, code_by, coded_option, coded_ℕ, coded_ℤ, coded_bool, coded_list, coded×, coded⊎}
use mathlib.Core.Logic.{inl, inr}
use Rattle.vx_data.specs.declared.stats_set.Precision.{Precision}
use Rattle.vx_data.specs.declared.stats_set.Precision.TheVariants.{Exact, Inexact}
use Rattle.vx_data.specs.Scalar.{Value, flag, number, words}
use Rattle.vx_data.specs.Stats.{Stats}
use Rattle.vx_footer.specs.DtypeCode.{dtype_code}
use Rattle.vx_footer.specs.FileStats.{FileStats}

abbrev Kinds : Type 0
Kinds = Bool ⊎ (ℤ ⊎ List ℕ)

abbrev kind_of : Value → Kinds
kind_of (flag b) = inl b
kind_of (number n) = inr (inl n)
kind_of (words t) = inr (inr t)

abbrev value_of : Kinds → Value
value_of (inl b) = flag b
value_of (inr (inl n)) = number n
value_of (inr (inr t)) = words t

pub value_back : (v : Value) → value_of (kind_of v) ≡ v
value_back (flag b) = refl
value_back (number n) = refl
value_back (words t) = refl

abbrev pub value_code : Coded Value
value_code = code_by Kinds (coded⊎ coded_bool (coded⊎ coded_ℤ (coded_list coded_ℕ))) kind_of value_of value_back

abbrev is_exact : Precision → Bool
is_exact Exact = true
is_exact Inexact = false

abbrev precision_of : Bool → Precision
precision_of true = Exact
precision_of false = Inexact

pub precision_back : (p : Precision) → precision_of (is_exact p) ≡ p
precision_back Exact = refl
precision_back Inexact = refl

abbrev pub precision_code : Coded Precision
precision_code = code_by Bool coded_bool is_exact precision_of precision_back

abbrev Kept : Type 0
Kept = Option (Value × Precision)

abbrev kept_code : Coded Kept
kept_code = coded_option (coded× value_code precision_code)

abbrev pub stats_code : Coded Stats
stats_code = code_by (Kept × (Kept × Kept)) (coded× kept_code (coded× kept_code kept_code)) (λ (s : Stats). (s.min, (s.max, s.null_count)))
    (λ t. record { min = t.0; max = t.1.0; null_count = t.1.1 }) (λ s. refl)

abbrev pub file_stats_code : Coded FileStats
file_stats_code = code_by (List Stats × List _) (coded× (coded_list stats_code) (coded_list dtype_code)) (λ (s : FileStats). (s.sets, s.dtypes))
    (λ t. record { sets = t.0; dtypes = t.1 }) (λ s. refl)
