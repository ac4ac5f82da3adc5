-- What the limits of all tables say of each.
use Rattle.std.proofs.Common.{◌≡◌, ℕ, ◌<◌, ◌^◌, Bool, true, false, List, length, Option, Some, None, Ok, Err, refl, subst, arith}
use Rattle.std.specs.Prelude.{◌&&◌, ◌||◌, nat_le, Result}
use Rattle.std.proofs.lemmas.Bool.Decides.{nat_tests}
use Rattle.vx_base.specs.Checks.{◌>>=◌, ◌unless◌}
use Rattle.vx_footer.specs.declared.write_error.WriteError.{WriteError}
use Rattle.vx_footer.specs.declared.write_error.WriteError.TheVariants.{SegmentTooLong}
use Rattle.vx_data.specs.DtypeWritten.{levels_of, visits_of}
use Rattle.vx_data.specs.Layout.{dtype_of}
use Rattle.vx_data.specs.LayoutWritten.{tree_levels, tree_visits}
use Rattle.vx_footer.specs.Footers.{FooterContent}
use Rattle.vx_footer.specs.Serializing.{is_shallow, has_few_visits, some_stats_visits, footer_visits, is_short, short_root, short_if, some_length}

and_parts : (a b : Bool) → (a && b) ≡ true → (a ≡ true) × (b ≡ true)
and_parts true true h = (refl, refl)
and_parts true false h = absurd cc
and_parts false b h = absurd cc

pub shallow_dtype : (excluded : Bool) (f : FooterContent) → is_shallow excluded f ≡ true → (excluded || nat_le (levels_of (dtype_of f.layout)) 64) ≡ true
shallow_dtype excluded f h = (and_parts _ (nat_le (tree_levels f.layout) 64) h).0

pub shallow_layout : (excluded : Bool) (f : FooterContent) → is_shallow excluded f ≡ true → nat_le (tree_levels f.layout) 64 ≡ true
shallow_layout excluded f h = (and_parts (excluded || nat_le (levels_of (dtype_of f.layout)) 64) _ h).1

pub ruleset shallow_parts = (shallow_dtype, shallow_layout)

abbrev few_dtype : Bool → FooterContent → Bool
few_dtype excluded f = excluded || nat_le (visits_of (dtype_of f.layout)) 1000000

abbrev few_tree : FooterContent → Bool
few_tree f = nat_le (tree_visits f.layout) 1000000

abbrev few_stats : FooterContent → Bool
few_stats f = nat_le (some_stats_visits f.statistics) 1000000

front : (excluded : Bool) (f : FooterContent) → has_few_visits excluded f ≡ true → ((few_dtype excluded f && few_tree f) ≡ true) × (few_stats f ≡ true)
front excluded f h = and_parts (few_dtype excluded f && few_tree f) (few_stats f) (and_parts ((few_dtype excluded f && few_tree f) && few_stats f) (nat_le (footer_visits f) 1000000) h).0

pub small_dtype : (excluded : Bool) (f : FooterContent) → has_few_visits excluded f ≡ true → (excluded || nat_le (visits_of (dtype_of f.layout)) 1000000) ≡ true
small_dtype excluded f h = (and_parts (few_dtype excluded f) (few_tree f) (front excluded f h).0).0

pub small_layout : (excluded : Bool) (f : FooterContent) → has_few_visits excluded f ≡ true → nat_le (tree_visits f.layout) 1000000 ≡ true
small_layout excluded f h = (and_parts (few_dtype excluded f) (few_tree f) (front excluded f h).0).1

pub small_stats : (excluded : Bool) (f : FooterContent) → has_few_visits excluded f ≡ true → nat_le (some_stats_visits f.statistics) 1000000 ≡ true
small_stats excluded f h = (front excluded f h).1

pub ruleset small_parts = (small_dtype, small_layout, small_stats)

-- ---- roots that were made are short

pub short_is : (xs ys : List ℕ) → short_root xs ≡ Ok ys → length ys < 2 ^ 32
short_is xs ys h = by (is_short xs) refl h
  where
    by : (b : Bool) → is_short xs ≡ b → (SegmentTooLong unless b >>= λ _. Ok xs) ≡ Ok ys → length ys < 2 ^ 32
    by true e h = let same : xs ≡ ys = cc in subst (λ (zs : List ℕ). length zs < 2 ^ 32) same (grind (arith, nat_tests))
    by false e h = absurd cc

pub some_is : (b : Bool) (xs : List ℕ) (o : Option (List ℕ)) → short_if b xs ≡ Ok o → some_length o < 2 ^ 32
some_is true xs o h = by (short_root xs) refl h
  where
    by : (r : Result (List ℕ) WriteError) → short_root xs ≡ r → (r >>= λ ys. Ok (Some ys)) ≡ Ok o → some_length o < 2 ^ 32
    by (Ok ys) e h = let same : Some ys ≡ o = cc in subst (λ (p : Option (List ℕ)). some_length p < 2 ^ 32) same (short_is xs ys e)
    by (Err x) e h = absurd cc
some_is false xs o h = let same : None ≡ o = cc in subst (λ (p : Option (List ℕ)). some_length p < 2 ^ 32) same (omega arith)
