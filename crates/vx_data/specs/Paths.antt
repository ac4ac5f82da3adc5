-- Paths as the bytes of their names, and their order.
use Rattle.std.specs.Prelude.{◌≡◌, ℕ, Bool, List, Some}
use Rattle.std.specs.declared.cmp.Ordering.{Ordering}
use Rattle.std.specs.Ordering.{nat_cmp, eq_by_cmp}
use Rattle.std.specs.Str.{bytes_eq}
use Rattle.std.specs.Cmp.{IsPartialEquivalence, IsEquivalence, IsPartialOrder, IsTotalOrder, partial_equiv_from_equiv, po}
use Rattle.std.specs.Cmp.Lexicographic.{pointwise, slice_cmp, lists_equiv, lists_total, lists_ties, nat_list_eq_equiv, nat_list_cmp_total, texts_ties}

-- the names that lead to a field, from the outermost on
abbrev pub Path : Type 0
Path = List (List ℕ)

abbrev pub same_path : Path → Path → Bool
same_path p q = pointwise bytes_eq p q

-- the first names that differ decide, and else the lengths do
abbrev pub path_cmp : Path → Path → Ordering
path_cmp p q = slice_cmp (slice_cmp nat_cmp) p q

pub path_equivalence : IsEquivalence same_path
path_equivalence = lists_equiv nat_list_eq_equiv

pub path_per : IsPartialEquivalence same_path
path_per = partial_equiv_from_equiv path_equivalence

pub path_total : IsTotalOrder path_cmp
path_total = lists_total nat_list_cmp_total

pub path_ties : (p q : Path) → same_path p q ≡ eq_by_cmp path_cmp p q
path_ties p q = lists_ties (slice_cmp nat_cmp) texts_ties p q

pub path_order : IsPartialOrder same_path (λ p q. Some (path_cmp p q))
path_order = po path_total path_ties
