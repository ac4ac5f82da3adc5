-- Rules one after the other.
use Rattle.std.proofs.Common.{◌≡◌, ℕ, zero, suc, ◌+◌, ◌<◌, ◌≤◌, List, [], ◌∷◌, ◌++◌, map, length, get_or, drop, Option, Some, None, refl, ap, sym, ◌∙◌, arith, add-one, drop-cons, append_assoc}
use Rattle.std.specs.Prelude.{String, string_bytes}
use Rattle.std.specs.Global.{Global}
use Rattle.std.specs.Borrow.{Bor}
use Rattle.std.proofs.lemmas.List.{drop_all}
use Rattle.vx_write.specs.declared.strategy.LeafStrategy.{LeafStrategy}
use Rattle.vx_write.specs.Strategies.{Rule, later, of_itself, own, rule_below, below}
use Rattle.vx_write.specs.Rules.{rule_seen, rules_seen}

abbrev pub Seen : Type 0
Seen = Bor (List (String Global)) × LeafStrategy

later_twice : (a b c : Option LeafStrategy) → later a (later b c) ≡ later (later a b) c
later_twice (Some s) b c = refl
later_twice None b c = refl

pub rules_from : (rules : List Seen) (i : ℕ) (r : Seen) → i < length rules → r ≡ get_or rules i r → drop i rules ≡ r ∷ drop (i + 1) rules
rules_from rules i r h e = let one : i + 1 ≡ suc i = omega arith in drop-cons rules i r h ∙ ap (λ x. x ∷ drop (suc i) rules) (sym e) ∙ ap (λ n. r ∷ drop n rules) (sym one)

pub own_more : (rules : List Seen) (i : ℕ) (r : Seen) (found : Option LeafStrategy) → i < length rules → r ≡ get_or rules i r
    → later (own (rules_seen (drop (i + 1) rules))) (later (of_itself (rule_seen r)) found) ≡ later (own (rules_seen (drop i rules))) found
own_more rules i r found h e =
    later_twice (own (rules_seen (drop (i + 1) rules))) (of_itself (rule_seen r)) found
    ∙ ap (λ (rs : List Seen). later (own (rules_seen rs)) found) (sym (rules_from rules i r h e))

pub own_end : (rules : List Seen) (i : ℕ) (found : Option LeafStrategy) → length rules ≤ i → later (own (rules_seen (drop i rules))) found ≡ found
own_end rules i found h = ap (λ (rs : List Seen). later (own (rules_seen rs)) found) (drop_all i rules h)

pub below_more : (name : List ℕ) (rules : List Seen) (i : ℕ) (r : Seen) (kept more : List Rule) → i < length rules → r ≡ get_or rules i r
    → more ≡ kept ++ rule_below name (rule_seen r).0 (rule_seen r).1
    → more ++ below name (rules_seen (drop (i + 1) rules)) ≡ kept ++ below name (rules_seen (drop i rules))
below_more name rules i r kept more h e m =
    ap (λ xs. xs ++ below name (rules_seen (drop (i + 1) rules))) m
    ∙ append_assoc kept (rule_below name (rule_seen r).0 (rule_seen r).1) (below name (rules_seen (drop (i + 1) rules)))
    ∙ ap (λ (rs : List Seen). kept ++ below name (rules_seen rs)) (sym (rules_from rules i r h e))
