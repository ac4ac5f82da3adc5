use Rattle.std.proofs.Common.{◌≡◌, ◌++◌, ◌∷◌, [], ◌∙◌, refl, sym, ap, subst, arith, length, length-append, rules}
use Rattle.vx_file.specs.declared.replies.ReplyKind.TheVariants.{Whole}
use Rattle.vx_file.specs.CompactReplies.{registered_count, whole_count}
use Rattle.vx_file.proofs.CompactLemmas.{whole-pushed, registered-pushed, registered-most, whole-is, kept-short, kept-whole}
use Rattle.vx_file.proofs.replies.Replies.add.Goals as goal

pub overflow_add-self : goal.overflow_add-self
overflow_add-self c =
    let kinds = c.self.inside.kinds.items in
    let kind = c.of-kind.result in
    let kept = c.self.invariant.1 in
    let more = registered-pushed kinds kind in
    let most = registered-most (kinds ++ kind ∷ []) in
    let long = length-append kinds (kind ∷ []) in
    let count = c.registered_count.ensures in
    let pushed = ap length c.in_ok-push.ensures.items in
    search rules

pub invariant_of-self-then-whole_count-eq0 : goal.invariant_of-self-then-whole_count-eq0
invariant_of-self-then-whole_count-eq0 c =
    let kinds = c.self.inside.kinds.items in
    let kind = c.of-kind.result in
    let kept = c.self.invariant in
    let whole = whole-pushed kinds kind in
    let registered = registered-pushed kinds kind in
    let count = c.registered_count.ensures in
    let none : whole_count kind ≡ 0 = search rules in
    rw c.in_ok-push.ensures.items (omega (arith, whole, kept.0, none), omega (arith, registered, kept.1, count), kept.2)

pub returns-then-whole_count-eq0-clause-ok : goal.returns-then-whole_count-eq0-clause-ok
returns-then-whole_count-eq0-clause-ok c =
    let inside = c.self.inside in
    let kept = c.self.invariant in
    rw c.in_ok-push.ensures.items (kept-short inside.kinds.items inside.whole.items c.of-kind.result c.args.reply inside.registered
    kept.0 kept.1 (search rules) c.of-kind.ensures
    ∙ ap (λ l. l ++ c.args.reply ∷ []) c.self.view_is)

pub invariant_of-self-in-Ok : goal.invariant_of-self-in-Ok
invariant_of-self-in-Ok c =
    let kinds = c.self.inside.kinds.items in
    let kind = c.of-kind.result in
    let kept = c.self.invariant in
    let whole = whole-pushed kinds kind in
    let registered = registered-pushed kinds kind in
    let is : kind ≡ Whole = whole-is kind (λ none. let no : ⊥ = search rules in no) in
    let one : whole_count kind ≡ 1 = subst (λ k. whole_count k ≡ 1) (sym is) refl in
    let none : registered_count kind ≡ 0 = subst (λ k. registered_count k ≡ 0) (sym is) refl in
    let long = length-append c.self.inside.whole.items (c.args.reply ∷ []) in
    rw (c.in_ok-push.ensures.items, c.in-Ok.ensures.items) (omega (arith, whole, kept.0, one, long), omega (arith, registered, kept.1, none), kept.2)

pub returns-in-Ok-clause-ok : goal.returns-in-Ok-clause-ok
returns-in-Ok-clause-ok c =
    let inside = c.self.inside in
    let is : c.of-kind.result ≡ Whole = whole-is c.of-kind.result (λ none. let no : ⊥ = search rules in no) in
    rw (c.in_ok-push.ensures.items, c.in-Ok.ensures.items) (kept-whole inside.kinds.items inside.whole.items c.of-kind.result c.args.reply c.self.invariant.0 is
    ∙ ap (λ l. l ++ c.args.reply ∷ []) c.self.view_is)
