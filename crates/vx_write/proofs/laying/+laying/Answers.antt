use Rattle.std.proofs.Common.{rules, arith, ◌≡◌, ◌+◌, ◌<◌, ◌≤◌, ◌++◌, ◌∷◌, [], List, ℕ, length, drop, length-drop, ap, sym, subst, ◌∙◌}
use Rattle.std.specs.Prelude.{is_some}
use Rattle.vx_data.specs.declared.layout_kind.LayoutKind.TheVariants.{Struct}
use Rattle.vx_data.specs.Dtype.{Dtype, dtype_view, fields_view, pairs_view, struct}
use Rattle.vx_data.specs.Layout.{Fits}
use Rattle.vx_rows.specs.Trees.{type_size, fields_size}
use Rattle.vx_write.specs.Laying.{all_laid_out, with_validity, validity_count, AreFull}
use Rattle.vx_write.specs.Plans.{plan_view, plans_view, IsFor, AreFor}
use Rattle.vx_write.proofs.LayingLemmas.{full_drop, struct_fits}
use Rattle.vx_write.proofs.LayingTurns.{with_append, field_inside, field_for, field_count, field_size}
use Rattle.vx_write.proofs.laying.+laying.Goals as goal

pub lay_out_struct-push_fields-requires : goal.lay_out_struct-push_fields-requires
lay_out_struct-push_fields-requires t c =
    let gs = c.args.groups.now in
    let count = validity_count c.args.validity.now in
    let same = c.as_slice.ensures in
    let rest = c.behind-rest.ensures ∙ ap (λ n. drop n gs) c.in_ok-first.ensures.count in (
      omega (arith, ap fields_size same),
      (
        subst (λ fs. AreFor (plans_view c.args.plans.now) fs) (sym same) c.requires.fit,
        (
          subst (λ hs. AreFull c.args.rows hs) (sym rest) (full_drop c.args.rows count gs c.requires.full),
          omega (arith, ap length rest, length-drop count gs, c.requires.enough),
        ),
      ),
    )

pub lay_out_struct-structure-requires : goal.lay_out_struct-structure-requires
lay_out_struct-structure-requires t c =
    let v = c.args.validity.now in
    let ps = plans_view c.args.plans.now in
    let fs = fields_view c.args.fields.now in
    let gs = c.args.groups.now in
    let n = c.args.rows in
    let same = c.as_slice.ensures in
    let rest = c.behind-rest.ensures ∙ ap (λ k. drop k gs) c.in_ok-first.ensures.count in
    let first = c.in_ok-first.ensures.children c.new-children.ensures.items in
    let items : c.push_fields.new.children.items ≡ with_validity v gs (all_laid_out ps fs n (drop (validity_count v) gs)) =
    c.in_ok-more.ensures.children
    ∙ ap (λ xs. xs ++ all_laid_out ps (pairs_view c.as_slice.result.now) n c.behind-rest.result.now) first
    ∙ ap (λ ts. with_validity v gs [] ++ all_laid_out ps ts n c.behind-rest.result.now) same
    ∙ ap (λ hs. with_validity v gs [] ++ all_laid_out ps fs n hs) rest
    ∙ with_append v gs (all_laid_out ps fs n (drop (validity_count v) gs)) in
    let dtype : dtype_view c.in_ok-share.field-0 ≡ struct fs (is_some v) = c.in_ok-share.ensures ∙ c.requires.type_is in
    subst (λ d. Fits Struct d n [] c.push_fields.new.children.items) (sym dtype) (subst (λ xs. Fits Struct (struct fs (is_some v)) n [] xs) (sym items) (struct_fits v ps fs n gs c.requires.fit c.requires.full c.requires.enough))

pub push_fields-lay_out-requires : goal.push_fields-lay_out-requires
push_fields-lay_out-requires t c =
    let now = c.loop-at.invariant in
    let plans = c.args.plans.now in
    let fields = c.args.fields.now in
    let plan = c.index-plans-at.result in
    let field = c.index-fields-at.result in
    let at = c.loop-at.at in
    let inside : at < length plans = omega arith in
    let within = field_inside plans fields at plan inside c.index-plans-at.is now.1 in
    let fit = field_for plans fields at plan field inside c.index-plans-at.is within c.index-fields-at.is now.1 in
    let count = field_count plans at plan inside c.index-plans-at.is in
    let size = field_size fields at field within c.index-fields-at.is in
    let rest = c.behind-rest.ensures in
    let same = c.index-fields-at.is in (
      omega (arith, size, now.3, ap (λ f. type_size (dtype_view f.1)) same),
      (
        subst (λ f. IsFor (plan_view plan) (dtype_view f.1)) same fit.0,
        (
          subst (λ hs. AreFull c.args.rows hs) (sym rest) (full_drop c.args.rows c.loop-at.next c.args.groups.now c.requires.full),
          omega (arith, count, now.0, ap length rest, length-drop c.loop-at.next c.args.groups.now, c.requires.enough),
        ),
      ),
    )
