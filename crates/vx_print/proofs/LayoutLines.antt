-- The lines of layouts, and how large layouts are.
use Rattle.std.proofs.Common.{◌≡◌, ℕ, zero, suc, ◌+◌, ◌*◌, ◌<◌, ◌≤◌, List, [], ◌∷◌, ◌++◌, length, take, get_or, refl, sym, ap, ◌∙◌, arith, append_assoc, add-one}
use Rattle.std.proofs.lemmas.List.{append-nil}
use Rattle.vx_data.specs.Layout.{LayoutTree, node, layouts_of, children_of, kind_of, rows_of, segments_of, tree_size, trees_size}
use Rattle.vx_base.specs.Counts.{next_count}
use Rattle.vx_print.specs.FooterText.{layout_line, layout_lines, layouts_lines}

pub lines-are : (depth : ℕ) (t : LayoutTree) → layout_line depth (kind_of t) (rows_of t) (segments_of t) ++ layouts_lines (next_count depth) (children_of t) ≡ layout_lines depth t
lines-are depth (node k d n s ts) = refl

lines-take_suc : (depth : ℕ) (ts : List LayoutTree) (i : ℕ) (t : LayoutTree) → i < length ts → t ≡ get_or ts i t
    → layouts_lines depth (layouts_of (take i ts)) ++ layout_lines depth t ≡ layouts_lines depth (layouts_of (take (suc i) ts))
lines-take_suc depth [] i t inside is = absurd (omega (arith, inside))
lines-take_suc depth (u ∷ us) zero t inside is = ap (layout_lines depth) is ∙ sym (append-nil (layout_lines depth u))
lines-take_suc depth (u ∷ us) (suc i) t inside is =
    append_assoc (layout_lines depth u) (layouts_lines depth (layouts_of (take i us))) (layout_lines depth t)
    ∙ ap (λ l. layout_lines depth u ++ l) (lines-take_suc depth us i t (omega (arith, inside)) is)

-- the lines of one layout more
pub lines-take : (depth : ℕ) (ts : List LayoutTree) (i : ℕ) (t : LayoutTree) → i < length ts → t ≡ get_or ts i t
    → layouts_lines depth (layouts_of (take i ts)) ++ layout_lines depth t ≡ layouts_lines depth (layouts_of (take (i + 1) ts))
lines-take depth ts i t inside is = lines-take_suc depth ts i t inside is ∙ ap (λ n. layouts_lines depth (layouts_of (take n ts))) (sym (add-one i))

-- ---- sizes

pub size-is : (t : LayoutTree) → tree_size t ≡ suc (trees_size (children_of t))
size-is (node k d n s ts) = refl

pub size-of_one : (ts : List LayoutTree) (i : ℕ) (t : LayoutTree) → i < length ts → t ≡ get_or ts i t → tree_size t ≤ trees_size (layouts_of ts)
size-of_one [] i t inside is = absurd (omega (arith, inside))
size-of_one (u ∷ us) zero t inside is = omega (arith, ap tree_size is)
size-of_one (u ∷ us) (suc i) t inside is = omega (arith, size-of_one us i t (omega (arith, inside)) is)

-- one of some layouts is no larger than all
pub smaller_one : (ts : List LayoutTree) (i : ℕ) (t : LayoutTree) → i < length ts → t ≡ get_or ts i t → 2 * tree_size t < 2 * trees_size (layouts_of ts) + 1
smaller_one ts i t inside is = omega (arith, size-of_one ts i t inside is)
