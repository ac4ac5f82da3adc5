use Rattle.std.proofs.Common.{◌≡◌, ◌∷◌, ℕ, List, length, get_or, ◌∙◌, ap, arith}
use Rattle.vx_rows.specs.declared.column.Column.{Column}
use Rattle.vx_rows.specs.Rows.{Rows, column_view}
use Rattle.vx_rows.specs.Parts.{part}
use Rattle.vx_write.proofs.HoldingLemmas.{ok_by}
use Rattle.vx_write.proofs.PartsLemmas.{parts_many, part_at, start_before}
use Rattle.vx_write.proofs.chunks.Parts.part.Goals as goal

pub part-requires : goal.part-requires
part-requires c =
    let view = ap (λ (xs : List Rows). length xs) c.self.view_is in
    let many = parts_many (column_view c.self.inside.column) 0 c.self.inside.ends.items in
    let asked = c.requires in
    start_before 0 c.self.inside.ends.items c.args.at c.start_of-start.result c.index.result.now c.self.invariant (omega (arith, view, many, asked))
    (c.start_of-start.ensures ∙ ap (λ (es : List ℕ). get_or (0 ∷ es) c.args.at 0) c.deref.ensures.value) c.index.ensures

pub returns : goal.returns
returns c =
    let view = ap (λ (xs : List Rows). length xs) c.self.view_is in
    let many = parts_many (column_view c.self.inside.column) 0 c.self.inside.ends.items in
    let asked = c.requires in
    ok_by c.part.result (λ (x : Column). column_view x ≡ part c.start_of-start.result c.index.result.now (column_view c.self.inside.column))
    (λ (x : Column). (other : Rows) → column_view x ≡ get_or c.args.self.now c.args.at other)
    (λ x is other. is
    ∙ part_at (column_view c.self.inside.column) 0 c.self.inside.ends.items c.args.at c.start_of-start.result c.index.result.now other (omega (arith, view, many, asked))
    (c.start_of-start.ensures ∙ ap (λ (es : List ℕ). get_or (0 ∷ es) c.args.at 0) c.deref.ensures.value) c.index.ensures
    ∙ ap (λ (xs : List Rows). get_or xs c.args.at other) c.self.view_is)
    c.part.ensures
