use Rattle.std.proofs.Common.{◌∙◌, sym}
use Rattle.vx_data.proofs.Shapes.{one_segment, no_segments, no_children}
use Rattle.vx_data.proofs.layout_shape.shaped_by.Goals as goal

pub parts_of-requires-clause-flat : goal.parts_of-requires-clause-flat
parts_of-requires-clause-flat c = λ flat.
    let shape = sym c.has_shape.ensures ∙ c.if-not-has_shape.false in
    (one_segment _ _ _ _ shape flat, no_children _ _ _ c.requires flat)

pub parts_of-requires-clause-others : goal.parts_of-requires-clause-others
parts_of-requires-clause-others c = λ other. no_segments _ _ _ _ (sym c.has_shape.ensures ∙ c.if-not-has_shape.false) other
