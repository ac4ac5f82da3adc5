use Rattle.vx_data.proofs.Asked.{plain_count, nullable_count}
use Rattle.vx_data.proofs.layout_shape.has_fields.Goals as goal

pub returns-then-not-nullable : goal.returns-then-not-nullable
returns-then-not-nullable c = plain_count _ _ _ c.if-not-nullable.true

pub returns-then-count-gt0 : goal.returns-then-count-gt0
returns-then-count-gt0 c = nullable_count _ _ _ c.if-not-nullable.false c.if-count-gt0.true
