use Rattle.vx_data.specs.declared.ptype.PType.TheVariants.{U32}
use Rattle.vx_rows.specs.Columns.{value_place}
use Rattle.vx_rows.proofs.TextLemmas.{SoFar}
use Rattle.vx_rows.proofs.text_reading.wide_places_of.Given as goal

abbrev pub invariant-loop-row : goal.invariant-loop-row
invariant-loop-row l = SoFar l.bytes l.at (value_place U32 l.at l.rows) l.row l.place l.places
