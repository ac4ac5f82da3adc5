use Rattle.vx_rows.specs.Columns.{texts_of}
use Rattle.vx_rows.proofs.TextRowLemmas.{Gathered}
use Rattle.vx_rows.proofs.making.gather.Given as goal

abbrev pub invariant-loop-value : goal.invariant-loop-value
invariant-loop-value l = Gathered (texts_of l.values) l.value-index l.bytes.items l.places
