use Rattle.vx_text.proofs.TextLemmas.{adds_then}
use Rattle.vx_print.proofs.layout.put_one.Goals as goal

pub returns : goal.returns
returns g c = adds_then (adds_then (adds_then (adds_then (adds_then c.word.ensures c.number.ensures) c.word-2.ensures) c.put_kind.ensures) c.put_counts.ensures) c.end_line.ensures
