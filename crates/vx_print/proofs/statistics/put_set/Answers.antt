use Rattle.vx_text.proofs.TextLemmas.{adds_then}
use Rattle.vx_print.proofs.statistics.put_set.Goals as goal

pub returns : goal.returns
returns g c = adds_then (adds_then (adds_then (adds_then (adds_then c.word.ensures c.number.ensures) c.put_stat.ensures) c.put_stat-2.ensures) c.put_stat-3.ensures) c.end_line.ensures
