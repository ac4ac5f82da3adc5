use Rattle.vx_print.proofs.QuotedLemmas.{four_bytes}
use Rattle.vx_text.proofs.TextLemmas.{holds_then}
use Rattle.vx_print.proofs.words.put_four.Goals as goal

pub returns : goal.returns
returns c = rw (← four_bytes c.args.bytes.now c.requires.four) (holds_then (holds_then (holds_then c.push.ensures.holds c.push-2.ensures.holds) c.push-3.ensures.holds) c.push-4.ensures.holds)
