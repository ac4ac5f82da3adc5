use Rattle.vx_text.proofs.TextLemmas.{adds_then}
use Rattle.vx_commands.proofs.print.help.put_help.Goals as goal

pub returns : goal.returns
returns g c =
    let commands = adds_then (adds_then (adds_then (adds_then c.word.ensures c.word-2.ensures) c.word-3.ensures) c.word-4.ensures) c.word-5.ensures in
    let serve = adds_then (adds_then (adds_then (adds_then (adds_then commands c.word-6.ensures) c.word-7.ensures) c.word-8.ensures) c.word-9.ensures) c.word-10.ensures in
    let others = adds_then (adds_then (adds_then (adds_then (adds_then serve c.word-11.ensures) c.word-12.ensures) c.word-13.ensures) c.word-14.ensures) c.word-15.ensures in
    let texts = adds_then (adds_then (adds_then (adds_then (adds_then others c.word-16.ensures) c.word-17.ensures) c.word-18.ensures) c.word-19.ensures) c.word-20.ensures in
    let script = adds_then (adds_then (adds_then (adds_then (adds_then texts c.word-21.ensures) c.word-22.ensures) c.word-23.ensures) c.word-24.ensures) c.word-25.ensures in
    let predicates = adds_then (adds_then (adds_then (adds_then (adds_then script c.word-26.ensures) c.word-27.ensures) c.word-28.ensures) c.word-29.ensures) c.word-30.ensures in
    adds_then (adds_then (adds_then (adds_then (adds_then (adds_then predicates c.word-31.ensures) c.word-32.ensures) c.word-33.ensures) c.word-34.ensures) c.word-35.ensures) c.word-36.ensures
