use Rattle.std.proofs.Common.{[], Some, refl, sym, ◌∙◌, subst}
use Rattle.vx_base.specs.Streams.{WritesAll}
use Rattle.vx_text.proofs.TextLemmas.{passes_err}
use Rattle.vx_text.proofs.text.pass.Goals as goal

pub returns-in-Err : goal.returns-in-Err
returns-in-Err g c =
    let bytes = c.args.bytes.now in
    let before = g.S.Sink.state c.args.out.now in
    let now = g.S.Sink.state c.write_all.new.sink in
    passes_err bytes c.in-Err.error (record { held = []; failure = c.args.failure.now }) (record { held = []; failure = Some c.in-Err.error }) before now
    refl (sym c.is_some.ensures ∙ c.if-is_some.false) refl (subst (λ r. WritesAll bytes before now r) c.in-Err.is c.write_all.ensures.written) c.write_all.ensures.same
