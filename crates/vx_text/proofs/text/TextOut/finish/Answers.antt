use Rattle.std.proofs.Common.{sym, ap, ◌∙◌}
use Rattle.vx_text.proofs.TextLemmas.{ends_broken, ends_with}
use Rattle.vx_text.proofs.text.TextOut.finish.Goals as goal

pub returns-in-Some : goal.returns-in-Some
returns-in-Some g c = ends_broken c.in-Some.error c.args.self (g.S.Sink.state c.args.out.now) (ap (λ t. t.failure) (sym c.self.view_is) ∙ c.in-Some.is)

pub returns-in-None : goal.returns-in-None
returns-in-None g c = ends_with c.as_slice.result.now c.args.self (g.S.Sink.state c.args.out.now) (g.S.Sink.state c.write_flushed.new.sink) c.write_flushed.result
    (c.as_slice.ensures ∙ ap (λ t. t.held) c.self.view_is) (ap (λ t. t.failure) (sym c.self.view_is) ∙ c.in-None.is) c.write_flushed.ensures.written c.write_flushed.ensures.flushed c.write_flushed.ensures.same
