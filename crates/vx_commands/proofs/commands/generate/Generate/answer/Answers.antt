use Rattle.std.proofs.Common.{rules, ◌≡◌, Err, subst}
use Rattle.vx_commands.specs.Summaries.{SumsUp, SummaryCause}
use Rattle.vx_commands.proofs.Summing.{gen_answers, gen_fails}
use Rattle.vx_commands.proofs.commands.generate.Generate.answer.Goals as goal

pub returns-clause-gathers : goal.returns-clause-gathers
returns-clause-gathers c = λ source files.
    let s = c.in_ok-summary.summary in
    gen_answers c.args.self.now source files s (subst (λ n. SumsUp c.args.self.now.seed n s) c.get.ensures.value c.in_ok-summary.ensures)

pub returns-in_err-summary-clause-gathers : goal.returns-in_err-summary-clause-gathers
returns-in_err-summary-clause-gathers c = λ source files.
    let g = c.args.self.now in
    let e = c.in_err-summary.field-0.0 in
    let is : c.from_residual.result ≡ Err e = search rules in
    rw is (gen_fails g source files e (subst (λ n. SummaryCause g.seed n (Err e)) c.get.ensures.value c.in_err-summary.ensures))
