use Rattle.std.proofs.Common.{◌≡◌, ◌∙◌, rules, Some, Err, sym, ap}
use Rattle.std.specs.Option.{option_map}
use Rattle.vx_footer.specs.Footers.{FooterValue}
use Rattle.vx_file.specs.declared.served.ServeError.TheVariants.{OutOfMemory}
use Rattle.vx_file.specs.Plans.{plan_of}
use Rattle.vx_file.proofs.Opens.{supplied-cause, nothing-asked}
use Rattle.vx_file.proofs.opened.open_file.Goals as goal

pub returns-in_err-footer-clause-cause : goal.returns-in_err-footer-clause-cause
returns-in_err-footer-clause-cause g c = λ file told sized.
    let is : c.from_residual.result ≡ Err OutOfMemory = search rules in
    rw is (nothing-asked (plan_of c.args.options.now file) _)

pub returns-in-Some-clause-cause : goal.returns-in-Some-clause-cause
returns-in-Some-clause-cause g c = λ file told sized.
    let is : Some c.in-Some.footer.content ≡ c.args.options.now.footer = sym (ap (option_map (λ (f : FooterValue). f.content)) c.in-Some.is) ∙ c.in_ok-footer.ensures in
    supplied-cause c.args.options.now file c.in-Some.footer.content (g.R.Reader.state c.args.reader.now) c.open_supplied.result is c.open_supplied.ensures.supplies
