use Rattle.std.proofs.Common.{◌≡◌, rules, Err}
use Rattle.vx_file.specs.declared.served.ServeError.TheVariants.{OutOfMemory}
use Rattle.vx_file.proofs.Opens.{tail-refused, tail-stops, footer-refused, tail-opens, fit-tail}
use Rattle.vx_file.proofs.opened.open_tail.Goals as goal

pub returns-in_err-opening-clause-cause : goal.returns-in_err-opening-clause-cause
returns-in_err-opening-clause-cause g c = λ file told sized.
    let e = c.in_err-opening.field-0.0 in
    let is : c.from_residual.result ≡ Err e = search rules in
    rw is (tail-refused c.args.options.now file _ _ e (c.in_err-opening.ensures.cause file told sized))

pub returns-in_err-footer-clause-cause : goal.returns-in_err-footer-clause-cause
returns-in_err-footer-clause-cause g c = λ file told sized.
    let e = c.in_err-footer.field-0.0 in
    let read = c.in_ok-opening.ensures.cause file told sized in
    let is : c.from_residual-in_err-footer.result ≡ Err e = search rules in
    rw is (footer-refused c.args.options.now file _ _ c.in_ok-opening.opening read e (c.in_err-footer.ensures.cause file read.tail read.footer))

pub returns-in_err-ranges-clause-cause : goal.returns-in_err-ranges-clause-cause
returns-in_err-ranges-clause-cause g c = λ file told sized.
    let is : c.from_residual-in_err-ranges.result ≡ Err OutOfMemory = search rules in
    rw is (tail-stops c.args.options.now file _ _ c.in_ok-opening.opening (c.in_ok-opening.ensures.cause file told sized))

pub returns-clause-cause : goal.returns-clause-cause
returns-clause-cause g c = λ file told sized.
    let read = c.in_ok-opening.ensures.cause file told sized in
    tail-opens c.args.options.now file _ _ c.in_ok-opening.opening read c.in_ok-footer.footer c.in_ok-ranges.ranges (c.in_ok-footer.ensures.cause file read.tail read.footer) c.in_ok-ranges.ensures

pub returns-clause-fit : goal.returns-clause-fit
returns-clause-fit g c = fit-tail c.in_ok-opening.opening.tail _ c.in_ok-opening.ensures.bound c.in_ok-footer.ensures.within
