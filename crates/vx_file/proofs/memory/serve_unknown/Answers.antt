use Rattle.std.proofs.Common.{subst, sym, refl, arith}
use Rattle.std.specs.Prelude.{IsOk}
use Rattle.vx_base.specs.Caches.{nothing_held}
use Rattle.vx_file.specs.Hints.{Hints, IsSized, IsFooterOf}
use Rattle.vx_file.specs.Plans.{plan_of}
use Rattle.vx_file.specs.Serving.{HasCause}
use Rattle.vx_file.proofs.memory.serve_unknown.Goals as goal

pub returns-clause-cause : goal.returns-clause-cause
returns-clause-cause g c = λ file told.
    let sized = subst (λ h. IsSized h file) (sym c.new.ensures) tt in
    subst (λ h. HasCause h file c.args.script.now (g.R.Reader.state c.args.reader.now) (g.R.Reader.state c.serve_script.new.reader) nothing_held nothing_held c.serve_script.result) c.new.ensures (c.serve_script.ensures.cause file told sized)

pub returns-clause-steady : goal.returns-clause-steady
returns-clause-steady g c = λ file never told.
    c.serve_script.ensures.steady file never told (subst (λ h. IsSized h file) (sym c.new.ensures) tt) (subst (λ (h : Hints). IsFooterOf h.footer file) (sym c.new.ensures) tt)

pub returns-clause-served : goal.returns-clause-served
returns-clause-served g c = λ file told grammar still.
    let is = sym c.new.ensures in
    c.serve_script.ensures.served file told (subst (λ h. IsSized h file) is tt) (subst (λ h. IsOk (plan_of h file).footer) is grammar) still
    (record { same = refl; below = omega arith })
