use Rattle.std.proofs.Common.{◌≡◌, ◌-◌, ◌∷◌, [], subst}
use Rattle.std.specs.Prelude.{IfSome}
use Rattle.vx_sched.specs.declared.request.ReadRequest.{ReadRequest}
use Rattle.vx_source.proofs.FilingLemmas.{whole-good}
use Rattle.vx_source.proofs.filing.file_good.Goals as goal

pub returns-in_ok-push-in-Some : goal.returns-in_ok-push-in-Some
returns-in_ok-push-in-Some c =
    let span = c.args.span.now in
    let only = subst (λ o. IfSome o (λ (r : ReadRequest). span.reads ≡ r ∷ [])) c.in-Some.is c.only_read.ensures.only in
    let start = subst (λ o. IfSome o (λ (r : ReadRequest). r.offset ≡ span.start)) c.in-Some.is c.only_read.ensures.start in
    let whole = subst (λ o. IfSome o (λ (r : ReadRequest). r.length ≡ span.end - span.start)) c.in-Some.is c.only_read.ensures.whole in
    rw (c.in_ok-push-in-Some.ensures.items, c.good.ensures, c.aligned-bytes.ensures)
    (whole-good span c.args.buffer c.in-Some.read c.args.filed.now.items only start whole c.requires)
