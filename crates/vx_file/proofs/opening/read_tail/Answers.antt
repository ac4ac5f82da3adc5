use Rattle.std.proofs.Common.{rules, ◌≡◌, ◌∙◌, Ok, Err, subst, arith}
use Rattle.vx_footer.specs.declared.deserializer.DeserializeStep.TheVariants.{NeedMoreData, Done}
use Rattle.vx_file.specs.declared.opening.Look.{Look}
use Rattle.vx_file.specs.Tails.{tail_step, Looks}
use Rattle.vx_file.proofs.Openings.{first-errs, look-errs, before-errs, first-whole, second-read, meets, prefixed-length, settled-by}
use Rattle.vx_file.proofs.opening.read_tail.Goals as goal

pub returns-in_err-last-clause-cause : goal.returns-in_err-last-clause-cause
returns-in_err-last-clause-cause g c = λ file told sized.
    let e = c.in_err-last.field-0.0 in
    let is : c.from_residual.result ≡ Err e = search rules in
    rw is (first-errs c.args.options.now file _ _ e (c.in_err-last.ensures.cause file told sized))

pub returns-in_err-footer-clause-cause : goal.returns-in_err-footer-clause-cause
returns-in_err-footer-clause-cause g c = λ file told sized.
    let e = c.in_err-footer.field-0.0 in
    let is : c.from_residual-in_err-footer.result ≡ Err e = search rules in
    rw is (look-errs c.args.options.now file _ _ c.in_ok-last.last e (c.in_ok-last.ensures.cause file told sized) c.in_err-footer.ensures.value)

pub read_before-requires : goal.read_before-requires
read_before-requires g c =
    let asked : tail_step c.args.options.now c.in_ok-last.last ≡ Ok (NeedMoreData c.in-Before.offset c.in-Before.len) = subst (λ (l : Look). Looks (tail_step c.args.options.now c.in_ok-last.last) (Ok l)) c.in-Before.is c.in_ok-footer.ensures.value in
    meets c.args.options.now c.in_ok-last.last c.in-Before.offset c.in-Before.len asked

pub returns-in_err-tail-in-Before-clause-cause : goal.returns-in_err-tail-in-Before-clause-cause
returns-in_err-tail-in-Before-clause-cause g c = λ file told sized.
    let e = c.in_err-tail-in-Before.field-0.0 in
    let is : c.from_residual-in_err-tail-in-Before.result ≡ Err e = search rules in
    let asked : tail_step c.args.options.now c.in_ok-last.last ≡ Ok (NeedMoreData c.in-Before.offset c.in-Before.len) = subst (λ (l : Look). Looks (tail_step c.args.options.now c.in_ok-last.last) (Ok l)) c.in-Before.is c.in_ok-footer.ensures.value in
    rw is (before-errs c.args.options.now file _ _ _ c.in_ok-last.last c.in-Before.offset c.in-Before.len e (c.in_ok-last.ensures.cause file told sized) asked
    (c.in_err-tail-in-Before.ensures.cause file (c.in_ok-last.ensures.same.bytes ∙ told)))

pub returns-in-Whole-clause-cause : goal.returns-in-Whole-clause-cause
returns-in-Whole-clause-cause g c = λ file told sized.
    let found : tail_step c.args.options.now c.in_ok-last.last ≡ Ok (Done c.in-Whole.footer) = subst (λ (l : Look). Looks (tail_step c.args.options.now c.in_ok-last.last) (Ok l)) c.in-Whole.is c.in_ok-footer.ensures.value in
    first-whole c.args.options.now file _ _ c.in_ok-last.last c.in-Whole.footer (c.in_ok-last.ensures.cause file told sized) found

pub returns-in_ok-tail-in-Before-clause-cause : goal.returns-in_ok-tail-in-Before-clause-cause
returns-in_ok-tail-in-Before-clause-cause g c = λ file told sized.
    let asked : tail_step c.args.options.now c.in_ok-last.last ≡ Ok (NeedMoreData c.in-Before.offset c.in-Before.len) = subst (λ (l : Look). Looks (tail_step c.args.options.now c.in_ok-last.last) (Ok l)) c.in-Before.is c.in_ok-footer.ensures.value in
    second-read c.args.options.now file _ _ _ c.in_ok-last.last c.in_ok-tail-in-Before.tail c.in-Before.offset c.in-Before.len (c.in_ok-last.ensures.cause file told sized) asked
    (c.in_ok-tail-in-Before.ensures.cause file (c.in_ok-last.ensures.same.bytes ∙ told))

pub returns-in_ok-tail-in-Before-clause-bound : goal.returns-in_ok-tail-in-Before-clause-bound
returns-in_ok-tail-in-Before-clause-bound g c =
    let asked : tail_step c.args.options.now c.in_ok-last.last ≡ Ok (NeedMoreData c.in-Before.offset c.in-Before.len) = subst (λ (l : Look). Looks (tail_step c.args.options.now c.in_ok-last.last) (Ok l)) c.in-Before.is c.in_ok-footer.ensures.value in
    let p = c.in_ok-tail-in-Before.ensures.prefixed in
    omega (arith, p.start, prefixed-length _ _ c.in_ok-last.last c.in_ok-tail-in-Before.tail p, meets c.args.options.now c.in_ok-last.last c.in-Before.offset c.in-Before.len asked, c.in_ok-last.ensures.bound)

pub returns-in_ok-tail-in-Before-clause-order : goal.returns-in_ok-tail-in-Before-clause-order
returns-in_ok-tail-in-Before-clause-order g c =
    let asked : tail_step c.args.options.now c.in_ok-last.last ≡ Ok (NeedMoreData c.in-Before.offset c.in-Before.len) = subst (λ (l : Look). Looks (tail_step c.args.options.now c.in_ok-last.last) (Ok l)) c.in-Before.is c.in_ok-footer.ensures.value in
    let p = c.in_ok-tail-in-Before.ensures.prefixed in
    let joined = meets c.args.options.now c.in_ok-last.last c.in-Before.offset c.in-Before.len asked in
    (omega (arith, p.start, joined), omega (arith, p.start, joined, prefixed-length _ _ c.in_ok-last.last c.in_ok-tail-in-Before.tail p))

pub returns-in_ok-tail-in-Before-clause-settled : goal.returns-in_ok-tail-in-Before-clause-settled
returns-in_ok-tail-in-Before-clause-settled g c =
    let asked : tail_step c.args.options.now c.in_ok-last.last ≡ Ok (NeedMoreData c.in-Before.offset c.in-Before.len) = subst (λ (l : Look). Looks (tail_step c.args.options.now c.in_ok-last.last) (Ok l)) c.in-Before.is c.in_ok-footer.ensures.value in
    settled-by c.args.options.now c.in-Before.offset c.in-Before.len c.in_ok-last.last c.in_ok-tail-in-Before.tail c.in_ok-tail-in-Before.ensures.prefixed asked
