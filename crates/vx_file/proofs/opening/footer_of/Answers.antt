use Rattle.std.proofs.Common.{rules, ◌≡◌, ◌+◌, true, false, Err, length}
use Rattle.std.specs.List.{list_all}
use Rattle.vx_footer.specs.Footers.{segment_table}
use Rattle.vx_footer.specs.Opening.{ends_within}
use Rattle.vx_file.proofs.Openings.{footer-errs, footer-content, whole-file}
use Rattle.vx_file.proofs.opening.footer_of.Goals as goal

pub returns-in_err-footer-clause-cause : goal.returns-in_err-footer-clause-cause
returns-in_err-footer-clause-cause c = λ file tail found.
    let e = c.in_err-footer.field-0.0 in
    let is : c.from_residual.result ≡ Err e = search rules in
    rw is (footer-errs c.args.options.now file c.args.tail.now c.args.footer e tail c.in_err-footer.ensures.known c.in_err-footer.ensures.told)

pub returns-then-is_err-clause-cause : goal.returns-then-is_err-clause-cause
returns-then-is_err-clause-cause c = λ file tail found.
    let t = c.args.tail.now in
    let f = c.in_ok-footer.footer in
    let ends : false ≡ list_all (ends_within (t.start + length t.bytes.bytes)) (segment_table f.content) = search rules in
    whole-file c.args.options.now file t f.content false tail (footer-content c.args.options.now file t c.args.footer f tail found c.in_ok-footer.ensures.known c.in_ok-footer.ensures.told) ends

pub returns-clause-cause : goal.returns-clause-cause
returns-clause-cause c = λ file tail found.
    let t = c.args.tail.now in
    let f = c.in_ok-footer.footer in
    let ends : true ≡ list_all (ends_within (t.start + length t.bytes.bytes)) (segment_table f.content) = search rules in
    whole-file c.args.options.now file t f.content true tail (footer-content c.args.options.now file t c.args.footer f tail found c.in_ok-footer.ensures.known c.in_ok-footer.ensures.told) ends
