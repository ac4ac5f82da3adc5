use Rattle.std.proofs.Common.{rules, ◌≡◌, ◌∙◌, ap, sym, arith, Err}
use Rattle.vx_footer.specs.declared.postscript.PostscriptMetadata.{PostscriptMetadata}
use Rattle.vx_footer.proofs.PostscriptSize.{keys_fail, keys_go}
use Rattle.vx_footer.proofs.postscript_writing.check_keys.Goals as goal

pub returns-in_err-check_key-clause-value : goal.returns-in_err-check_key-clause-value
returns-in_err-check_key-clause-value c =
    let is : c.from_residual.result ≡ Err c.in_err-check_key.field-0.0 = search rules in
    let name = c.as_str.ensures ∙ ap (λ (m : PostscriptMetadata). m.key) (sym c.index-entries-at.is) in
    keys_fail c.args.version c.args.entries.now c.loop-at.at c.index-entries-at.result c.front.result.now c.as_str.result.now c.in_err-check_key.field-0.0 c.from_residual.result
    (omega arith) c.index-entries-at.is c.front.ensures name c.in_err-check_key.ensures.value c.loop-at.invariant.0 is

pub loop-at-preserved : goal.loop-at-preserved
loop-at-preserved c =
    let name = c.as_str.ensures ∙ ap (λ (m : PostscriptMetadata). m.key) (sym c.index-entries-at.is) in
    keys_go c.args.version c.args.entries.now c.loop-at.at c.index-entries-at.result c.front.result.now c.as_str.result.now c.in_ok-check_key.field-0
    (omega arith) c.index-entries-at.is c.front.ensures name c.in_ok-check_key.ensures.value c.loop-at.invariant.0 c.in_ok-check_key.ensures.short c.loop-at.invariant.1
