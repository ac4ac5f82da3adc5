use Rattle.std.proofs.Common.{◌∙◌, ap, sym, subst}
use Rattle.vx_source.specs.Sources.{NeverFails}
use Rattle.vx_file.proofs.reader_scanning.scan_session.Goals as goal

pub returns-clause-steady : goal.returns-clause-steady
returns-clause-steady g c = λ file h.
    let state = g.R.Reader.state in
    let new = c.new-source.ensures in
    let here = subst (λ k. NeverFails k (state c.new-source.result.reader) file) (sym new.session) (subst (λ r. NeverFails c.args.session r file) (sym (ap state new.reader)) h) in
    ap (λ r. (state r).faults) c.into_parts-session.ensures.reader ∙ (c.scan_rows-rows.ensures.steady file here).1 ∙ ap (λ r. (state r).faults) new.reader
