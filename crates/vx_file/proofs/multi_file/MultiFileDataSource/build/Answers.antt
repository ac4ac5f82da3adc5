use Rattle.std.proofs.Common.{◌≡◌, ap, Err, inr, sym, ◌∙◌, arith}
use Rattle.std.proofs.lemmas.Bool.{eqb-false}
use Rattle.vx_file.proofs.MultiLemmas.{first_there}
use Rattle.vx_file.proofs.multi_file.MultiFileDataSource.build.Goals as goal

pub returns-in-Err-clause-stops : goal.returns-in-Err-clause-stops
returns-in-Err-clause-stops g c = λ e is.
    let same : c.in-Err.error ≡ e = cc in
    let some = eqb-false _ _ (sym c.is_empty.ensures ∙ c.if-is_empty.false) in
    inr (
      c.as_str.result.now,
      first_there _ _ _ _ _ _ c.in-Some.is c.into_vec-names.ensures some (omega (arith, c.into_vec-names.result.ok.0)) c.remove-name.ensures.value c.as_str.ensures.value,
      c.in-Err.ensures.stops e (ap Err same),
    )
