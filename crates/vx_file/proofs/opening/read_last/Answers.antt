use Rattle.std.proofs.Common.{◌∙◌, arith}
use Rattle.vx_file.proofs.opening.read_last.Goals as goal

pub returns-in_err-bytes-clause-steady : goal.returns-in_err-bytes-clause-steady
returns-in_err-bytes-clause-steady g c = λ file never told sized.
    let clauses = c.in-Ok.ensures in
    c.read_range.ensures.steady file (clauses.same.never_fails ∙ never) (clauses.same.bytes ∙ told) (omega (arith, clauses.cause.told file told sized, c.saturating_sub-start.ensures)) ∙ (clauses.cause.sound never).1

pub returns-in-Ok-2-clause-steady : goal.returns-in-Ok-2-clause-steady
returns-in-Ok-2-clause-steady g c = λ file never told sized.
    let clauses = c.in-Ok.ensures in
    c.read_range.ensures.steady file (clauses.same.never_fails ∙ never) (clauses.same.bytes ∙ told) (omega (arith, clauses.cause.told file told sized, c.saturating_sub-start.ensures)) ∙ (clauses.cause.sound never).1

pub returns-in-Err-2-clause-steady : goal.returns-in-Err-2-clause-steady
returns-in-Err-2-clause-steady g c = λ file never told sized.
    let clauses = c.in-Ok.ensures in
    c.read_range.ensures.steady file (clauses.same.never_fails ∙ never) (clauses.same.bytes ∙ told) (omega (arith, clauses.cause.told file told sized, c.saturating_sub-start.ensures)) ∙ (clauses.cause.sound never).1
