use Rattle.std.proofs.Common.{◌≡◌, ap, Err}
use Rattle.vx_file.proofs.MultiLemmas.{opening_reading}
use Rattle.vx_file.proofs.named_files.read_named.Goals as goal

pub returns-in-Err-clause-stops : goal.returns-in-Err-clause-stops
returns-in-Err-clause-stops g c = λ e is.
    let same : c.in-Err.error ≡ e = cc in
    opening_reading _ _ _ _ _ _ e (c.in-Err.ensures.stops e (ap Err same))
