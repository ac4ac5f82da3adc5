use Rattle.std.proofs.Common.{sym, subst}
use Rattle.vx_source.specs.Bytes.{HasBytes}
use Rattle.vx_file.proofs.reader_opening.source_of.Goals as goal

pub returns-clause-bytes : goal.returns-clause-bytes
returns-clause-bytes g c = λ file end. subst (HasBytes file) (sym c.new.ensures.session) (c.in_ok-session.ensures.bytes file end)
