use Rattle.vx_data.proofs.TypesBack.{dtype_only}
use Rattle.vx_data.proofs.texts_back.dtype_text_is_read.Goals as goal

pub returns-clause-only : goal.returns-clause-only
returns-clause-only c = dtype_only
