use Rattle.vx_data.proofs.QuotedBack.{quoted_only}
use Rattle.vx_data.proofs.texts_back.quoted_text_is_read.Goals as goal

pub returns-clause-only : goal.returns-clause-only
returns-clause-only c = quoted_only
