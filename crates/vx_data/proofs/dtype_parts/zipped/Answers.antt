use Rattle.std.proofs.Common.{◌∙◌, rules}
use Rattle.std.proofs.lemmas.Iterator.{items_from_collect, YieldsList-from_zip}
use Rattle.std.proofs.lemmas.Iterator.Adapters.{YieldsList-from_vec}
use Rattle.std.proofs.lemmas.Iterator.Consumers.{YieldsList-at}
use Rattle.vx_data.proofs.dtype_parts.zipped.Goals as goal

pub returns : goal.returns
returns c = items_from_collect _ c.collect.ensures.ran (YieldsList-from_zip
    (YieldsList-at c.zip.ensures.first (YieldsList-from_vec c.args.names.items c.into_iter.ensures.rest (search rules)))
    (YieldsList-from_vec c.args.dtypes.items c.zip.ensures.second.0 (c.zip.ensures.second.1 ∙ c.args.dtypes.ok.0)))
