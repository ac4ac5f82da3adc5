use Rattle.vx_data.specs.Dtype.{dtype_view}
use Rattle.vx_write.proofs.LeafLemmas.{new_held, new_leaf}
use Rattle.vx_write.proofs.held_leaf.HeldLeaf.new.Goals as goal

pub invariant_of-result : goal.invariant_of-result
invariant_of-result c = new_held c.args.strategy (dtype_view c.args.dtype.now) c.in_ok-rows.rows c.plain_size-size.result c.requires c.in_ok-rows.ensures.value c.plain_size-size.ensures

pub returns : goal.returns
returns c = new_leaf c.args.strategy (dtype_view c.args.dtype.now) c.in_ok-rows.rows c.in_ok-rows.ensures.value
