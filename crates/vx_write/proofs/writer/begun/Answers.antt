use Rattle.std.proofs.Common.{[], subst, sym}
use Rattle.vx_data.specs.Dtype.{dtype_view}
use Rattle.vx_write.specs.Standing.{Stands}
use Rattle.vx_write.proofs.writer.begun.Goals as goal

pub returns-in-Ok-clause-begun : goal.returns-in-Ok-clause-begun
returns-in-Ok-clause-begun c gained = record {
  stands = subst (λ w. Stands c.args.options (dtype_view c.args.dtype) [] gained w gained) (sym c.new.ensures) (c.in-Ok.ensures.stands gained);
  accepted = tt;
  told = c.are_told.ensures;
  texts = c.has_texts.ensures;
}
