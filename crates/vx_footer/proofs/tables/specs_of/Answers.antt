use Rattle.std.proofs.Common.{◌∙◌}
use Rattle.vx_footer.proofs.Specs.{push_aligned, next_room}
use Rattle.vx_footer.proofs.tables.specs_of.Goals as goal

pub loop-at-preserved : goal.loop-at-preserved
loop-at-preserved c = record {
  value = rw c.in_ok-push.ensures.items (
      push_aligned _ _ _ _ _ _ _ c.loop-at-test.true c.split_locator.ensures.locator c.split_locator.ensures.rest c.in-Some.ensures ∙ c.loop-at.invariant.value
      );
  room = next_room _ _ _ _ c.loop-at-test.true c.loop-at.invariant.room c.split_locator.ensures.rest;
}
