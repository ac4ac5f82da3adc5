use Rattle.std.proofs.Common.{◌≡◌, ◌∙◌, rules}
use Rattle.std.specs.Prelude.{string_bytes}
use Rattle.vx_data.proofs.Shared.{one_shared}
use Rattle.vx_data.proofs.dtype.+sharing.Goals as goal

pub share_all-loop-at-preserved : goal.share_all-loop-at-preserved
share_all-loop-at-preserved t c =
    let name : string_bytes c.in_ok-clone.field-0 ≡ string_bytes c.index-fields-at.result.0 = search rules in
    rw c.in_ok-push.ensures.items (one_shared _ _ _ _ c.index-fields-at.result c.loop-at-test.true c.index-fields-at.is name c.in_ok-share.ensures ∙ c.loop-at.invariant)
