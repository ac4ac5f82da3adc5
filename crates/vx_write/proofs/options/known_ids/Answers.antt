use Rattle.std.proofs.Common.{List, ℕ, ◌++◌, map, ap}
use Rattle.std.specs.Prelude.{string_bytes, if◌then◌else◌}
use Rattle.std.specs.List.{filter}
use Rattle.vx_data.specs.LayoutWritten.{has_id}
use Rattle.vx_data.specs.Session.{known_arrays}
use Rattle.vx_write.proofs.options.known_ids.Goals as goal

pub loop-id-init : goal.loop-id-init
loop-id-init c =
    ap (λ (xs : List (List ℕ)). xs ++ (if c.args.enforces then filter (has_id (map string_bytes c.args.enabled.now)) known_arrays else known_arrays)) (ap (map string_bytes) c.new-ids.ensures.items)
