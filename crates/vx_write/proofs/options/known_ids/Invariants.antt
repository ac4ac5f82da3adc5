use Rattle.std.proofs.Common.{◌≡◌, ◌++◌, map, drop}
use Rattle.std.specs.Prelude.{string_bytes, if◌then◌else◌}
use Rattle.std.specs.List.{filter}
use Rattle.vx_data.specs.LayoutWritten.{has_id}
use Rattle.vx_data.specs.Session.{known_arrays}
use Rattle.vx_write.proofs.options.known_ids.Given as goal

-- the ids so far and those still to come
abbrev pub invariant-loop-id : goal.invariant-loop-id
invariant-loop-id l =
    map string_bytes l.ids.items ++ (if l.enforces then filter (has_id (map string_bytes l.enabled)) (map (λ id. id.now) (drop l.id-index l.id-items)) else map (λ id. id.now) (drop l.id-index l.id-items))
    ≡ (if l.enforces then filter (has_id (map string_bytes l.enabled)) known_arrays else known_arrays)
