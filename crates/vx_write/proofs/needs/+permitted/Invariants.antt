use Rattle.std.proofs.Common.{◌≡◌, map, drop}
use Rattle.std.specs.Prelude.{string_bytes}
use Rattle.vx_data.specs.Dtype.{pairs_view}
use Rattle.vx_write.specs.Plans.{plans_view}
use Rattle.vx_write.specs.Written.{may_write_all}
use Rattle.vx_write.proofs.needs.+permitted.Given as goal

abbrev pub invariant-are_all_permitted-loop-at : goal.invariant-are_all_permitted-loop-at
invariant-are_all_permitted-loop-at l =
    may_write_all (map string_bytes l.ids) (plans_view (drop l.at l.plans)) (pairs_view (drop l.at l.fields)) ≡ may_write_all (map string_bytes l.ids) (plans_view l.plans) (pairs_view l.fields)
