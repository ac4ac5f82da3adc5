use Rattle.std.proofs.Common.{◌≡◌, drop}
use Rattle.vx_data.specs.Layout.{numbers_of}
use Rattle.vx_footer.specs.Gathering.{first_missing}
use Rattle.vx_footer.proofs.gathered.first_missing.Given as goal

-- none of the numbers so far is past the count
abbrev pub invariant-loop-id : goal.invariant-loop-id
invariant-loop-id l = first_missing l.count (numbers_of (drop l.id-index l.ids)) ≡ first_missing l.count (numbers_of l.ids)
