use Rattle.std.proofs.Common.{◌≡◌, drop}
use Rattle.vx_base.specs.Mischiefs.{mischief_at}
use Rattle.vx_base.proofs.mischief.mischief_at.Given as goal

abbrev pub invariant-loop-one : goal.invariant-loop-one
invariant-loop-one l = mischief_at (drop l.one-index l.mischief) l.place ≡ mischief_at l.mischief l.place
