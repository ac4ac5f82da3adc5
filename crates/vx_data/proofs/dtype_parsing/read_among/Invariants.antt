use Rattle.std.proofs.Common.{◌≡◌, drop}
use Rattle.vx_data.specs.TextsRead.{ptype_among}
use Rattle.vx_data.proofs.dtype_parsing.read_among.Given as goal

-- none of the names so far comes
abbrev pub invariant-loop-at : goal.invariant-loop-at
invariant-loop-at l = ptype_among (drop l.at l.ptypes) l.text ≡ ptype_among l.ptypes l.text
