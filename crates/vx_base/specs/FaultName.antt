-- The words for kinds of faults.
use Rattle.std.specs.Prelude.{ℕ, List, codes}
use Rattle.vx_base.specs.declared.fault.FaultKind.{FaultKind}
use Rattle.vx_base.specs.declared.fault.FaultKind.TheVariants.{ReadFault, ShortRead, MissingRange}

-- the name of a kind
abbrev pub fault_name : FaultKind → List ℕ
fault_name ReadFault = codes "ReadFault"
fault_name ShortRead = codes "ShortRead"
fault_name MissingRange = codes "MissingRange"
