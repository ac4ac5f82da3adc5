use Rattle.std.proofs.Common.{◌≡◌, ◌++◌, map, drop, Some}
use Rattle.vx_data.specs.declared.ptype.PType.TheVariants.{I32}
use Rattle.vx_rows.specs.Rows.{AreWithin}
use Rattle.vx_commands.proofs.commands.demo.rows_of.Given as goal

abbrev pub invariant-loop-value : goal.invariant-loop-value
invariant-loop-value l = record {
  rows : l.rows.items ++ map Some (drop l.value-index l.values) ≡ map Some l.values;
  within : AreWithin I32 l.rows.items;
}
