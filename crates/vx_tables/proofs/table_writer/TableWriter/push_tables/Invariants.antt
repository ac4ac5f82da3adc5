use Rattle.std.proofs.Common.{◌≡◌, ◌++◌, map, drop}
use Rattle.vx_tables.specs.Block.{table}
use Rattle.vx_tables.proofs.table_writer.TableWriter.push_tables.Given as goal

abbrev pub invariant-loop-writer : goal.invariant-loop-writer
invariant-loop-writer l = l.elements.items ++ map (table 0) (drop l.writer-index l.writer-items) ≡ map (table 0) l.fn.value.items
