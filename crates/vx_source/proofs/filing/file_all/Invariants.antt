use Rattle.std.proofs.Common.{◌≡◌, length}
use Rattle.vx_source.specs.Blocks.{file_reads}
use Rattle.vx_source.proofs.filing.file_all.Given as goal

abbrev pub invariant-loop-one : goal.invariant-loop-one
invariant-loop-one l = record {
  items : file_reads l.reads.items l.one-iterator.rest.items ≡ file_reads l.fn.reads.items l.fn.filed.items;
  len : length l.reads.items ≡ length l.fn.reads.items;
}
