use Rattle.std.proofs.Common.{◌≡◌, drop}
use Rattle.vx_base.specs.Memory.{file_named}
use Rattle.vx_base.proofs.mem_opener.reader_of.Given as goal

abbrev pub invariant-loop-text : goal.invariant-loop-text
invariant-loop-text l = file_named l.name (drop l.text-index l.files) ≡ file_named l.name l.files
