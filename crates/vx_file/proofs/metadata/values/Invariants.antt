use Rattle.std.proofs.Common.{◌≡◌, ◌++◌, drop}
use Rattle.vx_file.specs.Loading.{values_of}
use Rattle.vx_file.proofs.metadata.values.Given as goal

-- the values of the entries in front stand there
abbrev pub invariant-loop-entry : goal.invariant-loop-entry
invariant-loop-entry l = l.values ++ values_of (drop l.entry-index l.entries) l.replies.rest.items ≡ values_of l.entries l.fn.replies
