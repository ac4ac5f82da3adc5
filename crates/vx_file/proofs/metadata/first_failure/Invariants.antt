use Rattle.std.proofs.Common.{◌≡◌, drop}
use Rattle.vx_file.specs.Loading.{first_failed}
use Rattle.vx_file.proofs.metadata.first_failure.Given as goal

-- none in front failed
abbrev pub invariant-loop-reply : goal.invariant-loop-reply
invariant-loop-reply l = first_failed l.replies ≡ first_failed (drop l.reply-index l.replies)
