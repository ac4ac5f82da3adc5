-- A read put in its place among others.
use Rattle.std.specs.Prelude.{List, [], ◌∷◌, if◌then◌else◌}
use Rattle.vx_sched.specs.Merging.{is_before}
use Rattle.vx_sched.specs.declared.request.ReadRequest.{ReadRequest}

-- the reads, with one put before the first that it is listed before
abbrev pub insert_read : ReadRequest → List ReadRequest → List ReadRequest
insert_read r [] = r ∷ []
insert_read r (s ∷ rest) = if is_before r s then r ∷ s ∷ rest else s ∷ insert_read r rest
