-- Segments that lie one behind the other, with one more.
use Rattle.std.proofs.Common.{◌≡◌, ℕ, ◌+◌, ◌%◌, ◌^◌, ◌≤◌, true, List, [], ◌∷◌, ◌++◌, arith}
use Rattle.std.specs.Prelude.{◌==◌, ◌&&◌, nat_le}
use Rattle.std.proofs.lemmas.Bool.Decides.{nat_tests}
use Rattle.vx_base.specs.declared.segment.SegmentSpec.{SegmentSpec}
use Rattle.vx_write.specs.Sinks.{are_laid}

pub laid_push : (from : ℕ) (ss : List SegmentSpec) (to : ℕ) (s : SegmentSpec) (next : ℕ) → are_laid from ss to ≡ true → to ≤ s.offset → s.offset % 2 ^ s.alignment ≡ 0 → s.offset + s.length ≤ next
    → are_laid from (ss ++ s ∷ []) next ≡ true
laid_push from [] to s next h after aligned inside = grind (arith, nat_tests)
laid_push from (x ∷ xs) to s next h after aligned inside =
    let rest = laid_push (x.offset + x.length) xs to s next (grind (arith, nat_tests)) after aligned inside in
    grind (arith, nat_tests)
