-- The line of a drive that read nothing.
use Rattle.std.proofs.Common.{◌≡◌, List, [], ◌∷◌, ◌++◌, length, ap, arith}
use Rattle.std.specs.Prelude.{codes}
use Rattle.std.specs.List.{flat_map}
use Rattle.std.proofs.lemmas.Fmt.{decimal_digit}
use Rattle.vx_source.specs.declared.span.Span.{Span}
use Rattle.vx_print.specs.Lines.{line}
use Rattle.vx_commands.specs.Render.{span_line}

pub idle-text : (spans : List Span) → length spans ≡ 0 → line (codes "driven") (length spans ∷ []) ++ flat_map span_line spans ≡ codes "driven 0\n"
idle-text [] e = ap (λ d. ((codes "driven" ++ ((32 ∷ d) ++ [])) ++ 10 ∷ []) ++ []) (decimal_digit 0 (omega arith))
idle-text (span ∷ spans) e = let no : ⊥ = omega (arith, e) in absurd no
