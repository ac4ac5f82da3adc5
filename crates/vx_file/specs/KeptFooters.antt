-- Footers that are kept by key, the most recently used one first.
use Rattle.std.specs.Prelude.{ℕ, ◌+◌, ◌-◌, ◌/◌, max, nat_le, if◌then◌else◌, List, [], ◌∷◌, Option, Some, None}
use Rattle.std.specs.Str.{bytes_eq}
use Rattle.std.specs.Map.{remove_entry}
use Rattle.vx_footer.specs.Footers.{FooterValue}
use Rattle.vx_file.specs.declared.footers.TheConstants.{MOST_WEIGHT}

abbrev pub KeptFooter : Type 0
KeptFooter = List ℕ × FooterValue

-- its kibibytes, at least one; ten where its size is not known
abbrev pub weight_of : Option ℕ → ℕ
weight_of None = 10
weight_of (Some size) = max 1 (size / 1024)

abbrev pub weight : FooterValue → ℕ
weight footer = weight_of footer.approx_byte_size

abbrev pub total_weight : List KeptFooter → ℕ
total_weight [] = 0
total_weight (e ∷ es) = weight e.1 + total_weight es

-- as many of the first ones as together weigh at most so much
abbrev pub fitting : ℕ → List KeptFooter → List KeptFooter
fitting room [] = []
fitting room (e ∷ es) = if nat_le (weight e.1) room then e ∷ fitting (room - weight e.1) es else []

-- What is kept after a footer was put: it stands first, and those that were used least recently go until the rest fits. One
-- that alone weighs too much is not kept, and what its key had goes.
abbrev pub kept_after : List ℕ → FooterValue → List KeptFooter → List KeptFooter
kept_after key footer kept =
    if nat_le (weight footer) MOST_WEIGHT
    then fitting MOST_WEIGHT ((key, footer) ∷ remove_entry (bytes_eq key) kept)
    else remove_entry (bytes_eq key) kept
