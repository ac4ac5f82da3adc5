-- The ids that are enabled.
use Rattle.std.specs.Prelude.{ℕ, List, [], ◌∷◌, codes}
use Rattle.vx_data.specs.declared.session.ComponentKind.{ComponentKind}
use Rattle.vx_data.specs.declared.session.ComponentKind.TheVariants.{Array, Layout}

pub record Session : Type 0 where
  pub arrays : List (List ℕ)
  pub layouts : List (List ℕ)

abbrev pub known_arrays : List (List ℕ)
known_arrays = codes "vortex.bool" ∷ codes "vortex.primitive" ∷ codes "vortex.struct" ∷ codes "vortex.varbin" ∷ []

abbrev pub known_layouts : List (List ℕ)
known_layouts = codes "vortex.flat" ∷ codes "vortex.chunked" ∷ codes "vortex.struct" ∷ []

abbrev pub all_enabled : Session
all_enabled = record { arrays = known_arrays; layouts = known_layouts }

abbrev pub enabled_of : ComponentKind → Session → List (List ℕ)
enabled_of Array s = s.arrays
enabled_of Layout s = s.layouts

abbrev pub with_ids : ComponentKind → List (List ℕ) → Session → Session
with_ids Array ids s = record s { arrays = ids }
with_ids Layout ids s = record s { layouts = ids }
