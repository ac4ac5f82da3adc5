-- The table of a footer as it stands.
use Rattle.std.specs.Prelude.{ℕ, List}
use Rattle.vx_footer.specs.declared.rows.Locator.{Locator}

-- the ids of arrays and of layouts, and where the data segments lie
pub record FooterTable : Type 0 where
  pub arrays : List (List ℕ)
  pub layouts : List (List ℕ)
  pub segments : List Locator
