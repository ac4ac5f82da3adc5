-- What the readers stand for, and what their calls give.
use Rattle.std.specs.Prelude.{◌≡◌, ℕ, zero, suc, ◌-◌, nat_le, if◌then◌else◌, List, Option, Some, None, Result, Ok, Err}
use Rattle.vx_tables.specs.declared.elements.Elements.{Elements}
use Rattle.vx_tables.specs.Field.{Table, Vector}

-- inside a table: the root's bytes, the table, and how many levels may still be entered
pub record InTable : Type 0 where
  pub bytes : List ℕ
  pub table : Table
  pub levels : ℕ

-- inside a vector
pub record InVector : Type 0 where
  pub bytes : List ℕ
  pub vector : Vector
  pub elements : Elements
  pub levels : ℕ

-- a table that is reached from another: in the same bytes, one level deeper
pub record IsBelow (outer inner : InTable) : Type 0 where
  pub bytes : inner.bytes ≡ outer.bytes
  pub levels : outer.levels ≡ suc inner.levels

-- a vector of a table: in the same bytes, at the same level
pub record IsVectorOf (outer : InTable) (elements : Elements) (inner : InVector) : Type 0 where
  pub bytes : inner.bytes ≡ outer.bytes
  pub kind : inner.elements ≡ elements
  pub levels : inner.levels ≡ outer.levels

-- a table that is an element of a vector
pub record IsElementOf (outer : InVector) (inner : InTable) : Type 0 where
  pub bytes : inner.bytes ≡ outer.bytes
  pub levels : outer.levels ≡ suc inner.levels

-- no table is reached where no level is left
abbrev pub reached : ℕ → Option Table → Option Table
reached zero t = None
reached (suc levels) t = t

abbrev pub reached_optional : ℕ → Option (Option Table) → Option (Option Table)
reached_optional levels None = None
reached_optional levels (Some None) = Some None
reached_optional zero (Some (Some t)) = None
reached_optional (suc levels) (Some (Some t)) = Some (Some t)

-- ---- what a call gives

-- what was read, and the visits that are left, where they reach
abbrev pub charge : {A : Type 0} → (A → ℕ) → Option A → ℕ → Option (A × ℕ)
charge cost None visits = None
charge cost (Some x) visits = if nat_le (cost x) visits then Some (x, visits - cost x) else None

-- what a call returned, seen by view, and the visits that it left
abbrev pub taken : {X A E : Type 0} → (X → A) → Result X E → ℕ → Option (A × ℕ)
taken view (Ok x) visits = Some (view x, visits)
taken view (Err e) visits = None
