-- What a writer was told, as plain data, and what follows of it.
use Rattle.std.specs.Prelude.{◌≡◌, ℕ, Bool, true, false, not, ◌==◌, nat_le, if◌then◌else◌, List, [], ◌∷◌, length, map, Option, Some, None, Result}
use Rattle.std.specs.List.{filter, list_all}
use Rattle.std.specs.Str.{bytes_eq}
use Rattle.vx_base.specs.Buffer.{Buffer}
use Rattle.vx_base.specs.Checks.{◌>>=◌, ◌unless◌}
use Rattle.vx_data.specs.declared.stats_set.Stat.{Stat}
use Rattle.vx_data.specs.declared.stats_set.Stat.TheVariants.{Min, Max, NullCount}
use Rattle.vx_data.specs.LayoutWritten.{has_id}
use Rattle.vx_data.specs.Session.{Session, known_arrays}
use Rattle.vx_footer.specs.declared.version.FileVersion.{FileVersion}
use Rattle.vx_footer.specs.declared.version.FileVersion.TheVariants.{V1}
use Rattle.vx_footer.specs.declared.write_error.WriteError.{WriteError}
use Rattle.vx_footer.specs.declared.write_error.WriteError.TheVariants.{TooManyMetadata, EmptyKey, LongKey}
use Rattle.vx_footer.specs.Opening.{most_entries, longest_key}
use Rattle.vx_write.specs.Strategies.{Strategy, default_settings, built}

pub record Options : Type 0 where
  pub session : Session
  pub strategy : Strategy
  -- whether only ids that are enabled may be written
  pub enforces : Bool
  pub excludes_dtype : Bool
  pub statistics : List Stat
  pub metadata : List (List ℕ × Buffer)
  pub version : FileVersion

abbrev pub default_options : Session → Options
default_options session = record {
  session = session;
  strategy = built default_settings;
  enforces = true;
  excludes_dtype = false;
  statistics = Min ∷ Max ∷ NullCount ∷ [];
  metadata = [];
  version = V1;
}

-- ---- metadata

-- a value in place of the one with its key, or behind the others
abbrev pub with_value : List (List ℕ × Buffer) → (List ℕ × Buffer) → List (List ℕ × Buffer)
with_value [] v = v ∷ []
with_value (x ∷ xs) v = if bytes_eq x.0 v.0 then v ∷ xs else x ∷ with_value xs v

abbrev pub with_values : List (List ℕ × Buffer) → List (List ℕ × Buffer) → List (List ℕ × Buffer)
with_values xs [] = xs
with_values xs (v ∷ vs) = with_values (with_value xs v) vs

abbrev pub keys_of : List (List ℕ × Buffer) → List (List ℕ)
keys_of vs = map (λ v. v.0) vs

-- few values, none with an empty key, which is the first in order of bytes, and none with a long one
unfoldable pub values_checks : FileVersion → List (List ℕ) → Result (Unit {0}) WriteError
values_checks version ks = do
  _ ← TooManyMetadata unless nat_le (length ks) (most_entries version)
  _ ← EmptyKey unless list_all (λ k. not (length k == 0)) ks
  LongKey unless list_all (λ k. nat_le (length k) (longest_key version)) ks

-- ---- ids

-- the ids of arrays that a file may use, in the order of their bytes
abbrev pub array_ids : Options → List (List ℕ)
array_ids o = if o.enforces then filter (has_id o.session.arrays) known_arrays else known_arrays

-- the ids of layouts that a file may use, where not all
abbrev pub layout_ids : Options → Option (List (List ℕ))
layout_ids o = if o.enforces then Some o.session.layouts else None
