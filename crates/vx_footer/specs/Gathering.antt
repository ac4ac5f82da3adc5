-- What a walk over a layout's tree gathers.
use Rattle.std.specs.Prelude.{◌≡◌, ℕ, ◌<◌, ◌||◌, Bool, true, nat_lt, nat_le, List, [], ◌∷◌, length, map, take, find, slice_index_or, Option, Some, None}
use Rattle.std.specs.List.{list_any}
use Rattle.std.specs.Option.{option_map, option_or}
use Rattle.std.specs.BTreeMap.{is_at}
use Rattle.vx_data.specs.Paths.{Path, path_cmp}
use Rattle.vx_footer.specs.FieldSizes.{Reference}
use Rattle.vx_footer.specs.CommonPaths.{commons_after}

-- the path of a number
abbrev pub path_at : List Path → ℕ → Path
path_at paths number = slice_index_or paths number []

abbrev pub has_path : List Path → Path → Bool
has_path paths q = list_any (is_at (path_cmp q)) paths

-- common paths by number
abbrev pub is_known : ℕ → Option ℕ → Bool
is_known count None = true
is_known count (Some number) = nat_lt number count

abbrev pub commons_in : List Path → List (Option ℕ) → List (Option Path)
commons_in paths commons = map (option_map (path_at paths)) commons

-- the paths of layouts, the common path of each segment, how many segments there are, and the first number that none has
pub record Gathering : Type 0 where
  pub paths : List Path
  pub commons : List (Option Path)
  pub count : ℕ
  pub missing : Option ℕ

abbrev pub first_missing : ℕ → List ℕ → Option ℕ
first_missing count ids = find (λ id. nat_le count id) ids

-- these paths and references were met, and paths kept their numbers
pub record Meets (old new : Gathering) (paths : List Path) (refs : List Reference) : Type 0 where
  pub kept : take (length old.paths) new.paths ≡ old.paths
  pub also : (q : Path) → has_path new.paths q ≡ (has_path old.paths q || has_path paths q)
  pub commons : new.commons ≡ commons_after old.commons refs
  pub count : new.count ≡ old.count
  pub missing : new.missing ≡ option_or old.missing (first_missing old.count (map (λ r. r.segment) refs))

-- a number stands for this path, which was met
pub record IsMetAt (old new : Gathering) (met : Path) (number : ℕ) : Type 0 where
  pub inside : number < length new.paths
  pub path : path_at new.paths number ≡ met
  pub meets : Meets old new (met ∷ []) []
