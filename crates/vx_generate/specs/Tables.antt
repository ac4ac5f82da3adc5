-- A column beside its type.
use Rattle.std.specs.Prelude.{◌≡◌, ◌<◌, ◌^◌}
use Rattle.vx_data.specs.Dtype.{Dtype}
use Rattle.vx_rows.specs.Rows.{Rows, rows_len, dtype_of, IsColumn}

-- a column of the type
pub record IsTable (d : Dtype) (c : Rows) : Type 0 where
  pub typed : dtype_of c ≡ d
  pub even : IsColumn (rows_len c) c
  pub few : rows_len c < 2 ^ 64
