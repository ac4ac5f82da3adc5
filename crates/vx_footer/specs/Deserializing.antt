-- What a deserializer keeps.
use Rattle.std.specs.Prelude.{ℕ, Option}
use Rattle.vx_base.specs.Buffer.{Buffer}
use Rattle.vx_data.specs.Dtype.{Dtype}

-- the last bytes of a file, the supplied dtype and the supplied size
pub record Deserializing : Type 0 where
  pub buffer : Buffer
  pub dtype : Option Dtype
  pub size : Option ℕ
