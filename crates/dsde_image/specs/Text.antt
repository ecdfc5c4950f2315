-- What a JSON text says.
use Rattle.std.specs.Prelude.{◌≡◌, ℕ, List, IsUtf8, Some}
use Rattle.serde_json.specs.Data.{Data}
use Rattle.serde_json.specs.Read.{read}

-- The bytes are UTF-8, and say this JSON value.
pub record IsReading (bytes : List ℕ) (seen : Data) : Type 0 where
  pub utf8 : IsUtf8 bytes
  pub says : read bytes ≡ Some seen
