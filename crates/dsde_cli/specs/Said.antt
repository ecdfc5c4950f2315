-- What the text of an image says. This project's profile.
use Rattle.serde_json.specs.Written.{compact_text}
use Rattle.dsde_image.specs.Image.{IsImage}
use Rattle.dsde_image.specs.Written.{IsWritten}
use Rattle.dsde_image.specs.declared.image.Image.{Image}
use Rattle.dsde_image.specs.Json.{image_data}
use Rattle.dsde_image.specs.Text.{IsReading}

-- The text of an image of version 2 whose texts are UTF-8 says this image.
abbrev pub ImagesAreSaid : Type 0
ImagesAreSaid = (image : Image) → IsImage image → IsWritten image → IsReading (compact_text (image_data image)) (image_data image)
