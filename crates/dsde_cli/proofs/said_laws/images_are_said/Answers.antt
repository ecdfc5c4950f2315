use Rattle.std.proofs.Common.{arith}
use Rattle.dsde_image.specs.Json.{image_data}
use Rattle.dsde_cli.proofs.Images.{image-said}
use Rattle.dsde_cli.proofs.Said.{read-said}
use Rattle.dsde_cli.proofs.said_laws.images_are_said.Goals as goal

pub returns : goal.returns
returns c = λ image is written. read-said 4 (image_data image) (omega arith) (image-said image is written)
