use Rattle.dsde_image.proofs.Written.{text-is, says-so}
use Rattle.dsde_image.proofs.writing.write_image.Goals as goal

pub returns-clause-text : goal.returns-clause-text
returns-clause-text c = let v = c.from_vec.ensures in text-is _ _ _ c.args.image.now v c.in_ok-image_value.ensures c.in_ok-bytes.ensures.text

pub returns-clause-read : goal.returns-clause-read
returns-clause-read c = says-so _ _ _ c.args.image.now c.from_vec.ensures c.in_ok-image_value.ensures c.in_ok-bytes.ensures.utf8 c.in_ok-bytes.ensures.reads_back
