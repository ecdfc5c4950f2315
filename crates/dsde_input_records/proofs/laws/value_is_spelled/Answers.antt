use Rattle.std.proofs.Common.{◌∙◌, ap}
use Rattle.dsde_input_records.specs.Reading.{value_of}
use Rattle.dsde_input_records.proofs.Values.{value_front, value_text}
use Rattle.dsde_input_records.proofs.laws.value_is_spelled.Goals as goal

pub returns : goal.returns
returns c = λ types lawful ty bytes value rest. (
  value_front types lawful ty bytes value rest,
  λ is. ap (value_of types ty) is.1 ∙ value_text types lawful ty value rest is.0 is.2,
)
