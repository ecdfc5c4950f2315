use Rattle.std.proofs.Common.{ap, sym, Err}
use Rattle.dsde_image_rows.specs.Values.{spelled_value}
use Rattle.dsde_image_rows.proofs.WholeTexts.{none-is}
use Rattle.dsde_image_rows.proofs.reading.whole_value.Goals as goal

pub returns-in-Err-NotAValue : goal.returns-in-Err-NotAValue
unfolding spelled_value
returns-in-Err-NotAValue c =
    sym (none-is c.args.types.now (c.value_is_spelled.ensures c.args.types.now c.requires) c.args.ty.now c.args.text.now (λ value typed begins. c.in-Err-NotAValue.ensures.none (ap Err c.in-Err-NotAValue.field-0-is) value typed begins))
