use Rattle.dsde_language.specs.DeclaredModels.{types_of}
use Rattle.dsde_image_rows.proofs.Declaring.{args-ok, args-fit}
use Rattle.dsde_image_rows.proofs.WholeTexts.{all-spelled}
use Rattle.dsde_image_rows.proofs.models.args_of.Goals as goal

pub returns-clause-is : goal.returns-clause-is
returns-clause-is c =
    args-ok c.infos_are_declared.ensures c.args.program.now c.args.model c.info.result.now c.info.ensures
    c.values_of.result c.types.result.now c.as_slice-fields.result.now c.args.texts.now c.types.ensures c.as_slice-fields.ensures (all-spelled c.types.result.now c.values_of.result c.as_slice-fields.result.now c.args.texts.now c.values_of.ensures)

pub returns-clause-fits : goal.returns-clause-fits
returns-clause-fits c =
    args-fit c.infos_are_declared.ensures c.args.program.now c.args.model c.info.result.now c.info.ensures
    (c.value_is_spelled.ensures (types_of c.args.program.now) (c.types_are_lawful.ensures c.args.program.now c.right.ensures)) c.requires
    c.values_of.result c.types.result.now c.as_slice-fields.result.now c.args.texts.now c.types.ensures c.as_slice-fields.ensures (all-spelled c.types.result.now c.values_of.result c.as_slice-fields.result.now c.args.texts.now c.values_of.ensures)
