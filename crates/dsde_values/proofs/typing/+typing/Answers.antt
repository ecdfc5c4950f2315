use Rattle.dsde_values.proofs.Typed.{fill-apart}
use Rattle.dsde_values.proofs.typing.+typing.Goals as goal

pub fill-returns-then-values-fields : goal.fill-returns-then-values-fields
fill-returns-then-values-fields t c = fill-apart c.args.types.now c.args.values.now c.args.fields.now c.if-values-fields.true
