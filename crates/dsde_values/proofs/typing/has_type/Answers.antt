use Rattle.std.proofs.Common.{sym, ◌∙◌}
use Rattle.dsde_values.proofs.Typed.{HasType-is}
use Rattle.dsde_values.proofs.typing.has_type.Goals as goal

pub returns : goal.returns
returns c =
    let both = HasType-is c.args.types.now c.args.value.now c.args.ty.now in
    (λ e. both.1 (sym c.is_typed.ensures ∙ e), λ typed. c.is_typed.ensures ∙ both.0 typed)
