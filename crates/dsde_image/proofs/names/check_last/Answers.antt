use Rattle.std.proofs.Common.{refl, ◌∙◌}
use Rattle.dsde_image.proofs.LastNames.{not-two, not-below}
use Rattle.dsde_image.proofs.names.check_last.Goals as goal

pub returns-in-Ok-2-clause-none : goal.returns-in-Ok-2-clause-none
returns-in-Ok-2-clause-none c = λ wrong.
    not-two c.args.name.now c.as_slice.result.now c.in-Ok.path (c.as_slice.ensures ∙ c.in_ok-text.ensures) c.in-Ok.ensures.only (λ two. c.if-len-eq2.false (c.len.ensures ∙ two))

pub returns-in-Err-NotAPath-clause-none : goal.returns-in-Err-NotAPath-clause-none
returns-in-Err-NotAPath-clause-none c =
    let none = rw (c.in-Err-NotAPath.is, c.in-Err-NotAPath.field-0-is) at c.read_path.ensures.none in
    λ wrong. not-below c.args.name.now c.as_slice.result.now (c.as_slice.ensures ∙ c.in_ok-text.ensures) (none refl)
