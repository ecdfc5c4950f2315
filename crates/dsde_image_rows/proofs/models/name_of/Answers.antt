use Rattle.std.proofs.Common.{◌≡◌, sym, ◌∙◌, List, ℕ, subst}
use Rattle.std.specs.Prelude.{IfOk}
use Rattle.dsde_image_rows.proofs.Declaring.{name-is}
use Rattle.dsde_image_rows.proofs.models.name_of.Goals as goal

pub returns : goal.returns
returns c =
    subst (λ (name : List ℕ). IfOk c.from_slice.result (λ text. text ≡ name))
    (c.as_slice.ensures ∙ sym (name-is c.infos_are_declared.ensures c.args.program.now c.args.model c.info.result.now c.info.ensures)) c.from_slice.ensures
