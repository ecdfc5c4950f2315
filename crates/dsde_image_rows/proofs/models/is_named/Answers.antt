use Rattle.std.proofs.Common.{ap, sym, ◌∙◌, List, ℕ}
use Rattle.std.specs.Str.{bytes_eq}
use Rattle.dsde_image_rows.proofs.Declaring.{name-is}
use Rattle.dsde_image_rows.proofs.models.is_named.Goals as goal

pub returns : goal.returns
returns c =
    c.eq.ensures ∙ ap (λ (name : List ℕ). bytes_eq c.args.text.now name) (c.as_slice.ensures ∙ sym (name-is c.infos_are_declared.ensures c.args.program.now c.args.model c.info.result.now c.info.ensures))
