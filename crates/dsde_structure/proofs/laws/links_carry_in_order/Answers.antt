use Rattle.std.proofs.Common.{◌∙◌, ap}
use Rattle.std.proofs.lemmas.List.Elements.{filter-append}
use Rattle.std.proofs.lemmas.Grind.{flat_map-append}
use Rattle.std.specs.Prelude.{filter}
use Rattle.std.specs.List.{flat_map}
use Rattle.dsde_structure.specs.Gather.{carried, is_end}
use Rattle.dsde_structure.proofs.laws.links_carry_in_order.Goals as goal

pub returns : goal.returns
returns c = λ translate first later sources end.
    ap (flat_map (carried translate sources)) (filter-append (λ link. is_end link.to end) first later)
    ∙ flat_map-append (carried translate sources) (filter (λ link. is_end link.to end) first) (filter (λ link. is_end link.to end) later)
