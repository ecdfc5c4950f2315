use Rattle.std.proofs.Common.{◌≡◌, Err, ap, ◌∙◌}
use Rattle.dsde_grove.specs.declared.grove.GrowEnd.{GrowEnd}
use Rattle.dsde_grove.specs.declared.grove.GrowEnd.TheVariants as end
use Rattle.dsde_core_flat.specs.declared.spot.Spot.{Spot}
use Rattle.dsde_core_flat.specs.lemmas.Growing.{no-kid}
use Rattle.dsde_core_flat.proofs.grafting.grow.Goals as goal

pub unreachable-requires-in-Err-Taken-default : goal.unreachable-requires-in-Err-Taken-default
unreachable-requires-in-Err-Taken-default g c =
    let back : c.in-Err-Taken-default.field-0-1 ≡ c.args.value = c.in-Err-Taken-default.ensures.handed_back in
    let kid = c.in-Err-Taken-default.ensures.taken.0
    (ap (λ (e : GrowEnd). Err (e, c.in-Err-Taken-default.field-0-1)) c.in-Err-Taken-default.field-0-0-is
    ∙ ap (λ (v : Spot). Err (end.Taken, v)) back) in
    no-kid c.args.grove.now c.args.parent c.args.name c.requires.tree c.requires.free kid.0 kid.1
