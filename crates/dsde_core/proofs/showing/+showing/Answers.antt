use Rattle.std.proofs.Common.{ap, map, ◌∙◌}
use Rattle.std.proofs.lemmas.Result.{IfOk-weaker}
use Rattle.dsde_grove.specs.Grove.{value_of}
use Rattle.dsde_core_moving.specs.given.core_flat.Shown.{kid_under}
use Rattle.dsde_core.proofs.Living.{net-copied}
use Rattle.dsde_core.proofs.showing.+showing.Goals as goal

pub net_shown-returns : goal.net_shown-returns
net_shown-returns g t c =
    IfOk-weaker c.new.result _ _
    (λ shown is. is ∙ net-copied (value_of c.args.grove.now) c.args.net.now c.args.handle _ _ _ _ _ c.in_ok-model.ensures.model c.in_ok-model.ensures.args c.in_ok-boss.ensures
    (c.in_ok-kids.ensures ∙ ap (map (kid_under (value_of c.args.grove.now))) c.as_slice.ensures) (c.in_ok-links.ensures ∙ c.as_slice-2.ensures))
    c.new.ensures
