use Rattle.std.proofs.Common.{◌++◌, ap, ◌∙◌}
use Rattle.dsde_routes_wiring.specs.declared.wiring.WiredKid.TheViews.{out-Wiring}
use Rattle.dsde_repair.specs.Walks.{open_around}
use Rattle.dsde_repair.proofs.Changing.{ok-map}
use Rattle.dsde_repair.proofs.Crossings.{link-crossed}
use Rattle.dsde_repair.proofs.rows.cross_ways.Goals as goal

pub returns : goal.returns
returns c =
    ok-map c.cross.result _ _
    (λ is. is ∙ ap (λ more. c.args.rows.now ++ more)
    (link-crossed (open_around c.args.whole c.args.net.now) (out-Wiring c.args.net.now).me c.args.number c.args.link.now c.in_ok-befores.befores c.as_slice.result.now c.in_ok-befores.ensures (c.as_slice.ensures ∙ c.in_ok-afters.ensures)))
    c.cross.ensures
