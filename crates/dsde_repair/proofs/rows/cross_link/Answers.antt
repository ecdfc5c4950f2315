use Rattle.std.proofs.Common.{[], ◌∷◌, ◌++◌, sym, ap, ◌∙◌}
use Rattle.dsde_routes_wiring.specs.declared.side.Side.TheVariants.{Out, Into}
use Rattle.dsde_routes_wiring.specs.declared.wiring.WiredKid.TheViews.{out-Wiring}
use Rattle.dsde_repair_walks.specs.Walks.{own_way}
use Rattle.dsde_repair.specs.Walks.{open_around}
use Rattle.dsde_repair.proofs.Changing.{ok-map}
use Rattle.dsde_repair.proofs.Crossings.{link-crossed}
use Rattle.dsde_repair.proofs.rows.cross_link.Goals as goal

pub returns-in_ok-direct_row-in-Some-Some : goal.returns-in_ok-direct_row-in-Some-Some
returns-in_ok-direct_row-in-Some-Some c =
    ok-map c.push.result _ _
    (λ is. is ∙ ap (λ more. c.args.rows.now ++ more)
    (c.in_ok-direct_row-in-Some-Some.ensures
    ∙ link-crossed (open_around c.args.whole c.args.net.now) (out-Wiring c.args.net.now).me c.args.number c.args.link.now (own_way c.in-Some-Some.source c.args.link.now.from.port ∷ []) (own_way c.in-Some-Some.target c.args.link.now.to.port ∷ []) (sym (c.in-Some-Some.ensures Out)) (sym (c.in-Some-Some.ensures' Into))))
    c.push.ensures.ok
