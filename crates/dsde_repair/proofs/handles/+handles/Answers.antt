use Rattle.std.proofs.Common.{◌∙◌, ◌++◌, List, [], ◌∷◌, ap}
use Rattle.std.specs.List.{flat_map}
use Rattle.dsde_bank.specs.declared.handle.Handle.{Handle}
use Rattle.dsde_routes_wiring.specs.declared.wiring.WiredKid.TheViews.{out-Wiring}
use Rattle.dsde_routes_wiring.specs.Touched.{handles_of_kid}
use Rattle.dsde_repair_walks.proofs.Finding.{ok-map}
use Rattle.dsde_repair.proofs.Fitted.{net-handles}
use Rattle.dsde_repair.proofs.handles.+handles.Goals as goal

pub add_handles-returns : goal.add_handles-returns
add_handles-returns t c =
    ok-map c.add_beneath.result _ _
    (λ is. is
    ∙ ap (λ kids. c.push-2.new.self ++ flat_map handles_of_kid kids) c.as_slice.ensures
    ∙ ap (λ (first : List Handle). first ++ flat_map handles_of_kid (out-Wiring c.args.net.now).kids) (c.in_ok-push-2.ensures.ok ∙ ap (λ (first : List Handle). first ++ (out-Wiring c.args.net.now).boss ∷ []) c.in_ok-push.ensures.ok)
    ∙ net-handles c.args.handles.now c.args.net.now)
    c.add_beneath.ensures
