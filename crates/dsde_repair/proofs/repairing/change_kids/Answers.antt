use Rattle.std.proofs.Common.{◌++◌, List, map, ap, ap₂, sym, ◌∙◌, subst}
use Rattle.std.specs.List.{IsDistinct}
use Rattle.std.specs.Prelude.{IsPermutation}
use Rattle.dsde_routes_wiring.specs.given.structure.Gather.{is_same_name}
use Rattle.dsde_routes_wiring.specs.given.structure.plan_Link.{Link}
use Rattle.dsde_routes_wiring.specs.declared.wiring.WiredKid.{WiredKid}
use Rattle.dsde_routes_wiring.specs.Places.{going, inside, staying}
use Rattle.dsde_routes_wiring.specs.Routes.{row_of}
use Rattle.dsde_repair_walks.specs.Found.{name_of}
use Rattle.dsde_repair.specs.Change.{wiring_after}
use Rattle.dsde_repair.proofs.Changing.{ok-const, ok-map, after-is, bare-wired, kids-wired}
use Rattle.dsde_repair.proofs.repairing.change_kids.Goals as goal

pub part-requires-clause-wired : goal.part-requires-clause-wired
part-requires-clause-wired c = kids-wired c.args.place.now c.args.wiring.now c.requires.there c.requires.wired c.in_ok-kids.kids c.in_ok-kids.ensures.kids

pub put_in_order-requires-clause-wired : goal.put_in_order-requires-clause-wired
put_in_order-requires-clause-wired c = bare-wired c.args.place.now c.args.wiring.now c.take_out.new.wiring c.requires.wired c.in_ok-kids.ensures.wiring

pub put_in_order-requires-clause-names : goal.put_in_order-requires-clause-names
put_in_order-requires-clause-names c =
    subst (λ (kids : List WiredKid). IsDistinct is_same_name (map name_of kids))
    (sym (ap₂ (λ (kids more : List WiredKid). kids ++ more) (c.in_ok-staying.ensures.staying ∙ ap (staying c.args.gone.now) c.in_ok-kids.ensures.kids) c.replace-fresh.ensures.value))
    c.requires.names

pub returns-clause-wiring : goal.returns-clause-wiring
returns-clause-wiring c =
    ok-map c.put_in_order.result _ _
    (λ is. (
      is.0,
      subst (λ (kids : List WiredKid). IsPermutation kids is.0)
          (ap₂ (λ (kids more : List WiredKid). kids ++ more) (c.in_ok-staying.ensures.staying ∙ ap (staying c.args.gone.now) c.in_ok-kids.ensures.kids) c.replace-fresh.ensures.value)
          is.1,
      is.2,
      after-is c.args.place.now is.0 c.replace-links.result c.args.wiring.now c.take_out.new.wiring c.put_in_order.new.wiring c.in_ok-kids.ensures.wiring is.3
          ∙ ap (λ (links : List Link). wiring_after c.args.place.now is.0 links c.args.wiring.now) c.replace-links.ensures.value,
    ))
    c.put_in_order.ensures

pub returns-clause-rows : goal.returns-clause-rows
returns-clause-rows c =
    ok-const c.put_in_order.result _ (c.in_ok-staying.ensures.rows ∙ ap (λ (kids : List WiredKid). c.args.rows.now ++ map row_of (inside (going c.args.gone.now kids))) c.in_ok-kids.ensures.kids)
