-- A wiring that shows a tree that fits a program is wired.
use Rattle.std.proofs.Common.{◌≡◌, ◌&&◌, false, List, [], ◌∷◌, map, Option, Some, None, refl, subst}
use Rattle.std.specs.List.{AllByRecursion}
use Rattle.dsde_bank.specs.declared.handle.Handle.{Handle}
use Rattle.dsde_syntax.specs.declared.decl.Model.{Model}
use Rattle.dsde_language.specs.DeclaredModels.{Own}
use Rattle.dsde_structure.specs.declared.plan.Entry.{Entry}
use Rattle.dsde_structure.specs.declared.plan.Link.{Link}
use Rattle.dsde_structure.specs.declared.plan.Part.{Part}
use Rattle.dsde_structure.specs.declared.plan.Part.TheVariants as part
use Rattle.dsde_structure.specs.Gather.{is_part}
use Rattle.dsde_structure.specs.Survival.{names, AreInOrder}
use Rattle.dsde_sim_starting.specs.given.system.Plans.{FitsLink, IsThrough}
use Rattle.dsde_grove.specs.Grove.{Grove, value_of}
use Rattle.dsde_sim_tree.specs.declared.sim.Net.{Net}
use Rattle.dsde_sim_tree.specs.declared.sim.Sim.{Sim}
use Rattle.dsde_sim_tree.specs.declared.sim.Sim.TheVariants as sim
use Rattle.dsde_sim_tree.specs.declared.sim.Sim.TheViews.{out-Kid}
use Rattle.dsde_sim_tree.specs.Spots.{spots}
use Rattle.dsde_sim_tree.specs.Tree.{entry_of}
use Rattle.dsde_sim_starting.specs.Fitting.{FitsKid, FitsSpot, FitsTree}
use Rattle.dsde_sim_starting.specs.lemmas.Fits.{kid-tree}
use Rattle.dsde_sim_movers.specs.lemmas.Spotting.{whole-spots, EachKid}
use Rattle.dsde_routes_wiring.specs.declared.wiring.Wiring.{Wiring}
use Rattle.dsde_routes_wiring.specs.declared.wiring.WiredKid.{WiredKid}
use Rattle.dsde_routes_wiring.specs.declared.wiring.WiredKid.TheViews.{out-Wiring, out-WiredKid, roll-out-Wiring}
use Rattle.dsde_routes_wiring.specs.Opened.{each_wiring, Beneath}
use Rattle.dsde_routes_wiring.specs.Wired.{AreWired, IsWired, LeadsInside, Wired}
use Rattle.dsde_repair_walks.proofs.Shapes.{net-of, wired_of}
use Rattle.dsde_repair_walks.specs.Places.{BelowWired, IsBelowWired}
use Rattle.dsde_core_moves.specs.given.core_flat.spot_Spot.{Spot}
use Rattle.dsde_core_moves.specs.given.core_flat.Shown.{args_in, kid_under, leaf_in, model_in, net_under, part_under, Look}
use Rattle.dsde_core_moves.specs.given.core_flat.lemmas_Apart.{name-shown, sim-shown}
use Rattle.dsde_core_moves.specs.given.core_flat.lemmas_Opened.{net-shows, OfKid}
use Rattle.dsde_core_moves.specs.Chosen.{shown}

leads-by : (from to : Part) → (IsThrough from to → ⊥) → (is_part from part.Net && is_part to part.Net) ≡ false
leads-by part.Net part.Net not_through = absurd (not_through tt)
leads-by part.Net part.Boss not_through = refl
leads-by part.Net (part.Kid name) not_through = refl
leads-by part.Boss to not_through = refl
leads-by (part.Kid name) to not_through = refl

-- a link that fits does not lead from a network itself to itself
pub links-inside : (model : Model) (own : Own) (entries : List Entry) (links : List Link) → AllByRecursion (FitsLink model own entries) links → AllByRecursion LeadsInside links
links-inside model own entries [] fits = tt
links-inside model own entries (link ∷ links) fits = (leads-by link.from.part link.to.part fits.0.not_through, links-inside model own entries links fits.1)

module _ (model : Model) (look : Look) where
  -- the network that a wiring shows fits where it is wired
  abbrev Wires : Wiring → Type 0
  Wires net = (handle : Handle) → FitsTree model (sim.Net (net_under look net handle)) → AreWired net

  names-wired : (kids : List WiredKid) → names (map entry_of (map (kid_under look) kids)) ≡ map (λ (kid : Wired). kid.name) (map wired_of kids)
  names-wired [] = refl
  names-wired (kid ∷ kids) = λ i. name-shown look kid i ∷ names-wired kids i

  part-wired : (handle : Handle) (own : Option Wiring) → Beneath Wires own → FitsTree model (part_under look handle own) → BelowWired own
  part-wired handle None known fits = tt
  part-wired handle (Some net) known fits = known handle fits

  kid-wired : (kid : WiredKid) → OfKid Wires kid → AllByRecursion (FitsSpot model) (spots (out-Kid (kid_under look kid)).sim) → IsBelowWired kid
  kid-wired kid known fits =
      part-wired (out-WiredKid kid).handle (out-WiredKid kid).below known (record { all = subst (λ (own : Sim). AllByRecursion (FitsSpot model) (spots own)) (sim-shown look kid) fits })

  below-is : (own : Option Wiring) → BelowWired own → Beneath AreWired own
  below-is None wired = tt
  below-is (Some net) wired = wired

  kids-wired : (kids : List WiredKid) → AllByRecursion (OfKid Wires) kids → EachKid (FitsSpot model) (map (kid_under look) kids) → AllByRecursion (λ kid. Beneath AreWired (out-WiredKid kid).below) kids
  kids-wired [] known fits = tt
  kids-wired (kid ∷ kids) known fits = (below-is (out-WiredKid kid).below (kid-wired kid known.0 fits.0), kids-wired kids known.1 fits.1)

  net-wired : (net : Wiring) → Wires net
  net-wired = each_wiring Wires (λ net known handle fits.
      let kids = (out-Wiring net).kids in
      let links = (out-Wiring net).links in
      let shows = net-shows look net handle in
      let both = whole-spots (FitsSpot model) (model_in (look handle)) (args_in (look handle)) (leaf_in (look (out-Wiring net).boss)) (map (kid_under look) kids) links
      (subst (λ (own : Net). AllByRecursion (FitsSpot model) (spots (sim.Net own))) shows fits.all) in
      let here : IsWired (record { me = (out-Wiring net).me; boss = (out-Wiring net).boss; links = links; kids = map wired_of kids }) =
      (subst AreInOrder (names-wired kids) both.0.links.order, links-inside model both.0.links.own (map entry_of (map (kid_under look) kids)) links both.0.links.each) in
      subst AreWired (roll-out-Wiring net) (net-of IsWired (out-Wiring net) here (kids-wired kids known both.1)))

every : (model : Model) (look : Look) (own : Option Wiring) → Beneath (Wires model look) own
every model look None = tt
every model look (Some net) = net-wired model look net

pub tree-wired : (model : Model) (own : Grove Spot) (top : Handle) (wiring : Wiring) → FitsTree model (part_under (value_of own) top (Some wiring)) → AreWired wiring
tree-wired model own top wiring fits = net-wired model (value_of own) wiring top fits

pub kids-are-wired : (model : Model) (own : Grove Spot) (kids : List WiredKid) → AllByRecursion (FitsKid model) (shown own kids) → AllByRecursion IsBelowWired kids
kids-are-wired model own [] fits = tt
kids-are-wired model own (kid ∷ kids) fits =
    (kid-wired model (value_of own) kid (every model (value_of own) (out-WiredKid kid).below) (kid-tree model (kid_under (value_of own) kid) fits.0).all, kids-are-wired model own kids fits.1)
