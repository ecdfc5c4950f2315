-- A network whose executive moves, in the flat state and in the tree.
use Rattle.std.proofs.Common.{◌≡◌, ℕ, Bool, true, false, List, [], ◌∷◌, ◌++◌, map, Option, Some, None, refl, sym, ap, subst, ◌∙◌}
use Rattle.std.specs.List.{flat_map, AllByRecursion}
use Rattle.dsde_bank.specs.declared.handle.Handle.{Handle}
use Rattle.dsde_values.specs.declared.name.Name.{Name}
use Rattle.dsde_values.specs.declared.path.Path.{Path}
use Rattle.dsde_values.specs.declared.value.Value.{Value}
use Rattle.dsde_values.specs.Path.{root}
use Rattle.dsde_language.specs.declared.ids.ModelId.{ModelId}
use Rattle.dsde_sim_tree.specs.given.formalism.leaf_Leaf.{Leaf}
use Rattle.dsde_routes_wiring.specs.given.structure.plan_Link.{Link}
use Rattle.dsde_grove.specs.Grove as grove
use Rattle.dsde_grove.specs.Grove.{Grove, spot, value_of}
use Rattle.dsde_sim_tree.specs.declared.sim.Kid.{Kid}
use Rattle.dsde_sim_tree.specs.declared.sim.Net.{Net}
use Rattle.dsde_sim_tree.specs.declared.sim.Sim.{Sim}
use Rattle.dsde_sim_tree.specs.declared.sim.Sim.TheVariants as sim
use Rattle.dsde_sim_tree.specs.declared.sim.Sim.TheOpen as layer
use Rattle.dsde_sim_tree.specs.declared.sim.Sim.TheOpen.{Sim-F, Net-F}
use Rattle.dsde_sim_tree.specs.declared.sim.Sim.TheViews.{out-Sim, out-Net, out-roll-Net}
use Rattle.dsde_sim_tree.specs.Start.{net_of}
use Rattle.dsde_sim_movers.specs.Parts as movers
use Rattle.dsde_sim_movers.specs.Names as law
use Rattle.dsde_core_flat.specs.declared.spot.Spot.{Spot}
use Rattle.dsde_core_flat.specs.declared.spot.Spot.TheVariants as variant
use Rattle.dsde_routes_wiring.specs.declared.wiring.Wiring.{Wiring}
use Rattle.dsde_routes_wiring.specs.declared.wiring.WiredKid.{WiredKid}
use Rattle.dsde_routes_wiring.specs.declared.wiring.WiredKid.TheViews.{out-Wiring, roll-Wiring}
use Rattle.dsde_core_flat.specs.Shown.{Look, leaf_in, model_in, args_in, net_under, kid_under, part_under}
use Rattle.dsde_core_flat.specs.lemmas.Opened.{net-shows}
use Rattle.dsde_core_flat.specs.Change.{wired_with, Standing, found}
use Rattle.dsde_core_flat.specs.lemmas.Context.{out-Leaf, out-Network}
use Rattle.dsde_core_flat.specs.lemmas.Beneath.{IsNoBoss}
use Rattle.dsde_core_flat.specs.Stands.{StandsFor, ChangesBeneath}
use Rattle.dsde_core_flat.specs.Named.{HasOwnNames}
use Rattle.dsde_core_flat.specs.Stands.{NetStands}
use Rattle.dsde_core_flat.specs.lemmas.Closing.{net-of-found, net-opens, net-changes, net_after, wired_after}
use Rattle.dsde_core_flat.specs.lemmas.Meeting.{tree-names, finds, IsOne, parts-agree}

-- A network of the tree is in the flat state: its handle, its path and its wiring, which show it.
pub record IsThere (own : Grove Spot) (top : Handle) (wiring : Option Wiring) (names : List Name) (net : Net) : Type 0 where
  pub handle : Handle
  pub path : Path
  pub wired : Wiring
  pub is : found names top root wiring ≡ record { handle = handle; path = path; own = Some wired } ∷ []
  pub itself : handle ≡ (out-Wiring wired).me
  pub shows : net_under (value_of own) wired handle ≡ net
  pub stands : NetStands own handle (out-Wiring wired).boss path (out-Wiring wired).kids

there-at : (own : Grove Spot) (top : Handle) (wiring : Option Wiring) (tree : Sim) (names : List Name) (net : Net) → StandsFor own top wiring tree → AllByRecursion IsNoBoss names →
    (handle : Handle) (path : Path) (wired : Option Wiring) → found names top root wiring ≡ record { handle = handle; path = path; own = wired } ∷ [] → part_under (value_of own) handle wired ≡ sim.Net net → IsThere own top wiring names net
there-at own top wiring tree names net stands none handle path None is shows =
    let wrong : layer.Leaf (leaf_in (value_of own handle)) ≡ layer.Net net = sym (out-Leaf (leaf_in (value_of own handle))) ∙ ap out-Sim shows ∙ out-Network net in
    absurd (cc wrong)
there-at own top wiring tree names net stands none handle path (Some wired) is shows =
    let opened : layer.Net (net_under (value_of own) wired handle) ≡ layer.Net net = sym (out-Network (net_under (value_of own) wired handle)) ∙ ap out-Sim shows ∙ out-Network net in
    record { handle = handle; path = path; wired = wired; is = is; itself = net-of-found own top wiring tree names handle path wired stands is; shows = cc; stands = net-opens own top wiring tree names handle path wired stands none is }

-- a network of the tree is in the flat state
pub executive-opens : (own : Grove Spot) (top : Handle) (wiring : Option Wiring) (tree : Sim) (names : List Name) (net : Net) → StandsFor own top wiring tree → law.IsNamed tree → AllByRecursion IsNoBoss names →
    movers.part_at names tree ≡ Some (sim.Net net) → IsThere own top wiring names net
executive-opens own top wiring tree names net stands named none is =
    let one = finds (value_of own) names top root wiring (sim.Net net) (subst HasOwnNames (sym stands.shows) (tree-names tree named)) (ap (movers.part_at names) stands.shows ∙ is) in
    there-at own top wiring tree names net stands none one.at.handle one.at.path one.at.own one.is one.shows

-- what it shows: its executive's leaf, its components and its links
pub kids-there : (look : Look) (wired : Wiring) (handle : Handle) (net : Net) → net_under look wired handle ≡ net → map (kid_under look) (out-Wiring wired).kids ≡ (out-Net net).kids
kids-there look wired handle net is =
    let own : Net-F Sim Kid Net = record { model = model_in (look handle); args = args_in (look handle); boss = leaf_in (look (out-Wiring wired).boss); kids = map (kid_under look) (out-Wiring wired).kids; links = (out-Wiring wired).links } in
    sym (ap (λ (n : Net-F Sim Kid Net). n.kids) (ap out-Net (net-shows look wired handle) ∙ out-roll-Net own)) ∙ ap (λ (n : Net). (out-Net n).kids) is

pub boss-there : (look : Look) (wired : Wiring) (handle : Handle) (net : Net) → net_under look wired handle ≡ net → leaf_in (look (out-Wiring wired).boss) ≡ (out-Net net).boss
boss-there look wired handle net is =
    let own : Net-F Sim Kid Net = record { model = model_in (look handle); args = args_in (look handle); boss = leaf_in (look (out-Wiring wired).boss); kids = map (kid_under look) (out-Wiring wired).kids; links = (out-Wiring wired).links } in
    sym (ap (λ (n : Net-F Sim Kid Net). n.boss) (ap out-Net (net-shows look wired handle) ∙ out-roll-Net own)) ∙ ap (λ (n : Net). (out-Net n).boss) is

-- Behind a change the flat state stands for the tree with the changed network.
pub executive-closes : (old new : Grove Spot) (top : Handle) (wiring : Option Wiring) (tree : Sim) (names : List Name) (net : Net) (me : Handle) (model : ModelId) (args : List Value) (leaf : Leaf) (links : List Link) (kids : List WiredKid) →
    (stands : StandsFor old top wiring tree) → law.IsNamed tree → AllByRecursion IsNoBoss names → (there : IsThere old top wiring names net) →
    ChangesBeneath (root.names ++ names) old new → there.handle ≡ me → NetStands new there.handle (out-Wiring there.wired).boss there.path kids →
    value_of new there.handle ≡ Some (variant.Net model args) → value_of new (out-Wiring there.wired).boss ≡ Some (variant.Leaf leaf) →
    StandsFor new top (wired_with names (λ own. Some (roll-Wiring (record { me = me; boss = (out-Wiring there.wired).boss; links = links; kids = kids }))) wiring)
    (movers.with_part names (sim.Net (net_of model args leaf (map (kid_under (value_of new)) kids) links)) tree)
executive-closes old new top wiring tree names net me model args leaf links kids stands named none there changes itself within held boss =
    subst (StandsFor new top (wired_with names (λ own. Some (roll-Wiring (record { me = me; boss = (out-Wiring there.wired).boss; links = links; kids = kids }))) wiring))
    (parts-agree (sim.Net (net_of model args leaf (map (kid_under (value_of new)) kids) links)) names tree (tree-names tree named))
    (net-changes old new top wiring tree names (record { handle = there.handle; path = there.path; own = Some there.wired }) me (out-Wiring there.wired).boss model args leaf links kids stands none there.is changes itself within held boss)
