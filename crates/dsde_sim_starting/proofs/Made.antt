-- Networks and components that are made of parts that fit.
use Rattle.std.proofs.Common.{◌≡◌, true, List, sym, subst, Result, Ok, Err}
use Rattle.std.specs.Prelude.{IfOk}
use Rattle.std.specs.List.{AllByRecursion}
use Rattle.dsde_language.specs.given.syntax.decl_Model.{Model}
use Rattle.dsde_values.specs.declared.name.Name.{Name}
use Rattle.dsde_values.specs.declared.value.Value.{Value}
use Rattle.dsde_language.specs.declared.ids.ModelId.{ModelId}
use Rattle.dsde_sim_tree.specs.given.formalism.leaf_Leaf.{Leaf}
use Rattle.dsde_sim_tree.specs.given.structure.plan_Link.{Link}
use Rattle.dsde_sim_tree.specs.given.structure.plan_Plan.{Plan}
use Rattle.dsde_executive.specs.given.system.Program.{system}
use Rattle.dsde_executive.specs.Structure.{IsPlan}
use Rattle.dsde_sim_tree.specs.declared.sim.Kid.{Kid}
use Rattle.dsde_sim_tree.specs.declared.sim.Net.{Net}
use Rattle.dsde_sim_tree.specs.declared.sim.Sim.{Sim}
use Rattle.dsde_sim_tree.specs.declared.sim.Sim.TheViews.{out-Net, out-roll-Kid, out-roll-Net}
use Rattle.dsde_sim_tree.specs.declared.sim.Sim.TheOpen.{Kid-F, Net-F}
use Rattle.dsde_sim_tree.specs.Start.{kid_of, net_of}
use Rattle.dsde_sim_tree.specs.Spots.{shape_of}
use Rattle.dsde_sim_tree.specs.Opened.{shape_in}
use Rattle.dsde_sim_starting.specs.Fitting.{FitsLinks, FitsShape, FitsTree, FitsKid, FitsNet}
use Rattle.dsde_sim_starting.specs.lemmas.Fits.{tree-kid, net-parts}
use Rattle.dsde_sim_starting.specs.Starting.{FitsWhereItsPartsDo}

module _ (model : Model) where
  -- a component of a network that is made of a name and a part
  pub kid-of-fits : (name : Name) (own : Sim) → FitsTree model own → FitsKid model (kid_of name own)
  kid-of-fits name own fits =
      tree-kid model (kid_of name own) (subst (λ (opened : Kid-F Sim Kid Net). FitsTree model opened.sim) (sym (out-roll-Kid (record { name = name; sim = own }))) fits)

  -- the links of a plan
  pub plan-links : (number : ModelId) (plan : Plan) → (system model).is_network number ≡ true → IsPlan model number.0 plan → FitsLinks model number plan.entries plan.links
  plan-links number plan network is =
      record { own = is.own; found = is.found; network = network; order = is.fits.order; ordinary = is.fits.ordinary; each = is.fits.links }

-- a network that is made of its parts
pub net-of-fits : (number : ModelId) (args : List Value) (boss : Leaf) (kids : List Kid) (links : List Link) (net : Net) → net ≡ net_of number args boss kids links
    → FitsWhereItsPartsDo number args boss kids links net
net-of-fits number args boss kids links net is model fits_args fits_boss boss_is fits_kids fits_links =
    let whole = net_of number args boss kids links in
    let opened = out-roll-Net (record { model = number; args = args; boss = boss; kids = kids; links = links }) in
    let shape : FitsShape model (shape_in whole) =
    subst (λ (own : Net-F Sim Kid Net). FitsShape model (shape_of own.model own.args own.boss own.kids own.links)) (sym opened)
    (record { args = fits_args; boss = fits_boss; boss_is = boss_is; links = fits_links }) in
    let all : AllByRecursion (FitsKid model) (out-Net whole).kids =
    subst (λ (own : Net-F Sim Kid Net). AllByRecursion (FitsKid model) own.kids) (sym opened) fits_kids in
    subst (FitsNet model) (sym is) (net-parts model whole shape all)

pub net-of-fits-ok : {E : Type 0} (number : ModelId) (args : List Value) (boss : Leaf) (kids : List Kid) (links : List Link) (result : Result Net E)
    → IfOk result (λ net. net ≡ net_of number args boss kids links) → IfOk result (λ net. FitsWhereItsPartsDo number args boss kids links net)
net-of-fits-ok number args boss kids links (Ok net) is = net-of-fits number args boss kids links net is
net-of-fits-ok number args boss kids links (Err end) is = tt
