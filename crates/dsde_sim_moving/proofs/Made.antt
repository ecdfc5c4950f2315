-- Components and links that are made anew fit.
use Rattle.std.proofs.Common.{◌≡◌, true, List, map, sym, ap, subst}
use Rattle.dsde_language.specs.given.syntax.decl_Model.{Model}
use Rattle.dsde_values.specs.declared.name.Name.{Name}
use Rattle.dsde_language.specs.declared.ids.ModelId.{ModelId}
use Rattle.dsde_sim_tree.specs.given.structure.plan_Plan.{Plan}
use Rattle.dsde_sim_tree.specs.given.structure.Survival.{roles}
use Rattle.dsde_sim_changing.specs.given.executive.Structure.{IsPlan}
use Rattle.dsde_sim_changing.specs.given.system.Program.{system}
use Rattle.dsde_sim_tree.specs.declared.sim.Kid.{Kid}
use Rattle.dsde_sim_tree.specs.declared.sim.Sim.{Sim}
use Rattle.dsde_sim_tree.specs.declared.sim.Sim.TheViews.{out-roll-Kid}
use Rattle.dsde_sim_tree.specs.Start.{kid_of}
use Rattle.dsde_sim_tree.specs.Tree.{entry_of}
use Rattle.dsde_sim_changing.specs.given.sim_starting.Fitting.{FitsKid, FitsLinks, FitsTree}
use Rattle.dsde_sim_changing.specs.given.sim_starting.lemmas_Fits.{tree-kid}
use Rattle.dsde_sim_changing.specs.given.sim_starting.lemmas_Roles.{links-by-roles}

module _ (model : Model) where
  pub kid-made : (name : Name) (own : Sim) → FitsTree model own → FitsKid model (kid_of name own)
  kid-made name own fits = tree-kid model (kid_of name own) (subst (FitsTree model) (sym (ap (λ kid. kid.sim) (out-roll-Kid (record { name = name; sim = own })))) fits)

  -- the links of a plan fit the components that stand for its entries
  pub plan-links : (number : ModelId) (plan : Plan) (kids : List Kid) → IsPlan model number.0 plan → (system model).is_network number ≡ true → roles (map entry_of kids) ≡ roles plan.entries →
      FitsLinks model number (map entry_of kids) plan.links
  plan-links number plan kids fits network are =
      links-by-roles model plan.entries (map entry_of kids) (sym are) number plan.links
      (record { own = fits.own; found = fits.found; network = network; order = fits.fits.order; ordinary = fits.fits.ordinary; each = fits.fits.links })
