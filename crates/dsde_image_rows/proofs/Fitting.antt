-- What is restored fits the program.
use Rattle.std.proofs.Common.{◌≡◌, ◌≤◌, ℕ, Bool, true, false, List, map, slice_get, refl, sym, ap, subst, ◌∙◌, arith}
use Rattle.std.specs.List.{AllByRecursion}
use Rattle.dsde_syntax.specs.declared.decl.Model.{Model}
use Rattle.dsde_values.specs.declared.value.Value.{Value}
use Rattle.dsde_values.specs.declared.when.When.{When}
use Rattle.dsde_values.specs.When.{IsMoment}
use Rattle.dsde_language.specs.declared.ids.ModelId.{ModelId}
use Rattle.dsde_language.specs.DeclaredModels.{Own, owns_of, types_of, state_slots}
use Rattle.dsde_sim_tree.specs.given.formalism.leaf_Leaf.{Leaf}
use Rattle.dsde_sound_structures.specs.given.system.Program.{system}
use Rattle.dsde_sound_structures.specs.given.system.Fitting.{Fill, FitsArgs, FitsState, IsInTime}
use Rattle.dsde_values.specs.declared.name.Name.{Name}
use Rattle.dsde_sim_tree.specs.given.structure.plan_Plan.{Plan}
use Rattle.dsde_sim_tree.specs.given.structure.Survival.{roles}
use Rattle.dsde_sim_starting.specs.given.executive.Structure.{IsPlan}
use Rattle.dsde_sim_tree.specs.declared.sim.Kid.{Kid}
use Rattle.dsde_sim_tree.specs.declared.sim.Net.{Net}
use Rattle.dsde_sim_tree.specs.declared.sim.Sim.{Sim}
use Rattle.dsde_sim_tree.specs.declared.sim.Sim.TheVariants as sim
use Rattle.dsde_sim_tree.specs.declared.sim.Sim.TheOpen.{Kid-F}
use Rattle.dsde_sim_tree.specs.declared.sim.Sim.TheViews.{out-roll-Kid}
use Rattle.dsde_sim_tree.specs.Start.{kid_of}
use Rattle.dsde_sim_tree.specs.Tree.{entry_of}
use Rattle.dsde_sim_starting.specs.Fitting.{FitsKid, FitsLinks, FitsTree, IsExecutive}
use Rattle.dsde_sim_starting.specs.Starting.{FitsWhereItsPartsDo}
use Rattle.dsde_sim_starting.specs.lemmas.Fits.{tree-leaf, tree-kid, tree-net}
use Rattle.dsde_sim_starting.specs.lemmas.Roles.{links-by-roles}
use Rattle.dsde_sim_starting.specs.lemmas.Stood.{same-own}
use Rattle.dsde_image_rows.specs.Walks.{FitsComponent, FitsOwn}

module _ (model : Model) (number : ModelId) where
  -- an atomic component, as a tree
  pub atomic-fits : (leaf : Leaf) → FitsComponent model number false leaf → (system model).is_network number ≡ false → FitsTree model (sim.Leaf leaf)
  atomic-fits leaf own atomic = tree-leaf model leaf (record {
    fits = own.fits;
    atomic = ap (λ (m : ModelId). (system model).is_network m) own.model_is ∙ atomic;
    component = own.boss_is;
  })

  -- the state of an executive, and what it is of
  pub boss-state : (args : List Value) (boss : Leaf) → FitsOwn model number true args boss → FitsState model number.0 boss.state
  boss-state args boss own = record {
    own = own.component.fits.own;
    found = ap (λ (m : ModelId). slice_get (owns_of model.decls) m.0) (sym own.component.model_is) ∙ own.component.fits.found;
    fill = own.component.fits.state;
  }

  pub is-executive : (args : List Value) (boss : Leaf) → FitsOwn model number true args boss → IsExecutive number args boss
  is-executive args boss own = record { model = own.component.model_is; args = own.args_are; executive = own.component.boss_is }

  -- a component with this state and these times
  pub leaf-fits : (boss : Bool) (args state : List Value) (last : ℕ) (next : When) → FitsArgs model number.0 args → FitsState model number.0 state → IsMoment last → IsInTime next
      → FitsOwn model number boss args (record { model = number; boss = boss; args = args; state = state; last = last; next = next })
  leaf-fits boss args state last next fits full moment in_time = record {
    component = record {
      fits = record {
        below = fits.below;
        own = fits.own;
        found = fits.found;
        args = fits.fill;
        state = subst (λ (o : Own). Fill (types_of model) (state_slots model o) state) (same-own (slice_get (owns_of model.decls) number.0) full.own fits.own full.found fits.found) full.fill;
        last = moment;
        next = in_time;
      };
      model_is = refl;
      boss_is = refl;
    };
    args_are = refl;
  }

  -- a network of an executive and of components of a plan's names and models
  pub made-fits : (args : List Value) (boss : Leaf) (kids : List Kid) (plan : Plan) (net : Net) → FitsWhereItsPartsDo number args boss kids plan.links net
      → (system model).is_network number ≡ true → FitsArgs model number.0 args → FitsOwn model number true args boss → AllByRecursion (FitsKid model) kids
      → roles (map entry_of kids) ≡ roles plan.entries → IsPlan model number.0 plan → FitsTree model (sim.Net net)
  made-fits args boss kids plan net where_parts_do network fits own all same is =
      let links : FitsLinks model number plan.entries plan.links = record { own = is.own; found = is.found; network = network; order = is.fits.order; ordinary = is.fits.ordinary; each = is.fits.links } in
      tree-net model net (where_parts_do model fits own.component.fits (is-executive args boss own) all
      (links-by-roles model plan.entries (map entry_of kids) (sym same) number plan.links links))

-- a component under a name
pub kid-fits : (model : Model) (name : Name) (own : Sim) → FitsTree model own → FitsKid model (kid_of name own)
kid-fits model name own fits =
    tree-kid model (kid_of name own) (subst (λ (opened : Kid-F Sim Kid Net). FitsTree model opened.sim) (sym (out-roll-Kid (record { name = name; sim = own }))) fits)

-- a time that is not past another is a moment too
pub not-later : (last time : ℕ) → last ≤ time → IsMoment time → IsMoment last
not-later last time early moment = omega (arith, early, moment)
