-- What a network's links carry to its parts fits them.
use Rattle.std.proofs.Common.{◌≡◌, ℕ, suc, ◌<◌, arith, true, false, List, [], ◌∷◌, length, map, Result, Ok, Err, IfOk, slice_get, refl, sym, ap, subst, ◌∙◌}
use Rattle.std.specs.List.{AllByRecursion, Contains}
use Rattle.std.proofs.lemmas.List.FromFn.{length-map-range_with_len}
use Rattle.dsde_sim_changing.specs.given.sim_gathering.Boxes.{box_of}
use Rattle.dsde_language.specs.given.syntax.decl_Model.{Model}
use Rattle.dsde_values.specs.declared.name.Name.{Name}
use Rattle.dsde_values.specs.declared.types.Field.{Field}
use Rattle.dsde_values.specs.declared.value.Value.{Value}
use Rattle.dsde_language.specs.declared.ids.ModelId.{ModelId}
use Rattle.dsde_language.specs.DeclaredModels.{types_of, Own, owns_of, body_ins}
use Rattle.dsde_language.specs.Right.{IsRight}
use Rattle.dsde_sim_tree.specs.given.structure.plan_Entry.{Entry}
use Rattle.dsde_sim_tree.specs.given.structure.plan_Link.{Link}
use Rattle.dsde_sim_tree.specs.given.structure.plan_Part.{Part}
use Rattle.dsde_sim_tree.specs.given.structure.plan_Part_TheVariants as part
use Rattle.dsde_sim_tree.specs.given.structure.sources_Sources.{Sources}
use Rattle.dsde_sim_tree.specs.given.structure.Gather.{gather, gathered}
use Rattle.dsde_sim_tree.specs.given.structure.Survival.{AreInOrder, names}
use Rattle.dsde_sim_tree.specs.given.formalism.System.{Ports}
use Rattle.dsde_sim_tree.specs.declared.fault.TurnEnd.{TurnEnd}
use Rattle.dsde_sim_changing.specs.given.system.Program.{system}
use Rattle.dsde_sim_changing.specs.given.system.Fitting.{FitsInputs, Reach}
use Rattle.dsde_sim_changing.specs.given.system.Plans.{ArePortsOf, Cover, FitsSources, HasKid, ways, body_ways}
use Rattle.dsde_sim_tree.specs.declared.sim.Kid.{Kid}
use Rattle.dsde_sim_tree.specs.declared.sim.Net.{Net}
use Rattle.dsde_sim_tree.specs.declared.sim.Sim.TheViews.{out-Kid, out-Net}
use Rattle.dsde_sim_tree.specs.Tree.{entry_of, model_of, name_of}
use Rattle.dsde_sim_changing.specs.given.sound_structures.Carrying.{FitsWiring, GatheredFit, ReachCovers}
use Rattle.dsde_sim_changing.specs.given.sim_gathering.Passing.{AreSorted, AreSortedKids, IsOfModel}
use Rattle.dsde_sim_changing.specs.given.sim_starting.Fitting.{FitsGot, FitsKid, FitsNet}
use Rattle.dsde_sim_changing.specs.given.sim_starting.Asking.{AreSources, AreAsked}
use Rattle.dsde_sim_moving.specs.Moving.{AreFew, AreGot, FitsInside, IsAsked}
use Rattle.dsde_sim_changing.specs.given.sim_starting.lemmas_Fits.{kid-tree, net-kids, net-shape}
use Rattle.dsde_sim_changing.specs.given.sim_starting.lemmas_Stood.{Stood, stood, same-own, component-ins}

each-inside : (model : Model) (kids : List Kid) → AllByRecursion (FitsKid model) kids → AllByRecursion (FitsInside model) kids
each-inside model [] all = tt
each-inside model (kid ∷ kids) all = (kid-tree model kid all.0, each-inside model kids all.1)

-- what a network is asked for, where its parts have answered
pub is-asked : (model : Model) (net : Net) (got : Ports) → FitsNet model net → FitsGot model (out-Net net).model.0 got → (kids : List Kid) → kids ≡ (out-Net net).kids →
    (result : Result Sources TurnEnd) → IfOk result (λ sources. AreSources model kids (out-Net net).boss got sources) → IfOk result (IsAsked model net)
is-asked model net got fits has kids is (Ok sources) are = record {
  shape = net-shape model net fits;
  kids = each-inside model (out-Net net).kids (net-kids model net fits);
  got = subst (FitsGot model (out-Net net).model.0) (sym are.net) has;
  boss = are.boss;
  asked = subst (λ (own : List Kid). AreAsked model own sources.kids) is are.asked;
}
is-asked model net got fits has kids is (Err end) are = tt

each-of-model : (model : Model) (kids : List Kid) → AllByRecursion (FitsInside model) kids → AllByRecursion (λ (kid : Kid). IsOfModel model (out-Kid kid).sim) kids
each-of-model model [] all = tt
each-of-model model (kid ∷ kids) all = (Stood.is_of (stood model (out-Kid kid).sim all.0), each-of-model model kids all.1)

entry-names : (kids : List Kid) → names (map entry_of kids) ≡ map name_of kids
entry-names [] = refl
entry-names (kid ∷ kids) = ap (λ (own : List Name). name_of kid ∷ own) (entry-names kids)

contains-later : (first own : Entry) (entries : List Entry) → Contains entries own → Contains (first ∷ entries) own
contains-later first own entries h = (suc h.0, let below : h.0 < length entries = h.1 in omega (arith, below), h.2)

contains-here : (own : Entry) (entries : List Entry) → Contains (own ∷ entries) own
contains-here own entries = (0, omega arith, refl)

-- so many ports are gathered for
pub length-gathered : (model : Model) (links : List Link) (sources : Sources) (own : Part) (ports : ℕ) → length (gathered (system model).translate links sources own ports) ≡ ports
length-gathered model links sources own ports =
    length-map-range_with_len (λ (port : ℕ). gather (system model).translate links sources (record { part = own; port = port })) 0 ports

module _ (model : Model) (net : Net) (sources : Sources) (asked : IsAsked model net sources) where
  abbrev kids : List Kid
  kids = (out-Net net).kids

  abbrev links : List Link
  links = (out-Net net).links

  abbrev own : Own
  own = asked.shape.links.own

  abbrev entries : List Entry
  entries = map entry_of kids

  pub all-of-model : AllByRecursion (λ (kid : Kid). IsOfModel model (out-Kid kid).sim) (out-Net net).kids
  all-of-model = each-of-model model (out-Net net).kids asked.kids

  kids-sorted-by : AreInOrder (map name_of kids)
  kids-sorted-by = subst AreInOrder (entry-names kids) asked.shape.links.order

  pub kids-sorted : AreSortedKids (out-Net net).kids
  kids-sorted = kids-sorted-by

  pub sources-sorted : AreSorted sources
  sources-sorted = subst AreInOrder (sym asked.asked.names) kids-sorted-by

  boss-number : (out-Net net).boss.model.0 ≡ (out-Net net).model.0
  boss-number = ap (λ (number : ModelId). number.0) asked.shape.boss_is.model

  boss-own : asked.boss.own ≡ own
  boss-own = same-own (slice_get (owns_of model.decls) (out-Net net).model.0) asked.boss.own own
      (ap (λ (number : ℕ). slice_get (owns_of model.decls) number) (sym boss-number) ∙ asked.boss.found) asked.shape.links.found

  got-own : asked.got.own ≡ own
  got-own = same-own (slice_get (owns_of model.decls) (out-Net net).model.0) asked.got.own own asked.got.found asked.shape.links.found

  module _ (covers : ReachCovers) where
    sources-fit : FitsSources model own entries sources
    sources-fit = record {
      net = subst (λ (o : Own). Cover (types_of model) (ways model o false) sources.net) got-own (covers (types_of model) (ways model asked.got.own false) sources.net asked.got.reach);
      boss = subst (λ (o : Own). Cover (types_of model) (body_ways model o true) sources.boss) boss-own asked.boss.cover;
      kids = asked.asked.fits;
    }

    pub wiring-fits : FitsWiring model (out-Net net).links sources
    wiring-fits = record { own = own; entries = entries; order = asked.shape.links.order; joined = asked.shape.links.each; given = sources-fit }

    module _ (fit : GatheredFit) (right : IsRight model) where
      reaches : (to : Part) (ports : List Field) → ArePortsOf model own entries false to ports → Reach (types_of model) ports (gathered (system model).translate links sources to (length ports))
      reaches to ports are = fit model own entries links sources to ports right asked.shape.links.order asked.shape.links.each sources-fit are

      -- what comes to the executive
      pub boss-fits : (ins : ℕ) (args : List Value) → ((system model).component (out-Net net).boss.model args).ins ≡ ins → (got : Ports) → got ≡ gathered (system model).translate (out-Net net).links sources part.Boss ins →
          FitsInputs model (out-Net net).model.0 got
      boss-fits ins args is got are = record {
        own = own;
        found = asked.shape.links.found;
        reach = subst (Reach (types_of model) (body_ins model own)) (ap (λ (n : ℕ). gathered (system model).translate links sources part.Boss n) (sym count) ∙ sym are)
            (reaches part.Boss (body_ins model own) refl);
      }
        where
          count : ins ≡ length (body_ins model own)
          count = sym is ∙ ap (λ (number : ModelId). ((system model).component number args).ins) asked.shape.boss_is.model ∙ component-ins model (out-Net net).model own asked.shape.links.found args

      -- what comes to a component
      kid-fits : (kid : Kid) → Contains entries (entry_of kid) → FitsInside model kid → AreFew (box_of (system model) links sources kid) →
          FitsGot model (model_of (out-Kid kid).sim).0 (box_of (system model) links sources kid)
      kid-fits kid among inside few =
          let one : Stood model (out-Kid kid).sim = stood model (out-Kid kid).sim inside in
          let has : HasKid model entries (name_of kid) false (ways model one.stands false) =
          record { entry = entry_of kid; among = among; named = refl; own = one.stands; found = one.found; are = refl } in
          record {
            own = one.stands;
            found = one.found;
            reach = subst (Reach (types_of model) (ways model one.stands false)) (ap (λ (n : ℕ). gathered (system model).translate links sources (part.Kid (name_of kid)) n) (sym one.ins))
                (reaches (part.Kid (name_of kid)) (ways model one.stands false) has);
            few = few;
          }

      each-fits : (some : List Kid) → ((own : Entry) → Contains (map entry_of some) own → Contains entries own) → AllByRecursion (FitsInside model) some → AllByRecursion AreFew (map (box_of (system model) links sources) some) →
          AreGot model some (map (box_of (system model) links sources) some)
      each-fits [] among inside few = tt
      each-fits (kid ∷ some) among inside few = (
        kid-fits kid (among (entry_of kid) (contains-here (entry_of kid) (map entry_of some))) inside.0 few.0,
        each-fits some (λ own there. among own (contains-later (entry_of kid) own (map entry_of some) there)) inside.1 few.1,
      )

      pub kids-fit : (gots : List Ports) → gots ≡ map (box_of (system model) (out-Net net).links sources) (out-Net net).kids → AllByRecursion AreFew gots → AreGot model (out-Net net).kids gots
      kids-fit gots are few =
          subst (AreGot model kids) (sym are)
          (each-fits kids (λ own there. there) asked.kids (subst (AllByRecursion AreFew) are few))
