-- The expressions of a structure stand.
use Rattle.std.proofs.Common.{◌≡◌, ℕ, ◌≤◌, arith, Bool, List, map, refl, sym, ◌∙◌, subst}
use Rattle.std.proofs.lemmas.List.Folds.{list_all-map}
use Rattle.dsde_sim_tree.specs.given.syntax.decl_Model.{Model}
use Rattle.dsde_sim_tree.specs.given.syntax.item_Item.{Item}
use Rattle.dsde_sim_tree.specs.given.language.Blocks.{walk_all}
use Rattle.dsde_sim_tree.specs.given.language.RuleStructures.{item_walk}
use Rattle.dsde_sim_tree.specs.given.language.Right.{IsRight}
use Rattle.dsde_sim_tree.specs.given.language.DeclaredModels.{whole_of, types_of, Own}
use Rattle.dsde_sim_tree.specs.given.language.DeclaredStructures.{place_of_items, first_via}
use Rattle.dsde_sim_tree.specs.given.language.make_Make.{Make}
use Rattle.dsde_sim_tree.specs.given.language.Agreement.{ExpressionsAgree}
use Rattle.dsde_sim_tree.specs.given.language.Functions.{functions_of}
use Rattle.dsde_sound_names.specs.given.sound_expressions.Coded.{FunctionsAgree, coded_of}
use Rattle.dsde_sound_names.specs.given.sound_expressions.Items.{is_proper_item}
use Rattle.dsde_sound_names.specs.given.sound_expressions.Bodies.{body_slots}
use Rattle.dsde_sound_names.specs.given.sound_expressions.Laws.{KnownIsWithin}
use Rattle.dsde_sound_names.specs.given.sound_expressions.Structures.{HasStructure, IsStructure, StructuresStand}
use Rattle.dsde_sound_names.specs.given.sound_expressions.lemmas_Steps.{went, ok-is}
use Rattle.dsde_sound_structures.specs.Numbers.{numbers_of}
use Rattle.dsde_sound_structures.specs.Spots.{MakesStand, SpotsStand, spots_of}
use Rattle.dsde_sound_structures.proofs.MakeGround.{Ground}
use Rattle.dsde_sound_structures.proofs.MakeItems.{items-do}

module _ (agree : ExpressionsAgree) (functions : FunctionsAgree) (within : KnownIsWithin) (structures : StructuresStand) where
  spots-stand : (model : Model) (own : Own) (items : List Item) (via : ℕ) (makes : List Make) → IsRight model → IsStructure model own items via makes
      → SpotsStand model (numbers_of makes) (spots_of (whole_of model) items (body_slots model own))
  spots-stand model own items via makes right is =
      let funcs = functions model is.around.known right is.known in
      let g : Ground = record {
        model = model;
        place = place_of_items (whole_of model) own.ports own.body items;
        site = record { around = is.around; ports = is.ports; execs = is.execs; families = is.families };
        whole = refl;
        known = is.known;
        partial = is.partial;
        types = λ e scope slots found proper.
            (agree (types_of model) (coded_of model) (whole_of model) (functions_of model) is.around e (within model is.around.known right is.known) funcs.serve funcs.calls proper).ty scope slots found;
      } in
      let w1 = went (walk_all (map (item_walk g.site) items) 0 is.scope) _ is.height is.judged in
      let high : w1.value.height ≡ is.height = ok-is w1.value.height is.height w1.next in
      let done = (items-do g items).does (list_all-map (λ (own : Bool). own) is_proper_item items ∙ is.proper) 0 is.scope w1.value (body_slots model own) is.next w1.first is.sees in
      subst (λ (l : List Make). SpotsStand model (numbers_of l) (spots_of (whole_of model) items (body_slots model own))) (sym is.made)
      (done.stand is.nodes (let low : is.height ≤ 512 = is.low in omega (arith, high, low)))

  pub makes-stand : MakesStand
  makes-stand model number own right found network =
      let has : HasStructure model number own = structures model number own right found network in
      record { structure = has; stand = spots-stand model own has.items (first_via model number) has.makes right has.is }
