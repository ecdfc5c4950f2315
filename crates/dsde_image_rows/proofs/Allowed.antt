-- The components of each plan of a program have names that are allowed.
use Rattle.std.proofs.Common.{◌≡◌, ℕ, Bool, true, List, [], ◌∷◌, ◌++◌, map, Option, Some, Ok, Err, refl, sym, ◌∙◌, ap, subst, slice_get, unwrap_or}
use Rattle.std.proofs.lemmas.List.Folds.{list_all-map}
use Rattle.dsde_syntax.specs.declared.decl.Model.{Model}
use Rattle.dsde_syntax.specs.declared.item.Item.{Item}
use Rattle.dsde_values.specs.declared.types.Field.{Field}
use Rattle.dsde_values.specs.declared.types.Types.{Types}
use Rattle.dsde_values.specs.declared.value.Value.{Value}
use Rattle.dsde_faults.specs.declared.kind.Site.TheVariants as site
use Rattle.dsde_language.specs.Blocks.{walk_all}
use Rattle.dsde_language.specs.RuleStructures.{item_walk}
use Rattle.dsde_language.specs.Right.{IsRight}
use Rattle.dsde_language.specs.declared.ids.ModelId.{ModelId}
use Rattle.dsde_language.specs.DeclaredModels.{whole_of, types_of, Own, owns_of, param_slots, state_slots}
use Rattle.dsde_language.specs.DeclaredStructures.{place_of_items, structures_of, first_via}
use Rattle.dsde_language.specs.declared.make.Make.{Make}
use Rattle.dsde_sim_movers.specs.given.structure.plan_Plan.{Plan}
use Rattle.dsde_language.specs.Agreement.{ExpressionsAgree}
use Rattle.dsde_language.specs.Functions.{functions_of}
use Rattle.dsde_language.specs.Meaning.{Vars, mean}
use Rattle.dsde_language.specs.Outcome.{Fault, Stuck, Outcome}
use Rattle.dsde_language.specs.Typed.{Typed, Fits}
use Rattle.dsde_sound_structures.specs.given.executive_plans.Layout.{Layout, lay, lay_all, tied, structure}
use Rattle.dsde_sim_movers.specs.given.formalism.System.{State}
use Rattle.dsde_sound_expressions.specs.Coded.{FunctionsAgree, coded_of}
use Rattle.dsde_sound_expressions.specs.Items.{is_proper_item}
use Rattle.dsde_sound_expressions.specs.Bodies.{body_slots}
use Rattle.dsde_sound_expressions.specs.Laws.{KnownIsWithin}
use Rattle.dsde_sound_expressions.specs.Structures.{HasStructure, IsStructure, StructuresStand}
use Rattle.dsde_sound_expressions.specs.lemmas.Outcomes.{sound-given}
use Rattle.dsde_sound_expressions.specs.lemmas.Steps.{went}
use Rattle.dsde_sound_structures.specs.given.system.Body.{at_site, vars_of, body_vars}
use Rattle.dsde_sound_structures.specs.given.system.Program.{system, network_at, plan_at}
use Rattle.dsde_sound_structures.specs.given.system.Fitting.{Fill}
use Rattle.dsde_image_rows.specs.Named.{AreAllowed, NamesAreAllowed}
use Rattle.dsde_image_rows.proofs.Laid.{Ground, bound}
use Rattle.dsde_image_rows.proofs.Items.{items-do}

-- ---- the variables of a structure

module _ (types : Types) where
  fits-vars : (fields : List Field) (values : List Value) → Fill types fields values → Fits types (vars_of fields values) fields
  fits-vars [] [] fill = tt
  fits-vars [] (value ∷ values) fill = absurd fill
  fits-vars (field ∷ fields) [] fill = absurd fill
  fits-vars (field ∷ fields) (value ∷ values) fill = (refl, fill.0, fits-vars fields values fill.1)

  fits-append : (vars more : Vars) (fields others : List Field) → Fits types vars fields → Fits types more others → Fits types (vars ++ more) (fields ++ others)
  fits-append [] more [] others fits rest = rest
  fits-append [] more (field ∷ fields) others fits rest = absurd fits
  fits-append (var ∷ vars) more [] others fits rest = absurd fits
  fits-append (var ∷ vars) more (field ∷ fields) others fits rest = (fits.0, fits.1, fits-append vars more fields others fits.2 rest)

-- ---- the layout of a structure, and its plan

abbrev plan_ok : Plan → Outcome Plan
plan_ok plan = Ok plan

the-plan : (one other : Plan) → plan_ok one ≡ Ok other → one ≡ other
the-plan one other is = cc

came-of : (outcome : Outcome Plan) (plan : Plan) → at_site site.Structure outcome ≡ Ok plan → outcome ≡ Ok plan
came-of (Ok own) plan is = let same : own ≡ plan = cc in ap Ok same
came-of (Err (Fault kind at)) plan is = absurd (cc is)
came-of (Err Stuck) plan is = absurd (cc is)

the-own : (found : Option Own) (one other : Own) → found ≡ Some one → found ≡ Some other → one ≡ other
the-own found one other first second = cc (first, second)

module _ (agree : ExpressionsAgree) (functions : FunctionsAgree) (within : KnownIsWithin) (model : Model) (own : Own) (items : List Item) (via : ℕ) (makes : List Make) (right : IsRight model)
    (is : IsStructure model own items via makes) where
  abbrev ground : Ground
  ground =
      let funcs = functions model is.around.known right is.known in
      record {
        types = types_of model;
        functions = functions_of model;
        site = record { around = is.around; ports = is.ports; execs = is.execs; families = is.families };
        place = place_of_items (whole_of model) own.ports own.body items;
        exprs = λ e scope slots found vars value plain judged sees fits meant.
            sound-given is.around.is_total (Typed (types_of model) found.ty) (mean (whole_of model) (functions_of model) e vars) value
            ((agree (types_of model) (coded_of model) (whole_of model) (functions_of model) is.around e (within model is.around.known right is.known) funcs.serve funcs.calls plain).sound scope slots found vars judged sees fits)
            meant;
      }

  entries-allowed : (number : ℕ) (vars : Vars) (plan : Plan) → Fits (types_of model) vars (body_slots model own)
      → structure (place_of_items (whole_of model) own.ports own.body items) (functions_of model) items number vars ≡ Ok plan → AreAllowed plan.entries
  unfolding structure
  entries-allowed number vars plan fits planned =
      let before : Layout = record { vars = vars; entries = []; links = [] } in
      let w1 = went (walk_all (map (item_walk ground.site) items) 0 is.scope) _ is.height is.judged in
      let done = (items-do ground items).does (list_all-map (λ (own : Bool). own) is_proper_item items ∙ is.proper) 0 is.scope w1.value (body_slots model own) w1.first is.sees in
      bound (AreAllowed plan.entries) ((lay_all (map (lay (place_of_items (whole_of model) own.ports own.body items) (functions_of model)) items)).run number before) _ plan planned (λ layout ran last.
      bound (AreAllowed plan.entries) (tied layout.entries layout.links) _ plan last (λ _ _ made.
      subst (λ (own_plan : Plan). AreAllowed own_plan.entries) (the-plan (record { entries = layout.entries; links = map (λ laid. laid.link) layout.links }) plan made)
      (done.keeps number before layout (record { fits = fits; entries = tt }) ran).entries))

-- ---- the plans of a network

network-own : (model : Model) (number : ModelId) (own : Own) → slice_get (owns_of model.decls) number.0 ≡ Some own → (system model).is_network number ≡ true → own.network ≡ true
unfolding system
network-own model number own found network = rw found at network

structure-is : (model : Model) (number : ModelId) (args : List Value) (state : State) (own : Own) (items : List Item)
    → slice_get (owns_of model.decls) number.0 ≡ Some own → slice_get (structures_of model.decls) number.0 ≡ Some items
    → ((system model).network number args).structure state ≡ at_site site.Structure (plan_at model own number.0 items args state)
unfolding system
structure-is model number args state own items found has =
    ap (λ (o : Option Own). (network_at model o number.0 args).structure state) found
    ∙ ap (λ (o : Option (List Item)). at_site site.Structure (plan_at model own number.0 (unwrap_or o []) args state)) has

module _ (agree : ExpressionsAgree) (functions : FunctionsAgree) (within : KnownIsWithin) (stand : StructuresStand) where
  pub names-allowed : NamesAreAllowed
  names-allowed model number args state plan right network fits stood is =
      let own : Own = fits.own in
      let has : HasStructure model number.0 own = stand model number.0 own right fits.found (network-own model number own fits.found network) in
      let full : Fill (types_of model) (state_slots model own) state =
      subst (λ (o : Own). Fill (types_of model) (state_slots model o) state) (the-own (slice_get (owns_of model.decls) number.0) stood.own own stood.found fits.found) stood.fill in
      let sees : Fits (types_of model) (body_vars model own args state) (body_slots model own) =
      fits-append (types_of model) (vars_of (param_slots model own) args) (vars_of (state_slots model own) state) (param_slots model own) (state_slots model own)
      (fits-vars (types_of model) (param_slots model own) args fits.fill) (fits-vars (types_of model) (state_slots model own) state full) in
      let came : plan_at model own number.0 has.items args state ≡ Ok plan =
      came-of (plan_at model own number.0 has.items args state) plan (sym (structure-is model number args state own has.items fits.found has.found) ∙ is) in
      entries-allowed agree functions within model own has.items (first_via model number.0) has.makes right has.is (first_via model number.0) (body_vars model own args state) plan sees came
