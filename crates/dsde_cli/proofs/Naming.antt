-- The structures of a model name their components.
use Rattle.std.proofs.Common.{◌≡◌, ℕ, zero, suc, Bool, true, false, ◌&&◌, List, [], ◌∷◌, Option, Some, None, Ok, Err, slice_get, refl, ap}
use Rattle.std.specs.Prelude.{unwrap_or}
use Rattle.std.specs.List.{AllByRecursion, list_all}
use Rattle.dsde_syntax.specs.declared.decl.Decl.{Decl}
use Rattle.dsde_syntax.specs.declared.decl.Decl.TheVariants as decl
use Rattle.dsde_syntax.specs.declared.decl.Model.{Model}
use Rattle.dsde_syntax.specs.declared.item.Item.{Item}
use Rattle.dsde_syntax.specs.Shape.{IsShaped}
use Rattle.dsde_values.specs.declared.name.Name.{Name}
use Rattle.dsde_values.specs.declared.value.Value.{Value}
use Rattle.dsde_values.specs.Path.{EXEC}
use Rattle.dsde_faults.specs.declared.kind.Site.TheVariants as site
use Rattle.dsde_language.specs.DeclaredStructures.{Place, structures_of}
use Rattle.dsde_structure.specs.declared.plan.Entry.{Entry}
use Rattle.dsde_structure.specs.declared.plan.Plan.{Plan}
use Rattle.dsde_structure.specs.Gather.{is_same_name}
use Rattle.dsde_structure.specs.Survival.{IsInOrder, names}
use Rattle.dsde_language.specs.Meaning.{Function, Vars}
use Rattle.dsde_language.specs.Outcome.{Outcome, Fault, Stuck}
use Rattle.dsde_executive_plans.specs.Layout.{structure}
use Rattle.dsde_sound_expressions.specs.Items.{ShapedItemsAreProper, has_proper_items, is_proper_item}
use Rattle.dsde_language.specs.DeclaredModels.{Own, owns_of}
use Rattle.dsde_formalism.specs.System.{State}
use Rattle.dsde_sound_runs.specs.given.system.Body.{at_site}
use Rattle.dsde_sound_runs.specs.given.system.Program.{network_at, plan_at, system}
use Rattle.dsde_sim_movers.specs.Names.{AreNames, NamesParts}
use Rattle.dsde_sim_movers.specs.lemmas.Named.{entries-named}

both : (one other : Bool) → (one && other) ≡ true → (one ≡ true) × (other ≡ true)
both true true is = (refl, refl)
both true false is = absurd (let e : false ≡ true = is in cc)
both false other is = absurd (let e : false ≡ true = is in cc)

abbrev ArePropers : List (List Item) → Type 0
ArePropers = AllByRecursion (λ items. list_all is_proper_item items ≡ true)

all-proper : (decls : List Decl) → list_all has_proper_items decls ≡ true → ArePropers (structures_of decls)
all-proper [] is = tt
all-proper (decl.Enum name variants ∷ decls) is = all-proper decls is
all-proper (decl.Rec name fields ∷ decls) is = all-proper decls is
all-proper (decl.Func name params result stmts value ∷ decls) is = all-proper decls is
all-proper (decl.Top at name args ∷ decls) is = all-proper decls is
all-proper (decl.Atomic at name params body ∷ decls) is = (refl, all-proper decls is)
all-proper (decl.Network at name params ports exec_at body items ∷ decls) is =
    let parts = both (list_all is_proper_item items) (list_all has_proper_items decls) is in (parts.0, all-proper decls parts.1)

proper-at : (structures : List (List Item)) (number : ℕ) → ArePropers structures → list_all is_proper_item (unwrap_or (slice_get structures number) []) ≡ true
proper-at [] number all = refl
proper-at (items ∷ structures) zero all = all.0
proper-at (items ∷ structures) (suc number) all = proper-at structures number all.1

abbrev pub PlansInOrder : Type 0
PlansInOrder = (place : Place) (functions : List Function) (items : List Item) (number : ℕ) (vars : Vars) (plan : Plan) →
    structure place functions items number vars ≡ Ok plan → IsInOrder plan.entries

abbrev pub PlansOrdinary : Type 0
PlansOrdinary = (place : Place) (functions : List Function) (items : List Item) (number : ℕ) (vars : Vars) (plan : Plan) →
    list_all is_proper_item items ≡ true → structure place functions items number vars ≡ Ok plan → AllByRecursion (λ entry. is_same_name EXEC entry.name ≡ false) plan.entries

module _ (proper : ShapedItemsAreProper) (order : PlansInOrder) (ordinary : PlansOrdinary) (model : Model) (shaped : IsShaped model) where
  came-of : (outcome : Outcome Plan) (plan : Plan) → at_site site.Structure outcome ≡ Ok plan → outcome ≡ Ok plan
  came-of (Ok own) plan is = let same : own ≡ plan = cc in ap Ok same
  came-of (Err (Fault kind at)) plan is = absurd (cc is)
  came-of (Err Stuck) plan is = absurd (cc is)

  names-by : (found : Option Own) (number : ℕ) (args : List Value) (state : State) (plan : Plan) → (network_at model found number args).structure state ≡ Ok plan → AreNames (names plan.entries)
  names-by None number args state plan is = absurd (cc is)
  names-by (Some own) number args state plan is =
      let items = unwrap_or (slice_get (structures_of model.decls) number) [] in
      let came : plan_at model own number items args state ≡ Ok plan = came-of (plan_at model own number items args state) plan is in
      entries-named plan.entries (order _ _ items _ _ plan came)
      (ordinary _ _ items _ _ plan (proper-at (structures_of model.decls) number (all-proper model.decls (proper model shaped))) came)

  pub names-parts : NamesParts (system model)
  unfolding system
  names-parts = record { plans = λ number args state plan is. names-by (slice_get (owns_of model.decls) number.0) number.0 args state plan is }
