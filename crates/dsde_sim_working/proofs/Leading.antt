-- Advances of a program lead on, and its structures are in order.
use Rattle.std.proofs.Common.{◌≡◌, ℕ, ◌+◌, ◌≤◌, Bool, true, false, List, [], Option, Some, None, refl, sym, ap, subst, ◌∙◌, arith}
use Rattle.std.specs.Prelude.{◌^◌, nat_lt, ℤ, pos, negsuc, if◌then◌else◌, Result, Ok, Err, slice_get, unwrap_or}
use Rattle.dsde_syntax.specs.declared.decl.Model.{Model}
use Rattle.dsde_syntax.specs.declared.item.Item.{Item}
use Rattle.dsde_values.specs.declared.value.Value.{Value}
use Rattle.dsde_values.specs.declared.when.When.{When}
use Rattle.dsde_values.specs.declared.when.When.TheVariants.{At, Never}
use Rattle.dsde_faults.specs.declared.kind.FaultKind.TheVariants.{TimeTooFar}
use Rattle.dsde_faults.specs.declared.kind.Site.{Site}
use Rattle.dsde_faults.specs.declared.kind.Site.TheVariants as site
use Rattle.dsde_language.specs.declared.ids.ModelId.{ModelId}
use Rattle.dsde_language.specs.DeclaredModels.{whole_of, Own, owns_of}
use Rattle.dsde_language.specs.DeclaredStructures.{Place, place_of_items, structures_of, first_via}
use Rattle.dsde_language.specs.Functions.{functions_of, mean_of}
use Rattle.dsde_language.specs.Meaning.{Function, Vars}
use Rattle.dsde_language.specs.Outcome.{Fault, Stuck, Outcome, ◌>>=◌, int_of, option_of}
use Rattle.dsde_system.specs.given.executive_plans.Layout as layout
use Rattle.dsde_system.specs.given.structure.plan_Plan.{Plan}
use Rattle.dsde_system.specs.given.structure.Survival.{IsInOrder}
use Rattle.dsde_system.specs.given.formalism.System.{State}
use Rattle.dsde_system.specs.Body.{at_site, body_vars, after, due_after, due}
use Rattle.dsde_system.specs.Program.{component_at, plan_at, network_at, system}
use Rattle.dsde_sim_movers.specs.Stands.{IsDueLater, IsForward}

ok-is : {A E : Type 0} (x y : A) → (let own : Result A E = Ok x in own ≡ Ok y) → x ≡ y
ok-is x y is = cc

site-ok : {A : Type 0} (own : Site) (outcome : Outcome A) (value : A) → at_site own outcome ≡ Ok value → outcome ≡ Ok value
site-ok own (Ok found) value is = ap (λ one. Ok one) (ok-is found value is)
site-ok own (Err (Fault kind at)) value is = absurd (cc is)
site-ok own (Err Stuck) value is = absurd (cc is)

bind-ok : {A B : Type 0} (first : Outcome A) (next : A → Outcome B) (value : B) → (first >>= next) ≡ Ok value → (x : A) × (next x ≡ Ok value)
bind-ok (Ok x) next value is = (x, is)
bind-ok (Err why) next value is = absurd (cc is)

-- ---- a time that follows another by an advance

after-later : (at time : ℕ) (advance : ℤ) (next : When) → after at time advance ≡ Ok next → IsDueLater time next
after-later at time (pos number) next is = by-test (nat_lt (time + number) (2 ^ 63)) is
  where
    by-test : (test : Bool) → (let own : Outcome When = if test then Ok (At (time + number)) else Err (Fault TimeTooFar at) in own ≡ Ok next) → IsDueLater time next
    by-test true is = subst (IsDueLater time) (ok-is (At (time + number)) next is) (omega arith)
    by-test false is = absurd (cc is)
after-later at time (negsuc number) next is = absurd (cc is)

held-later : (at time : ℕ) (held : Option Value) (next : When) → due_after at time held ≡ Ok next → IsDueLater time next
held-later at time None next is = subst (IsDueLater time) (ok-is Never next is) tt
held-later at time (Some own) next is =
    let number = bind-ok (int_of own) (λ number. after at time number) next is in
    after-later at time number.0 next number.1

due-later : (model : Model) (own : Own) (args : List Value) (state : State) (time : ℕ) (next : When) → due model own args state time ≡ Ok next → IsDueLater time next
due-later model own args state time next is =
    let advance = bind-ok (mean_of model own.body.advance (body_vars model own args state)) (λ advance. option_of advance >>= (λ held. due_after own.body.advance_at time held)) next is in
    let held = bind-ok (option_of advance.0) (λ held. due_after own.body.advance_at time held) next advance.1 in
    held-later own.body.advance_at time held.0 next held.1

component-later : (model : Model) (found : Option Own) (args : List Value) (state : State) (time : ℕ) (next : When) → (component_at model found args).advance state time ≡ Ok next → IsDueLater time next
component-later model None args state time next is = absurd (cc is)
component-later model (Some own) args state time next is = due-later model own args state time next (site-ok site.Advance (due model own args state time) next is)

-- ---- structures

module _ (ordered : (place : Place) (functions : List Function) (items : List Item) (number : ℕ) (vars : Vars) (plan : Plan) → layout.structure place functions items number vars ≡ Ok plan → IsInOrder plan.entries) where
  network-ordered : (model : Model) (found : Option Own) (number : ℕ) (args : List Value) (state : State) (plan : Plan) → (network_at model found number args).structure state ≡ Ok plan → IsInOrder plan.entries
  network-ordered model None number args state plan is = absurd (cc is)
  network-ordered model (Some own) number args state plan is =
      let items = unwrap_or (slice_get (structures_of model.decls) number) [] in
      ordered (place_of_items (whole_of model) own.ports own.body items) (functions_of model) items (first_via model number) (body_vars model own args state) plan
      (site-ok site.Structure (plan_at model own number items args state) plan is)

  pub leads-on : (model : Model) → IsForward (system model)
  unfolding system
  leads-on model = record {
    later = λ number args state time next is. component-later model (slice_get (owns_of model.decls) number.0) args state time next is;
    ordered = λ number args state plan is. network-ordered model (slice_get (owns_of model.decls) number.0) number.0 args state plan is;
  }
