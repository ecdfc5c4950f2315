-- Ends of steps, and what stands at a number.
use Rattle.std.proofs.Common.{◌≡◌, ℕ, ◌<◌, List, length, Option, Some, Result, Ok, Err, slice_get, refl, sym, ap, subst}
use Rattle.dsde_language.specs.given.syntax.decl_Model.{Model}
use Rattle.dsde_values.specs.declared.value.Value.{Value}
use Rattle.dsde_faults.specs.declared.kind.Site.{Site}
use Rattle.dsde_faults.specs.declared.end.EvalEnd.{EvalEnd}
use Rattle.dsde_faults.specs.declared.end.EvalEnd.TheVariants as eval_end
use Rattle.dsde_faults.specs.declared.end.LeafEnd.{LeafEnd}
use Rattle.dsde_faults.specs.declared.end.LeafEnd.TheVariants as leaf_end
use Rattle.dsde_language.specs.declared.code.Code.{Code}
use Rattle.dsde_language.specs.declared.ids.ModelId.{ModelId}
use Rattle.dsde_language.specs.NodeModels.{infos_of, resolved}
use Rattle.dsde_language.specs.Right.{IsRight}
use Rattle.dsde_language.specs.Outcome.{Fault, Outcome, Gives}
use Rattle.dsde_language.specs.Outcome as outcome
use Rattle.dsde_language.specs.DeclaredModels.{Own}
use Rattle.dsde_system.specs.given.sound_expressions.Bodies.{BodyStands}
use Rattle.dsde_system.specs.given.sound_expressions.Laws.{HasOwn, BodiesStand}
use Rattle.dsde_system.specs.given.formalism.Leaf as formalism
use Rattle.dsde_system.specs.Body.{at_site}
use Rattle.dsde_system.specs.Program.{system, component, component_at}
use Rattle.dsde_atomic.specs.Steps.{own_at, sited}

pub some-is : {A : Type 0} (o : Option A) (a b : A) → o ≡ Some a → o ≡ Some b → a ≡ b
some-is o a b e h = cc

-- An end of an outcome is the end of the part in which it stands.
pub site-end : {A : Type 0} (site : Site) (meant : Outcome A) (end : EvalEnd) → Gives meant (let r : Result A EvalEnd = Err end in r) → formalism.Gives (at_site site meant) (let r : Result A LeafEnd = Err (sited site end) in r)
site-end site meant (eval_end.Fault kind at) h = rw h refl
site-end site meant eval_end.Memory h = tt

pub site-ok : {A : Type 0} (site : Site) (meant : Outcome A) (value : A) → meant ≡ Ok value → at_site site meant ≡ Ok value
site-ok site meant value h = rw h refl

-- An end of what comes first is the end of both.
pub then-end : {A B : Type 0} (meant : Outcome A) (next : A → Outcome B) (end : EvalEnd) → Gives meant (let r : Result A EvalEnd = Err end in r) → Gives (outcome.◌>>=◌ meant next) (let r : Result B EvalEnd = Err end in r)
then-end meant next (eval_end.Fault kind at) h = rw h refl
then-end meant next eval_end.Memory h = tt

pub leaf-end : {A B : Type 0} (meant : Result A LeafEnd) (next : A → Result B LeafEnd) (end : LeafEnd) → formalism.Gives meant (let r : Result A LeafEnd = Err end in r) → formalism.Gives (formalism.◌>>=◌ meant next) (let r : Result B LeafEnd = Err end in r)
leaf-end meant next (leaf_end.Fault site kind at) h = rw h refl
leaf-end meant next leaf_end.Memory h = tt

pub leaf-then : {A B : Type 0} (meant : Result A LeafEnd) (next : A → Result B LeafEnd) (value : A) (result : Result B LeafEnd) → meant ≡ Ok value → formalism.Gives (next value) result → formalism.Gives (formalism.◌>>=◌ meant next) result
leaf-then meant next value result h k = rw h k

-- The body of a model stands where the program has it.
pub code-stands : (model : Model) (number : ℕ) (code : Code) → BodiesStand → IsRight model → number < length (infos_of model) → Some code ≡ slice_get (resolved model).own.codes number
    → (own : Own) → own_at model number ≡ Some own → BodyStands model own code
code-stands model number code law right below coded own found =
    let has : HasOwn model number = law model number right below in
    subst (λ (o : Own). BodyStands model o code) (some-is (own_at model number) has.own own has.is.found found)
    (subst (λ (c : Code). BodyStands model has.own c) (some-is (slice_get (resolved model).own.codes number) has.is.code code has.is.coded (sym coded)) has.is.body)

-- what a program means by the model with a number
pub component-is : (model : Model) (number : ModelId) (args : List Value) (own : Own) → own_at model number.0 ≡ Some own → (system model).component number args ≡ component model own args
unfolding system
component-is model number args own found = ap (λ (o : Option Own). component_at model o args) found
