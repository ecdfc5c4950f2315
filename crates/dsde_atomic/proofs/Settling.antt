-- A component behind an event.
use Rattle.std.proofs.Common.{◌≡◌, ℕ, Bool, List, ◌++◌, drop, length, Result, sym, ◌∙◌, ap, subst}
use Rattle.dsde_values.specs.declared.value.Value.{Value}
use Rattle.dsde_language.specs.given.syntax.decl_Model.{Model}
use Rattle.dsde_values.specs.declared.when.When.{When}
use Rattle.dsde_values.specs.When.{IsMoment}
use Rattle.dsde_language.specs.declared.ids.ModelId.{ModelId}
use Rattle.dsde_language.specs.DeclaredModels.{types_of, state_slots}
use Rattle.dsde_system.specs.given.formalism.leaf_Leaf.{Leaf}
use Rattle.dsde_system.specs.Fitting.{Fill, FitsArgs, FitsState, FitsLeaf, IsInTime}
use Rattle.dsde_atomic.proofs.Bodies.{state-fill}
use Rattle.dsde_values.specs.declared.arrival.Item.{Item}
use Rattle.dsde_faults.specs.declared.end.EvalEnd.{EvalEnd}
use Rattle.dsde_system.specs.given.sound_expressions.Conditions.{Ran}
use Rattle.dsde_atomic.proofs.Filling.{drop-past}

-- The state stands behind the arguments.
pub state-behind : (args state values : List Value) (count : ℕ) → count ≡ length args → values ≡ args ++ state → drop count values ≡ state
state-behind args state values count size is =
    ap (λ (n : ℕ). drop n values) size ∙ ap (λ (l : List Value). drop (length args) l) is ∙ drop-past args state

module _ (model : Model) (leaf : Leaf) (fits : FitsLeaf model leaf) where
  pub leaf-args : FitsArgs model leaf.model.0 leaf.args
  leaf-args = record { below = fits.below; own = fits.own; found = fits.found; fill = fits.args }

  pub leaf-state : FitsState model leaf.model.0 leaf.state
  leaf-state = record { own = fits.own; found = fits.found; fill = fits.state }

pub leaf-fits : (model : Model) (number : ModelId) (boss : Bool) (args state behind : List Value) (time : ℕ) (next : When)
    → FitsArgs model number.0 args → FitsState model number.0 state → IsMoment time → IsInTime next → behind ≡ state
    → FitsLeaf model (record { model = number; boss = boss; args = args; state = behind; last = time; next = next })
leaf-fits model number boss args state behind time next fits full moment in_time same = record {
  below = fits.below;
  own = fits.own;
  found = fits.found;
  args = fits.fill;
  state = subst (λ (l : List Value). Fill (types_of model) (state_slots model fits.own) l) (sym same) (state-fill model number.0 state fits.own full fits.found);
  last = moment;
  next = in_time;
}

pub ran-at : (model : Model) (number : ℕ) (values other : List Value) (sends more : List Item) (result same : Result (Unit {0}) EvalEnd) (after : List Value) (sent : List Item)
    → values ≡ other → sends ≡ more → result ≡ same → Ran model number values sends result after sent → Ran model number other more same after sent
ran-at model number values other sends more result same after sent e f g ran =
    subst (λ (l : List Value). Ran model number l more same after sent) e
    (subst (λ (l : List Item). Ran model number values l same after sent) f
    (subst (λ (r : Result (Unit {0}) EvalEnd). Ran model number values sends r after sent) g ran))
