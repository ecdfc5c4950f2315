-- Starts and moves of components.
use Rattle.std.proofs.Common.{◌≡◌, ℕ, zero, suc, slice_get, ◌-◌, Bool, List, [], ◌∷◌, Option, Some, None, Ok, refl, subst, arith}
use Rattle.dsde_syntax.specs.declared.decl.Model.{Model}
use Rattle.dsde_values.specs.declared.path.Path.{Path}
use Rattle.dsde_values.specs.declared.value.Value.{Value}
use Rattle.dsde_values.specs.declared.when.When.{When}
use Rattle.dsde_values.specs.When.{IsMoment}
use Rattle.dsde_language.specs.declared.ids.ModelId.{ModelId}
use Rattle.dsde_language.specs.DeclaredModels.{types_of, Own, owns_of, state_slots}
use Rattle.dsde_formalism.specs.declared.leaf.Leaf.{Leaf}
use Rattle.dsde_formalism.specs.declared.leaf.MoveKind.{MoveKind}
use Rattle.dsde_formalism.specs.declared.leaf.MoveKind.TheVariants.{Internal, External, Confluent}
use Rattle.dsde_formalism.specs.System.{State, Ports}
use Rattle.dsde_formalism.specs.Leaf.{component_of, settled, start_leaf, move_leaf, transition}
use Rattle.dsde_sim_starting.specs.given.system.Program.{system}
use Rattle.dsde_sim_starting.specs.given.system.Fitting.{Fill, FitsArgs, FitsState, FitsLeaf, FitsInputs, IsInTime}
use Rattle.dsde_sim_tree.specs.declared.event.Event.TheVariants.{AddLeaf, Move}
use Rattle.dsde_sim_tree.specs.Told.{Told, told, quietly, ◌then◌, at}
use Rattle.dsde_sim_tree.specs.Start.{entered, start_leaf_at}
use Rattle.dsde_sim_tree.specs.Move.{take_move}
use Rattle.dsde_sim_starting.specs.given.sound_structures.Sure.{Sure, IsSure}
use Rattle.dsde_sim_starting.specs.given.sound_structures.lemmas_Steps.{sure-then}
use Rattle.dsde_sound_runs.proofs.Relied.{Laws}
use Rattle.dsde_sound_runs.proofs.Safe.{Safe, safe-at, safe-then}

some-is : {A : Type 0} (o : Option A) (a b : A) → o ≡ Some a → o ≡ Some b → a ≡ b
some-is o a b e h = cc

-- a component of this model with these arguments, or the executive of such a network, which fits
pub record IsLeaf (model : Model) (number : ModelId) (boss : Bool) (args : List Value) (leaf : Leaf) : Type 0 where
  pub fits : FitsLeaf model leaf
  pub model_is : leaf.model ≡ number
  pub boss_is : leaf.boss ≡ boss
  pub args_is : leaf.args ≡ args

pub leaf-args : (model : Model) (leaf : Leaf) → FitsLeaf model leaf → FitsArgs model leaf.model.0 leaf.args
leaf-args model leaf fits = record { below = fits.below; own = fits.own; found = fits.found; fill = fits.args }

pub leaf-state : (model : Model) (leaf : Leaf) → FitsLeaf model leaf → FitsState model leaf.model.0 leaf.state
leaf-state model leaf fits = record { own = fits.own; found = fits.found; fill = fits.state }

-- a part takes from the room, or faults
pub entered-safe : (left : ℕ) (path : Path) (place room : ℕ) → Safe (λ (rest : ℕ). Unit {0}) (entered left path place room)
entered-safe zero path place room = tt
entered-safe (suc left) path place zero = tt
entered-safe (suc left) path place (suc room) = tt

module _ (model : Model) (laws : Laws model) (time : ℕ) (moment : IsMoment time) where
  module _ (number : ModelId) (args : List Value) (fits : FitsArgs model number.0 args) where
    abbrev sure : IsSure model number args
    sure = laws.component number args fits

    leaf-of : (boss : Bool) (state : State) (next : When) → FitsState model number.0 state → IsInTime next
        → IsLeaf model number boss args (record { model = number; boss = boss; args = args; state = state; last = time; next = next })
    leaf-of boss state next stood in_time = record {
      fits = record {
        below = fits.below;
        own = fits.own;
        found = fits.found;
        args = fits.fill;
        state = subst (λ (o : Own). Fill (types_of model) (state_slots model o) state) (some-is (slice_get (owns_of model.decls) number.0) stood.own fits.own stood.found fits.found) stood.fill;
        last = moment;
        next = in_time;
      };
      model_is = refl;
      boss_is = refl;
      args_is = refl;
    }

    settled-sure : (boss : Bool) (state : State) → FitsState model number.0 state → Sure (IsLeaf model number boss args) (settled (system model) number boss args state time)
    settled-sure boss state stood =
        sure-then IsInTime (IsLeaf model number boss args) (((system model).component number args).advance state time)
        (λ next. let own : Leaf = record { model = number; boss = boss; args = args; state = state; last = time; next = next } in Ok own)
        (sure.advance state time stood) (λ next in_time. leaf-of boss state next stood in_time)

    start-sure : (boss : Bool) → Sure (IsLeaf model number boss args) (start_leaf (system model) number boss args time)
    start-sure boss =
        sure-then (FitsState model number.0) (IsLeaf model number boss args) ((system model).component number args).init (λ state. settled (system model) number boss args state time)
        sure.init (λ state stood. settled-sure boss state stood)

    pub leaf-starts : (left : ℕ) (boss : Bool) (path : Path) (room : ℕ) → Safe (λ one. IsLeaf model number boss args one.0) (start_leaf_at (system model) left number boss args path time room).end
    leaf-starts left boss path room =
        safe-then (λ (rest : ℕ). Unit {0}) (λ one. IsLeaf model number boss args one.0) (quietly (entered left path ((system model).component number args).at room))
        (λ rest. quietly (at path (start_leaf (system model) number boss args time)) then (λ leaf. told (AddLeaf path number leaf.state leaf.next ∷ []) (leaf, rest)))
        (entered-safe left path ((system model).component number args).at room)
        (λ rest none.
        safe-then (IsLeaf model number boss args) (λ one. IsLeaf model number boss args one.0) (quietly (at path (start_leaf (system model) number boss args time)))
        (λ leaf. told (AddLeaf path number leaf.state leaf.next ∷ []) (leaf, rest))
        (safe-at (IsLeaf model number boss args) path (start_leaf (system model) number boss args time) (start-sure boss)) (λ leaf own. own))

  module _ (leaf : Leaf) (fits : FitsLeaf model leaf) (got : Ports) (came : FitsInputs model leaf.model.0 got) where
    elapsed : IsMoment (time - leaf.last)
    elapsed = omega (arith, moment)

    own-sure : IsSure model leaf.model leaf.args
    own-sure = laws.component leaf.model leaf.args (leaf-args model leaf fits)

    transition-sure : (kind : MoveKind) → Sure (FitsState model leaf.model.0) (transition (component_of (system model) leaf) leaf.state kind (time - leaf.last) got)
    transition-sure Internal = own-sure.internal leaf.state (leaf-state model leaf fits)
    transition-sure External = own-sure.external leaf.state (time - leaf.last) got (leaf-state model leaf fits) elapsed came
    transition-sure Confluent = own-sure.confluent leaf.state (time - leaf.last) got (leaf-state model leaf fits) elapsed came

    move-sure : (kind : MoveKind) → Sure (IsLeaf model leaf.model leaf.boss leaf.args) (move_leaf (system model) leaf kind time got)
    move-sure kind =
        sure-then (FitsState model leaf.model.0) (IsLeaf model leaf.model leaf.boss leaf.args) (transition (component_of (system model) leaf) leaf.state kind (time - leaf.last) got)
        (λ state. settled (system model) leaf.model leaf.boss leaf.args state time) (transition-sure kind)
        (λ state stood. settled-sure leaf.model leaf.args (leaf-args model leaf fits) leaf.boss state stood)

    pub take-safe : (kind : MoveKind) (path : Path) → Safe (IsLeaf model leaf.model leaf.boss leaf.args) (take_move (system model) leaf kind path time got).end
    take-safe kind path =
        safe-then (IsLeaf model leaf.model leaf.boss leaf.args) (IsLeaf model leaf.model leaf.boss leaf.args) (quietly (at path (move_leaf (system model) leaf kind time got)))
        (λ moved. told (Move path leaf.model kind moved.state moved.next ∷ []) moved)
        (safe-at (IsLeaf model leaf.model leaf.boss leaf.args) path (move_leaf (system model) leaf kind time got) (move-sure kind)) (λ moved own. own)

    pub leaf-moves : (kind : Option MoveKind) (path : Path) → (let step : Told Leaf = elim kind [ Some kind ↦ take_move (system model) leaf kind path time got | None ↦ told [] leaf ] in Safe (IsLeaf model leaf.model leaf.boss leaf.args) step.end)
    leaf-moves (Some kind) path = take-safe kind path
    leaf-moves None path = record { fits = fits; model_is = refl; boss_is = refl; args_is = refl }
