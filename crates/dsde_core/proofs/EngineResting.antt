-- An engine between two turns.
use Rattle.std.proofs.Common.{◌≡◌, ◌∙◌, ℕ, ◌+◌, ◌*◌, ◌≤◌, length, min, Bool, true, false, Option, Some, None, IfSome, is_some, refl, sym, ap, arith}
use Rattle.dsde_syntax.specs.declared.decl.Model.{Model}
use Rattle.dsde_values.specs.declared.arrival.Arrival.{Arrival}
use Rattle.dsde_values.specs.declared.when.When.{When}
use Rattle.dsde_values.specs.declared.when.When.TheVariants.{At}
use Rattle.dsde_language.specs.declared.ids.ModelId.{ModelId}
use Rattle.dsde_sim_tree.specs.given.formalism.System.{Chosen}
use Rattle.dsde_sim_tree.specs.declared.sim.Sim.{Sim}
use Rattle.dsde_sim_tree.specs.Tree.{args_of, model_of, parts}
use Rattle.dsde_sim_tree.specs.Turn.{turn_time}
use Rattle.dsde_core_outputs.specs.given.sim_working.Working.{StandsAt, StandsIf}
use Rattle.dsde_core_moving.specs.given.core_flat.Scheduled.{when_of}
use Rattle.dsde_core_moving.specs.given.core_moves.flat_Flat.{Flat}
use Rattle.dsde_core_moving.specs.given.core_moves.Flat.{tree_of}
use Rattle.dsde_core_moving.specs.given.core_moves.Resting.{Rests}
use Rattle.dsde_core.specs.Standing.{tree_if, RestsIf}

pub its-tree : (spent : Bool) (flat : Flat) → is_some (tree_if spent flat) ≡ true → tree_if spent flat ≡ Some (tree_of flat)
its-tree true flat is = absurd (let wrong : false ≡ true = is in cc)
its-tree false flat is = refl

pub its-rests : (spent : Bool) (model : Model) (flat : Flat) → is_some (tree_if spent flat) ≡ true → RestsIf spent model flat → Rests model flat
its-rests true model flat is rests = absurd (let wrong : false ≡ true = is in cc)
its-rests false model flat is rests = rests

-- its tree, if there is one, is one of the program
pub its-tree-stands : (spent : Bool) (model : Model) (flat : Flat) → RestsIf spent model flat → StandsIf model (tree_if spent flat)
its-tree-stands true model flat rests = tt
its-tree-stands false model flat rests = record { fits = rests.stands.fits; within = rests.within }

-- its schedule has few pairs, if there is a tree
pub its-few : (spent : Bool) (model : Model) (flat : Flat) → RestsIf spent model flat → IfSome (tree_if spent flat) (λ tree. length flat.queue.pairs ≤ 2 * parts tree + 64)
its-few true model flat rests = tt
its-few false model flat rests = rests.few

-- a turn is not after the next event
pub not-after : (first : Option ℕ) (next : When) (head : Option Arrival) (time : ℕ) → when_of first ≡ next → turn_time next head ≡ Some time → IfSome first (λ due. time ≤ due)
not-after None next head time is at = tt
not-after (Some due) next None time is at = let same : due ≡ time = (let e : turn_time (At due) None ≡ Some time = ap (λ (w : When). turn_time w None) is ∙ at in cc) in omega (arith, same)
not-after (Some due) next (Some head) time is at =
    let same : min due head.time ≡ time = (let e : turn_time (At due) (Some head) ≡ Some time = ap (λ (w : When). turn_time w (Some head)) is ∙ at in cc) in
    omega (arith, same)

-- a turn leaves the model of the root
pub same-root : (model : Model) (before after : Sim) (turn time taken later_turn later later_taken : ℕ) → StandsAt model (record { tree = Some before; turn = turn; time = time; taken = taken }) →
    StandsAt model (record { tree = Some after; turn = later_turn; time = later; taken = later_taken }) → (number : ModelId) → model_of before ≡ number → model_of after ≡ number
same-root model before after turn time taken later_turn later later_taken stands stands_later number is =
    let e = sym stands_later.stands.top ∙ stands.stands.top in
    let same : (let one : Chosen = record { model = model_of after; args = args_of after } in one) ≡ (let other : Chosen = record { model = model_of before; args = args_of before } in other) = cc in
    ap (λ (chosen : Chosen). chosen.model) same ∙ is
