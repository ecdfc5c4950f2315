-- What is told of a turn without memory is delivered as the whole of it.
use Rattle.std.proofs.Common.{◌≡◌, ℕ, length, drop, List, [], ◌++◌, Result, Ok, Err, sym, ◌∙◌, ap, subst, append_assoc, append-nil}
use Rattle.std.proofs.Math.Seq.{drop-append_seam}
use Rattle.std.proofs.lemmas.List.{append_cancel_left, take-append-drop}
use Rattle.std.proofs.lemmas.List.Concat.{flat_map-append}
use Rattle.std.proofs.lemmas.List.Elements.{Contains-append_left}
use Rattle.std.specs.List.{flat_map, Contains}
use Rattle.dsde_values.specs.declared.path.Path.{Path}
use Rattle.dsde_values.specs.declared.value.Value.{Value}
use Rattle.dsde_sim_tree.specs.given.formalism.System.{System, Ports}
use Rattle.dsde_sim_tree.specs.declared.event.Event.{Event}
use Rattle.dsde_sim_tree.specs.declared.fault.TurnEnd.{TurnEnd}
use Rattle.dsde_sim_tree.specs.declared.fault.TurnEnd.TheVariants.{Fault, Memory}
use Rattle.dsde_sim_tree.specs.Told.{Told, Tells, told}
use Rattle.dsde_sim_tree.specs.declared.sim.Sim.{Sim}
use Rattle.dsde_sim_movers.specs.Places.{paths, reached, ReachOnly, ReachNoneAdded}
use Rattle.dsde_sim_movers.specs.Deliveries.{brought, received}
use Rattle.dsde_sim_movers.specs.Delivered.{UpTo, IsDelivered}

-- what was told of a step is the front of what it tells
told-front : {A : Type 0} (step : Told A) (old new : List Event) (result : Result A TurnEnd) → Tells step old new result → (rest : List Event) × (step.events ≡ drop (length old) new ++ rest)
told-front step old new (Ok value) tells = ([], sym (drop-append_seam old step.events) ∙ ap (drop (length old)) (sym tells.0) ∙ sym (append-nil (drop (length old) new)))
told-front step old new (Err (Fault path site kind place)) tells = ([], sym (drop-append_seam old step.events) ∙ ap (drop (length old)) (sym tells.0) ∙ sym (append-nil (drop (length old) new)))
told-front step old new (Err Memory) tells =
    let all = old ++ step.events in
    let rest = drop (length new) all in
    let grown : new ≡ old ++ drop (length old) new = sym (take-append-drop (length old) new) ∙ ap (λ front. front ++ drop (length old) new) tells.kept in (
      rest,
      append_cancel_left old step.events (drop (length old) new ++ rest)
          (sym (take-append-drop (length new) all) ∙ ap (λ front. front ++ rest) (tells.front ∙ grown) ∙ append_assoc old (drop (length old) new) rest),
    )

front-only : (places : List Path) (told rest : List Event) → ReachOnly places (told ++ rest) → ReachOnly places told
front-only places told rest only path there =
    only path (subst (λ (list : List Path). Contains list path) (sym (flat_map-append reached told rest)) (Contains-append_left (flat_map reached told) (flat_map reached rest) path there))

front-none : (told rest : List Event) → ReachNoneAdded (told ++ rest) → ReachNoneAdded told
front-none told rest none before after path is in_before in_after =
    none before (after ++ rest) path (ap (λ front. front ++ rest) is ∙ append_assoc before after rest) in_before
    (subst (λ (list : List Path). Contains list path) (sym (flat_map-append reached after rest)) (Contains-append_left (flat_map reached after) (flat_map reached rest) path in_after))

front-upto : {A : Type 0} (B : Type 0) (end : Result A TurnEnd) (other : TurnEnd) (f : Event → List Value) (told rest : List Event) (all : List Value) → UpTo end (flat_map f (told ++ rest)) all →
    (let stopped : Result B TurnEnd = Err other in UpTo stopped (flat_map f told) all)
front-upto B (Ok value) other f told rest all upto = (flat_map f rest, sym upto ∙ flat_map-append f told rest)
front-upto B (Err end) other f told rest all upto =
    (flat_map f rest ++ upto.0, upto.1 ∙ ap (λ front. front ++ upto.0) (flat_map-append f told rest) ∙ append_assoc (flat_map f told) (flat_map f rest) upto.0)

module _ (system : System) (tree : Sim) (time : ℕ) (got : Ports) where
  front-delivered : {A : Type 0} (B : Type 0) (end : Result A TurnEnd) (other : TurnEnd) (told rest : List Event) → IsDelivered system tree time got (told ++ rest) end →
      (let stopped : Result B TurnEnd = Err other in IsDelivered system tree time got told stopped)
  front-delivered B end other told rest is = record {
    places = front-only (paths tree) told rest is.places;
    calm = front-none told rest is.calm;
    received = λ path port. front-upto B end other (brought path port) told rest (received system tree path port time got) (is.received path port);
  }

  -- what code tells of a step that delivers is delivered
  pub told-delivered : (A : Type 0) (step : Told A) (old new : List Event) (result : Result A TurnEnd) → Tells step old new result →
      IsDelivered system tree time got step.events step.end → IsDelivered system tree time got (drop (length old) new) result
  told-delivered A step old new (Ok value) tells is =
      subst (λ (events : List Event). IsDelivered system tree time got events (Ok value)) (sym (drop-append_seam old step.events) ∙ ap (drop (length old)) (sym tells.0))
      (subst (λ end. IsDelivered system tree time got step.events end) tells.1 is)
  told-delivered A step old new (Err end) tells is =
      let front = told-front step old new (Err end) tells in
      front-delivered A step.end end (drop (length old) new) front.0
      (subst (λ (events : List Event). IsDelivered system tree time got events step.end) front.1 is)
