-- Turns of an engine that draws, and its turns in path order.
use Rattle.std.proofs.Common.{◌≡◌, ◌∙◌, ◌+◌, ℕ, List, [], ◌++◌, Option, Some, None, IfSome, Result, Ok, Err, sym, ap, subst, append-nil}
use Rattle.std.proofs.lemmas.List.Sorted.{IsPermutation-refl}
use Rattle.std.specs.List.Sorted.{IsPermutation}
use Rattle.rand_pcg.specs.Lcg.{Lcg}
use Rattle.dsde_values.specs.declared.arrival.Arrival.{Arrival}
use Rattle.dsde_values.specs.declared.arrival.Item.{Item}
use Rattle.dsde_sim_tree.specs.given.formalism.System.{System}
use Rattle.dsde_sim_tree.specs.declared.event.Event.{Event}
use Rattle.dsde_sim_tree.specs.declared.fault.TurnEnd.{TurnEnd}
use Rattle.dsde_sim_tree.specs.declared.fault.TurnEnd.TheVariants.{Memory}
use Rattle.dsde_sim_tree.specs.Told.{Told, quietly}
use Rattle.dsde_sim_tree.specs.declared.sim.Sim.{Sim}
use Rattle.dsde_sim_tree.specs.declared.step.Step.{Step}
use Rattle.dsde_sim_tree.specs.declared.step.Step.TheVariants.{Turned, Quiet}
use Rattle.dsde_sim_tree.specs.Engine.{Engine, turned}
use Rattle.dsde_sim_tree.specs.Turn as turns
use Rattle.dsde_sim_tree.specs.Turn.{is_taken, items_at, turn}
use Rattle.dsde_sim_movers.specs.Names.{IsNamed}
use Rattle.dsde_sim_movers.specs.lemmas.Steps.{split-then}
use Rattle.dsde_order.specs.Free.{Drawing, advance_tree, after_turn, drawn_turn}

-- turns in a drawn order and in path order agree
abbrev pub TurnsAgree : Type 0
TurnsAgree = (system : System) (tree : Sim) (number time : ℕ) (items : List Item) (generator : Lcg) (after other : Sim) → IsNamed tree →
    (turn system tree number time items).end ≡ Ok after → (drawn_turn system tree number time items generator).end ≡ Ok other →
    (after ≡ other) × IsPermutation (turn system tree number time items).events (drawn_turn system tree number time items generator).events

-- two engines' next turns, by the tree that there is and the time of the turn
abbrev pub plainly : System → Engine → Option Arrival → Option Sim → Option ℕ → Told (Step × Engine)
plainly system engine head found time = elim found [ Some tree ↦ turns.advance_tree system engine tree head time | None ↦ quietly (Err Memory) ]

abbrev pub freely : System → Drawing → Option Arrival → Option Sim → Option ℕ → Told (Step × Drawing)
freely system own head found time = elim found [ Some tree ↦ advance_tree system own tree head time | None ↦ quietly (Err Memory) ]

same-value : {A : Type 0} (x y : A) → (let one : Result A TurnEnd = Ok x in one ≡ Ok y) → x ≡ y
same-value x y is = cc

never-value : {A : Type 0} (end : TurnEnd) (y : A) → (let one : Result A TurnEnd = Err end in one ≡ Ok y) → ⊥
never-value end y is = cc

permuted : (xs ys all some : List Event) → all ≡ xs ++ [] → some ≡ ys ++ [] → IsPermutation xs ys → IsPermutation all some
permuted xs ys all some is are same =
    subst (λ (list : List Event). IsPermutation list some) (sym (is ∙ append-nil xs)) (subst (λ (list : List Event). IsPermutation xs list) (sym (are ∙ append-nil ys)) same)

module _ (agree : TurnsAgree) (system : System) (own : Drawing) (head : Option Arrival) (step : Step) (after : Drawing) (other : Step × Engine) where
  abbrev Agree : Told (Step × Engine) → Told (Step × Drawing) → Type 0
  Agree plain drawn = (other ≡ (step, after.engine)) × IsPermutation plain.events drawn.events

  turned-agree : (tree : Sim) (time : ℕ) → IsNamed tree → (plainly system own.engine head (Some tree) (Some time)).end ≡ Ok other → (freely system own head (Some tree) (Some time)).end ≡ Ok (step, after) →
      Agree (plainly system own.engine head (Some tree) (Some time)) (freely system own head (Some tree) (Some time))
  turned-agree tree time named plain drawn =
      let number = own.engine.turn + 1 in
      let items = items_at head time in
      let one = turn system tree number time items in
      let two = drawn_turn system tree number time items own.generator in
      let first = split-then one.events one.end (turns.after_turn own.engine head time) other plain in
      let second = split-then two.events two.end (after_turn system own tree head time) (step, after) drawn in
      let both = agree system tree number time items own.generator first.0 second.0 named first.1 second.1 in
      let came : other ≡ (Turned (is_taken head time), turned own.engine first.0 time (is_taken head time)) = sym (same-value _ other first.2) in
      let here = same-value _ (step, after) second.2 in (
        came
            ∙ ap (λ (found : Sim). let pair : Step × Engine = (Turned (is_taken head time), turned own.engine found time (is_taken head time)) in pair) both.0
            ∙ ap (λ (found : Step × Drawing). let pair : Step × Engine = (found.0, found.1.engine) in pair) here,
        permuted one.events two.events _ _ first.3 second.3 both.1,
      )

  pub advances-agree : (found : Option Sim) (time : Option ℕ) → IfSome found IsNamed → (plainly system own.engine head found time).end ≡ Ok other → (freely system own head found time).end ≡ Ok (step, after) →
      Agree (plainly system own.engine head found time) (freely system own head found time)
  advances-agree None time named plain drawn = absurd (never-value Memory other plain)
  advances-agree (Some tree) None named plain drawn = (
    sym (same-value (Quiet, own.engine) other plain) ∙ ap (λ (found : Step × Drawing). let pair : Step × Engine = (found.0, found.1.engine) in pair) (same-value (Quiet, own) (step, after) drawn),
    IsPermutation-refl [],
  )
  advances-agree (Some tree) (Some time) named plain drawn = turned-agree tree time named plain drawn
