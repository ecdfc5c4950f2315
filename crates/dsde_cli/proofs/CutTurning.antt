-- What a turn of an engine comes to.
use Rattle.std.proofs.Common.{◌≡◌, ℕ, ◌+◌, Bool, List, [], Option, Some, None, refl, sym, ap, ◌∙◌}
use Rattle.std.specs.Prelude.{if◌then◌else◌, Result, Ok, Err}
use Rattle.dsde_values.specs.declared.arrival.Arrival.{Arrival}
use Rattle.dsde_formalism.specs.System.{System}
use Rattle.dsde_sim_tree.specs.declared.event.Event.{Event}
use Rattle.dsde_sim_tree.specs.declared.fault.TurnEnd.{TurnEnd}
use Rattle.dsde_sim_tree.specs.declared.fault.TurnEnd.TheVariants as turn_end
use Rattle.dsde_sim_tree.specs.Told.{Told, ◌then◌}
use Rattle.dsde_sim_tree.specs.declared.sim.Sim.{Sim}
use Rattle.dsde_sim_tree.specs.declared.step.Step.{Step}
use Rattle.dsde_sim_tree.specs.declared.step.Step.TheVariants.{Turned, Quiet}
use Rattle.dsde_sim_tree.specs.Engine.{Engine, next_of, turned}
use Rattle.dsde_cli.specs.CutTurns.{Turns}
use Rattle.dsde_sim_tree.specs.Turn.{advance, advance_tree, after_turn, turn, turn_time, is_taken, items_at}

abbrev pub Answer : Type 0
Answer = Result (Step × Engine) TurnEnd

abbrev pub fell_quiet : Engine → Answer
fell_quiet after = Ok (Quiet, after)

abbrev pub took_turn : Bool → Engine → Answer
took_turn took after = Ok (Turned took, after)

ok-is : (x y : Step × Engine) → (let own : Answer = Ok x in own ≡ Ok y) → x ≡ y
ok-is x y is = cc

not-quiet : (took : Bool) → (let own : Step = Turned took in own ≡ Quiet) → ⊥
not-quiet took is = absurd (cc is)

turned-is : (a b : Bool) → (let own : Step = Turned a in own ≡ Turned b) → a ≡ b
turned-is a b is = cc

module _ (system : System) (engine : Engine) (head : Option Arrival) where
  after-quiet : (time : ℕ) (events : List Event) (end : Result Sim TurnEnd) (after : Engine) →
      (let step : Told Sim = record { events = events; end = end } in (step then after_turn engine head time).end ≡ fell_quiet after) → ⊥
  after-quiet time events (Ok own) after is = not-quiet (is_taken head time) (ap (λ (p : Step × Engine). p.0) (ok-is (Turned (is_taken head time), turned engine own time (is_taken head time)) (Quiet, after) is))
  after-quiet time events (Err why) after is = absurd (cc is)

  after-turned : (time : ℕ) (events : List Event) (end : Result Sim TurnEnd) (took : Bool) (after : Engine) → turn_time (next_of engine) head ≡ Some time →
      (let step : Told Sim = record { events = events; end = end } in (step then after_turn engine head time).end ≡ took_turn took after) → Turns engine head took after
  after-turned time events (Ok own) took after next is =
      let pairs = ok-is (Turned (is_taken head time), turned engine own time (is_taken head time)) (Turned took, after) is in
      let took_is : is_taken head time ≡ took = turned-is _ _ (ap (λ (p : Step × Engine). p.0) pairs) in
      let after_is : turned engine own time (is_taken head time) ≡ after = ap (λ (p : Step × Engine). p.1) pairs in
      record {
        time = time;
        next = next;
        at = ap (λ (e : Engine). e.time) (sym after_is);
        takes = sym took_is;
        counted = ap (λ (e : Engine). e.turn) (sym after_is);
        taken = ap (λ (e : Engine). e.taken) (sym after_is) ∙ ap (λ (b : Bool). engine.taken + (if b then 1 else 0)) took_is;
      }
  after-turned time events (Err why) took after next is = absurd (cc is)

  tree-quiet : (own : Sim) (time : Option ℕ) (after : Engine) → (advance_tree system engine own head time).end ≡ fell_quiet after → (advance_tree system engine own head time).events ≡ []
  tree-quiet own None after is = refl
  tree-quiet own (Some time) after is =
      let step = turn system own (engine.turn + 1) time (items_at head time) in
      absurd (after-quiet time step.events step.end after is)

  tree-turned : (own : Sim) (time : Option ℕ) (took : Bool) (after : Engine) → turn_time (next_of engine) head ≡ time → (advance_tree system engine own head time).end ≡ took_turn took after → Turns engine head took after
  tree-turned own None took after next is = absurd (not-quiet took (sym (ap (λ (p : Step × Engine). p.0) (ok-is (Quiet, engine) (Turned took, after) is))))
  tree-turned own (Some time) took after next is =
      let step = turn system own (engine.turn + 1) time (items_at head time) in
      after-turned time step.events step.end took after next is

  abbrev advance_with : Option Sim → Told (Step × Engine)
  advance_with tree = elim tree [
    | Some own ↦ advance_tree system engine own head (turn_time (next_of engine) head)
    | None ↦ record { events = []; end = Err turn_end.Memory }
  ]

  quiet-with : (tree : Option Sim) (after : Engine) → (advance_with tree).end ≡ fell_quiet after → (advance_with tree).events ≡ []
  quiet-with (Some own) after is = tree-quiet own (turn_time (next_of engine) head) after is
  quiet-with None after is = refl

  turned-with : (tree : Option Sim) (took : Bool) (after : Engine) → (advance_with tree).end ≡ took_turn took after → Turns engine head took after
  turned-with (Some own) took after is = tree-turned own (turn_time (next_of engine) head) took after refl is
  turned-with None took after is = absurd (cc is)

  -- An engine that falls quiet tells nothing.
  pub quiet-tells : (after : Engine) → (advance system engine head).end ≡ fell_quiet after → (advance system engine head).events ≡ []
  quiet-tells after is = quiet-with engine.tree after is

  pub turn-is : (took : Bool) (after : Engine) → (advance system engine head).end ≡ took_turn took after → Turns engine head took after
  turn-is took after is = turned-with engine.tree took after is
