-- The next turn of an engine.
use Rattle.std.proofs.Common.{◌≡◌, ◌∙◌, ℕ, ◌+◌, ◌*◌, ◌≤◌, Bool, List, length, Option, Some, IfSome, is_some, true, Result, Ok, Err, IfOk, if◌then◌else◌, sym, ap, subst}
use Rattle.std.specs.Option.{option_map}
use Rattle.dsde_syntax.specs.declared.decl.Model.{Model}
use Rattle.dsde_values.specs.declared.arrival.Arrival.{Arrival}
use Rattle.dsde_values.specs.declared.when.When.{When}
use Rattle.dsde_values.specs.When.{IsMoment}
use Rattle.dsde_language.specs.declared.ids.ModelId.{ModelId}
use Rattle.dsde_queue.specs.Queue.{first_of, time_of}
use Rattle.dsde_core_outputs.specs.given.system.Program.{system}
use Rattle.dsde_sim_tree.specs.declared.event.Event.{Event}
use Rattle.dsde_sim_tree.specs.declared.fault.TurnEnd.{TurnEnd}
use Rattle.dsde_sim_tree.specs.Told.{Tells}
use Rattle.dsde_sim_tree.specs.declared.sim.Sim.{Sim}
use Rattle.dsde_sim_tree.specs.declared.sim.TheConstants.{DEEPEST}
use Rattle.dsde_sim_tree.specs.Tree.{model_of, next_time}
use Rattle.dsde_core_moving.specs.given.sim_movers.Stands.{depth, AdvanceStands}
use Rattle.dsde_sim_tree.specs.declared.step.Step.TheVariants.{Turned}
use Rattle.dsde_sim_tree.specs.Engine.{next_of, turned, Engine}
use Rattle.dsde_sim_tree.specs.Turn.{advance, is_taken, items_at, turn as turn_of, turn_time}
use Rattle.dsde_core_moving.specs.given.sim_movers.Places.{IsInOrder}
use Rattle.dsde_core_moving.specs.given.sim_movers.Work.{turn_entries}
use Rattle.dsde_core_outputs.specs.given.sim_working.Forward.{ProgramsLeadOn}
use Rattle.dsde_core_outputs.specs.given.sim_working.Working.{working, Comes, FitsItems, HeadComes, IsRoot, StandsAt}
use Rattle.dsde_core_outputs.specs.given.sim_working.lemmas_Advancing.{advance-err, advance-ok, head-early, items-fit, turn-moment}
use Rattle.dsde_core_outputs.specs.given.sim_working.lemmas_Delivering.{in-order}
use Rattle.dsde_core_outputs.specs.given.sim_working.lemmas_Times.{in-time}
use Rattle.dsde_bank.specs.declared.handle.Handle.{Handle}
use Rattle.dsde_grove.specs.Grove.{Grove}
use Rattle.dsde_routes_wiring.specs.declared.wiring.Wiring.{Wiring}
use Rattle.dsde_core_moving.specs.given.core_flat.spot_Spot.{Spot}
use Rattle.dsde_core_moving.specs.given.core_flat.Stands.{IsShallow, StandsFor}
use Rattle.dsde_core_moving.specs.given.core_moves.flat_Flat.{Flat}
use Rattle.dsde_core_moving.specs.given.core_moves.Flat.{tree_of}
use Rattle.dsde_core_moving.specs.given.core_moves.Resting.{Rests}
use Rattle.dsde_core_outputs.specs.Rows.{HasRows}
use Rattle.dsde_core.specs.Paid.{TurnIsPaid}
use Rattle.dsde_core.specs.Standing.{tree_if, RestsIf, Standing}
use Rattle.dsde_core.proofs.EngineResting.{its-rests, its-tree, not-after, same-root}

module _ (model : Model) (spent : Bool) (flat : Flat) (turn time taken : ℕ) where
  abbrev engine : Engine
  engine = record { tree = tree_if spent flat; turn = turn; time = time; taken = taken }

  abbrev pub IsKept : Type 0
  IsKept = RestsIf spent model flat × (taken ≤ turn) × StandsAt model engine

  module _ (own : Standing) (is : (let inside : Standing = record { program = model; engine = engine; born = flat.grove.next_birth; queued = length flat.queue.pairs } in inside) ≡ own) (kept : IsKept) (fresh : is_some own.engine.tree ≡ true) where
    fresh-in : is_some (tree_if spent flat) ≡ true
    fresh-in = subst (λ (standing : Standing). is_some standing.engine.tree ≡ true) (sym is) fresh

    pub tree-is : tree_if spent flat ≡ Some (tree_of flat)
    tree-is = its-tree spent flat fresh-in

    pub rests : Rests model flat
    rests = its-rests spent model flat fresh-in kept.0

    next-in : next_of engine ≡ next_time (tree_of flat)
    next-in = ap (λ (tree : Option Sim). next_of (let e : Engine = record { tree = tree; turn = turn; time = time; taken = taken } in e)) tree-is

    -- when the tree is due
    pub next-is : (next : When) → next ≡ next_time (tree_of flat) → next ≡ next_of own.engine
    next-is next same = same ∙ sym next-in ∙ ap (λ (standing : Standing). next_of standing.engine) is

    module _ (head : Option Arrival) (head_comes : HeadComes (working own.program own.engine) head) (at_time : ℕ) (due : turn_time (next_of own.engine) head ≡ Some at_time) where
      at : turn_time (next_time (tree_of flat)) head ≡ Some at_time
      at = ap (λ (next : When). turn_time next head) (sym (ap (λ (standing : Standing). next_of standing.engine) (sym is) ∙ next-in)) ∙ due

      comes-in : IfSome (tree_if spent flat) (λ tree. IfSome head (Comes model (model_of tree)))
      comes-in = subst (λ (standing : Standing). HeadComes (working standing.program standing.engine) head) (sym is) head_comes

      comes : IfSome head (Comes model (model_of (tree_of flat)))
      comes = subst (λ (tree : Option Sim). IfSome tree (λ one. IfSome head (Comes model (model_of one)))) tree-is comes-in

      pub moment : IsMoment at_time
      moment = turn-moment (next_time (tree_of flat)) head at_time (in-time model (tree_of flat) rests.stands.fits) (head-early model (tree_of flat) rests.stands.fits head comes) at

      pub least : IfSome (option_map time_of (first_of flat.queue.pairs)) (λ first. at_time ≤ first)
      least = not-after (option_map time_of (first_of flat.queue.pairs)) (next_time (tree_of flat)) head at_time rests.next at

      pub items : FitsItems model (model_of (tree_of flat)).0 (items_at head at_time)
      items = items-fit model (tree_of flat) rests.stands.fits head at_time comes

      pub err : (end : TurnEnd) (old new : List Event) → Tells (turn_of (system model) (tree_of flat) (turn + 1) at_time (items_at head at_time)) old new (Err end) → Tells (advance (system own.program) own.engine head) old new (Err end)
      err end old new tells =
          subst (λ (standing : Standing). Tells (advance (system standing.program) standing.engine head) old new (Err end)) is
          (advance-err (system model) engine (tree_of flat) head at_time end old new tree-is at tells)

      ok-in : (after : Sim) (old new : List Event) → Tells (turn_of (system model) (tree_of flat) (turn + 1) at_time (items_at head at_time)) old new (Ok after) →
          Tells (advance (system model) engine head) old new (Ok (Turned (is_taken head at_time), turned engine after at_time (is_taken head at_time)))
      ok-in after old new tells = advance-ok (system model) engine (tree_of flat) head at_time after old new tree-is at tells

      -- what the turn costs
      pub paid : (before after left told all rows : ℕ) → HasRows model flat at_time (items_at head at_time) rows →
          after + 4 * left + 128 * told ≤ before + 4 * length flat.queue.pairs + 128 * (all + turn_entries (system model) (tree_of flat) at_time (items_at head at_time) + rows + 1) →
          TurnIsPaid own.program own.engine head before after own.queued left told all
      paid before after left told all rows has less =
          subst (λ (standing : Standing). TurnIsPaid standing.program standing.engine head before after standing.queued left told all) is
          (record { flat = flat; stands = rests.stands; shown = tree-is; time = at_time; at = subst (λ (standing : Standing). turn_time (next_of standing.engine) head ≡ Some at_time) (sym is) due; rows = rows; has = has; paid = less })

      module _ (took : Bool) (took_is : took ≡ is_taken head at_time) (count : ℕ) (count_is : count ≡ (if took then 1 else 0)) where
        abbrev turned_to : Sim → Engine
        turned_to after = record { tree = Some after; turn = turn + 1; time = at_time; taken = taken + count }

        turned-is : (after : Sim) → turned engine after at_time (is_taken head at_time) ≡ turned_to after
        turned-is after =
            let same : (if is_taken head at_time then 1 else 0) ≡ count = ap (λ (b : Bool). let n : ℕ = if b then 1 else 0 in n) (sym took_is) ∙ sym count_is in
            ap (λ (n : ℕ). let e : Engine = record { tree = Some after; turn = turn + 1; time = at_time; taken = taken + n } in e) same

        pub ok : (after : Sim) (old new : List Event) → Tells (turn_of (system model) (tree_of flat) (turn + 1) at_time (items_at head at_time)) old new (Ok after) →
            Tells (advance (system own.program) own.engine head) old new (Ok (Turned took, turned_to after))
        ok after old new tells =
            subst (λ (standing : Standing). Tells (advance (system standing.program) standing.engine head) old new (Ok (Turned took, turned_to after))) is
            (subst (λ (b : Bool). Tells (advance (system model) engine head) old new (Ok (Turned b, turned_to after))) (sym took_is)
            (subst (λ (e : Engine). Tells (advance (system model) engine head) old new (Ok (Turned (is_taken head at_time), e))) (turned-is after) (ok-in after old new tells)))

        -- and it stands at that turn's time
        pub stands-on : AdvanceStands → ProgramsLeadOn → IfSome head (λ arrival. own.engine.time ≤ arrival.time) → (after : Sim) (old new : List Event) →
            Tells (turn_of (system model) (tree_of flat) (turn + 1) at_time (items_at head at_time)) old new (Ok after) → StandsAt model (turned_to after)
        stands-on stand lead late after old new tells =
            let early = subst (λ (standing : Standing). IfSome head (λ arrival. standing.engine.time ≤ arrival.time)) (sym is) late in
            subst (StandsAt model) (turned-is after)
            (record { stands = stand (system model) (lead model) engine head (Turned (is_taken head at_time), turned engine after at_time (is_taken head at_time)) kept.2.stands early (ok-in after old new tells).1; moment = moment })

        pub root : AdvanceStands → ProgramsLeadOn → IfSome head (λ arrival. own.engine.time ≤ arrival.time) → (after : Sim) (old new : List Event) →
            Tells (turn_of (system model) (tree_of flat) (turn + 1) at_time (items_at head at_time)) old new (Ok after) → (number : ModelId) → IsRoot number own.engine → model_of after ≡ number
        root stand lead late after old new tells number root_is =
            let before = subst (λ (standing : Standing). IsRoot number standing.engine) (sym is) root_is in
            same-root model (tree_of flat) after turn time taken (turn + 1) at_time (taken + count) (subst (λ (tree : Option Sim). StandsAt model (record { tree = tree; turn = turn; time = time; taken = taken })) tree-is kept.2)
            (stands-on stand lead late after old new tells) number (subst (λ (tree : Option Sim). IfSome tree (λ one. model_of one ≡ number)) tree-is before)

    -- a copy of the tree is the engine's tree
    pub shown : {E : Type 0} (result : Result Sim E) → IfOk result (λ tree. tree ≡ tree_of flat) → IfOk result (λ tree. Some tree ≡ own.engine.tree)
    shown (Err why) copied = tt
    shown (Ok tree) copied = ap Some copied ∙ sym tree-is ∙ ap (λ (standing : Standing). standing.engine.tree) is

    -- no path has too many names
    pub shallow : ((grove : Grove Spot) (top : Handle) (wiring : Option Wiring) (tree : Sim) → StandsFor grove top wiring tree → depth tree ≤ DEEPEST → IsShallow grove) → IsShallow flat.grove
    shallow law =
        let stands = subst (λ (tree : Option Sim). StandsAt model (record { tree = tree; turn = turn; time = time; taken = taken })) tree-is kept.2 in
        law flat.grove flat.root flat.wiring (tree_of flat) rests.stands.stands stands.stands.stands.depth

    pub order : IfSome own.engine.tree IsInOrder
    order = subst (λ (standing : Standing). IfSome standing.engine.tree IsInOrder) is (subst (λ (tree : Option Sim). IfSome tree IsInOrder) (sym tree-is) (in-order model (Some (tree_of flat)) (record { fits = rests.stands.fits; within = rests.within })))
