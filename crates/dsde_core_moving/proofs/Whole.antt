-- What a change tells, part by part.
use Rattle.std.proofs.Common.{◌≡◌, ℕ, ◌+◌, ◌≤◌, OnOk, arith, List, [], ◌++◌, map, Result, Ok, Err, sym, ap, subst, ◌∙◌}
use Rattle.std.proofs.lemmas.List.Sums.{sum_by-append}
use Rattle.std.proofs.Math.Seq.{take-append_seam}
use Rattle.dsde_values.specs.declared.path.Path.{Path}
use Rattle.dsde_sim_tree.specs.given.formalism.System.{System}
use Rattle.dsde_structure.specs.declared.plan.Entry.{Entry}
use Rattle.dsde_structure.specs.Survival.{fresh}
use Rattle.dsde_sim_tree.specs.declared.event.Event.{Event}
use Rattle.dsde_sim_tree.specs.declared.fault.TurnEnd.{TurnEnd}
use Rattle.dsde_sim_tree.specs.declared.fault.TurnEnd.TheVariants.{Memory}
use Rattle.dsde_sim_tree.specs.Told.{Told, told, telling, ◌then◌, IsCut, Tells}
use Rattle.dsde_sim_starting.specs.given.sim_telling.lemmas_GoingOn.{cut-append, goes-begin, goes-end, goes-memory, goes-step, goes-stops, goes-told, take-all, GoesOn}
use Rattle.dsde_grove.specs.Grove.{Grove}
use Rattle.dsde_sim_tree.specs.declared.sim.Kid.{Kid}
use Rattle.dsde_sim_tree.specs.declared.sim.Sim.{Sim}
use Rattle.dsde_sim_tree.specs.Tree.{entry_of, parts_of_kids}
use Rattle.dsde_sim_tree.specs.Start.{start, starts}
use Rattle.dsde_sim_tree.specs.Move.{change, drop_of, gone, kept, left_behind}
use Rattle.dsde_sim_movers.specs.Work.{work, work_of}
use Rattle.dsde_core_moves.specs.given.core_flat.spot_Spot.{Spot}
use Rattle.dsde_core_moves.specs.declared.flat.Flat.{Flat}
use Rattle.dsde_core_moves.specs.Flat.{tree_of}
use Rattle.dsde_core_moves.specs.Chosen.{shown}
use Rattle.dsde_core_moving.specs.Placed.{placed}
use Rattle.dsde_core_moving.specs.Restructured.{with_room}
use Rattle.dsde_core_moving.specs.declared.changing.Changed.{Changed}
use Rattle.dsde_core_moving.specs.Changed.{changed_to}

-- where all was told and memory runs out behind it
all-cut : (old events new : List Event) → new ≡ old ++ events → IsCut old events new
all-cut old events new is = subst (IsCut old events) (sym is) (record { kept = take-append_seam old events; front = take-all (old ++ events) })

pub lacks-behind : {A B : Type 0} (step : Told A) (old new : List Event) (value : A) (result : Result B TurnEnd) (view : Result B TurnEnd → Result A TurnEnd) → ((end : TurnEnd) → view (Err end) ≡ Err end) → result ≡ Err Memory →
    Tells step old new (Ok value) → Tells step old new (view result)
lacks-behind {A} {B} step old new value result view errs is tells =
    subst (λ (r : Result B TurnEnd). Tells step old new (view r)) (sym is) (subst (Tells step old new) (sym (errs Memory)) (all-cut old step.events new tells.0))

-- the work that is told behind the old events
pub told-work : {A : Type 0} (step : Told A) (old new : List Event) (value : A) → Tells step old new (Ok value) → work new ≡ work old + work step.events
told-work step old new value tells = ap work tells.0 ∙ sum_by-append work_of old step.events

-- what is told behind events is no less work
pub told-more : (step : Told (Sim × ℕ)) (flat : Flat) (old new : List Event) (result : Result ℕ TurnEnd) → Tells step old new (with_room flat result) → OnOk result (work old ≤ work new)
told-more step flat old new (Ok left) tells = let all = told-work step old new (tree_of flat, left) tells in omega (arith, all)
told-more step flat old new (Err end) tells = tt

pub one-more : (result : Result ℕ TurnEnd) (told mid all : ℕ) → mid ≡ told + 1 → OnOk result (mid ≤ all) → OnOk result (told + 1 ≤ all)
one-more (Ok left) told mid all one more = omega (arith, one, more)
one-more (Err end) told mid all one more = tt

module _ (system : System) (entries : List Entry) (kids : List Kid) (path : Path) (time room : ℕ) (old : List Event)
    (law : change system entries kids path time room ≡ telling (map (drop_of path) (gone entries kids)) (
    starts (start system (left_behind path)) (fresh (map entry_of kids) entries) path time (room + parts_of_kids (gone entries kids)) [] then (λ all. told [] (placed entries (kept entries kids) all.0, all.1)))) where
  abbrev whole : Told (List Kid × ℕ)
  whole = change system entries kids path time room

  abbrev drops : List Event
  drops = map (drop_of path) (gone entries kids)

  abbrev step : Told (List Kid × ℕ)
  step = starts (start system (left_behind path)) (fresh (map entry_of kids) entries) path time (room + parts_of_kids (gone entries kids)) []

  abbrev last : List Kid × ℕ → Told (List Kid × ℕ)
  last all = told [] (placed entries (kept entries kids) all.0, all.1)

  begins : GoesOn whole (telling drops (step then last)) old old
  begins = subst (λ (rest : Told (List Kid × ℕ)). GoesOn whole rest old old) law (goes-begin whole old)

  -- memory ran out before anything was told
  pub lacks-here : (own : Grove Spot) (result : Result Changed TurnEnd) → result ≡ Err Memory → Tells whole old old (changed_to own entries kids result)
  lacks-here own result is = subst (λ (r : Result Changed TurnEnd). Tells whole old old (changed_to own entries kids r)) (sym is) (goes-memory whole whole old old (goes-begin whole old))

  -- it ran out while components were dropped
  pub lacks-there : (own : Grove Spot) (mid : List Event) (result : Result Changed TurnEnd) → result ≡ Err Memory → IsCut old drops mid → Tells whole old mid (changed_to own entries kids result)
  lacks-there own mid result is cut =
      subst (λ (r : Result Changed TurnEnd). Tells whole old mid (changed_to own entries kids r)) (sym is)
      (subst (λ (step : Told (List Kid × ℕ)). IsCut old step.events mid) (sym law) (cut-append old drops (step then last).events mid cut))

  module _ (mid : List Event) (dropped : mid ≡ old ++ drops) where
    goes : GoesOn whole (step then last) old mid
    goes = goes-told whole (step then last) drops old old mid begins dropped

    -- a fault at a start, or no memory there
    pub stops-there : (own : Grove Spot) (new : List Event) (result : Result Changed TurnEnd) (end : TurnEnd) → result ≡ Err end → Tells step mid new (Err end) → Tells whole old new (changed_to own entries kids result)
    stops-there own new result end is tells =
        subst (λ (r : Result Changed TurnEnd). Tells whole old new (changed_to own entries kids r)) (sym is) (goes-stops whole step last old mid new end goes tells)

    -- all have started
    pub told-all : (new : List Event) (own : Grove Spot) (changed : Changed) → Tells step mid new (Ok (shown own changed.fresh, changed.room)) → Tells whole old new (changed_to own entries kids (Ok changed))
    told-all new own changed tells =
        goes-end whole (placed entries (kept entries kids) (shown own changed.fresh), changed.room) old new
        (goes-step whole step last old mid new (shown own changed.fresh, changed.room) goes tells.0 tells.1)
