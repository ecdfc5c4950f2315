-- A flat state between turns.
use Rattle.std.proofs.Common.{◌≡◌, ◌∙◌, ℕ, ◌+◌, ◌*◌, ◌≤◌, length, Option, sym, ap, subst, arith}
use Rattle.std.specs.FinMap as map
use Rattle.dsde_syntax.specs.declared.decl.Model.{Model}
use Rattle.std.specs.Option.{option_map}
use Rattle.dsde_bank.specs.declared.handle.Handle.{Handle}
use Rattle.dsde_routes_wiring.specs.declared.wiring.Wiring.{Wiring}
use Rattle.dsde_queue.specs.Queue.{first_of, time_of, Queue}
use Rattle.dsde_sim_tree.specs.declared.sim.Sim.{Sim}
use Rattle.dsde_sim_tree.specs.Tree.{next_time, parts}
use Rattle.dsde_sim_tree.specs.declared.step.TheConstants.{MOST_PARTS}
use Rattle.dsde_core_moving.specs.given.core_flat.Scheduled.{when_of, IsScheduled}
use Rattle.dsde_core_moving.specs.given.core_flat.Stands.{StandsFor}
use Rattle.dsde_core_moving.specs.given.core_flat.lemmas_Live.{live-count}
use Rattle.dsde_core_moving.specs.given.core_flat.lemmas_Fitting.{tree-named}
use Rattle.dsde_core_moving.specs.given.core_flat.lemmas_Meeting.{tree-names}
use Rattle.dsde_core_moving.specs.given.core_moves.flat_Flat.{Flat}
use Rattle.dsde_core_moving.specs.given.core_moves.Flat.{tree_of, Stands}
use Rattle.dsde_core_moving.specs.given.core_moves.Movers.{with_queue}
use Rattle.dsde_core_moving.specs.given.core_moves.Resting.{Rests}

module _ (model : Model) (flat : Flat) (stands : Stands model flat) where
  -- as many parts are alive as the tree has
  pub live-is : map.len flat.grove.parts ≡ parts (tree_of flat)
  live-is = live-count flat.grove flat.root flat.wiring (tree_of flat) stands.stands (tree-names (tree_of flat) (tree-named model (tree_of flat) stands.fits))

  -- it stands with any schedule
  pub stands-with : (queue : Queue) → Stands model (with_queue flat queue)
  stands-with queue = record { stands = stands.stands; fits = stands.fits; tree = stands.tree; rows = stands.rows }

-- it rests with the schedule that is left
pub rests-with : (model : Model) (flat mid : Flat) (queue : Queue) (result : Option ℕ) → mid ≡ with_queue flat mid.queue → Stands model flat → parts (tree_of flat) ≤ MOST_PARTS → IsScheduled mid.grove queue.pairs →
    ((top : Handle) (wiring : Option Wiring) (tree : Sim) → StandsFor mid.grove top wiring tree → next_time tree ≡ when_of result) → option_map time_of (first_of queue.pairs) ≡ result →
    length queue.pairs ≤ length mid.queue.pairs → length mid.queue.pairs ≤ 2 * map.len mid.grove.parts + 64 → Rests model (with_queue mid queue)
rests-with model flat mid queue result same stands within scheduled time least shorter few =
    let here : Stands model (with_queue mid queue) = subst (λ (f : Flat). Stands model (with_queue f queue)) (sym same) (stands-with model flat stands queue) in
    let live = live-is model (with_queue mid queue) here in
    record {
      stands = here;
      within = subst (λ (f : Flat). parts (tree_of f) ≤ MOST_PARTS) (sym same) within;
      scheduled = scheduled;
      next = ap when_of least ∙ sym (time mid.root mid.wiring (tree_of (with_queue mid queue)) here.stands);
      few = omega (arith, shorter, few, live);
    }
