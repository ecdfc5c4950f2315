-- A tree that was laid into a grove rests there.
use Rattle.std.proofs.Common.{◌≡◌, ◌∙◌, ℕ, ◌≤◌, length, Option, ap, subst, sym, arith}
use Rattle.std.specs.Option.{option_map}
use Rattle.std.specs.FinMap as map
use Rattle.dsde_bank.specs.declared.handle.Handle.{Handle}
use Rattle.dsde_syntax.specs.declared.decl.Model.{Model}
use Rattle.dsde_queue.specs.Queue.{first_of, time_of}
use Rattle.dsde_grove.specs.Grove.{IsTree}
use Rattle.dsde_sim_tree.specs.declared.sim.Sim.{Sim}
use Rattle.dsde_sim_tree.specs.Tree.{next_time, parts}
use Rattle.dsde_sim_tree.specs.declared.step.TheConstants.{MOST_PARTS}
use Rattle.dsde_core_moving.specs.given.sim_starting.Fitting.{FitsTree}
use Rattle.dsde_routes_wiring.specs.declared.wiring.Wiring.{Wiring}
use Rattle.dsde_core_moving.specs.given.core_flat.Named.{HasOwnNames}
use Rattle.dsde_core_moving.specs.given.core_flat.Scheduled.{when_of, IsScheduled}
use Rattle.dsde_core_moving.specs.given.core_flat.Stands.{StandsFor}
use Rattle.dsde_core_moving.specs.given.core_flat.lemmas_Live.{live-count}
use Rattle.dsde_core_moving.specs.given.core_flat.lemmas_Fitting.{tree-named}
use Rattle.dsde_core_moving.specs.given.core_flat.lemmas_Meeting.{tree-names}
use Rattle.dsde_core_moving.specs.given.core_moves.flat_Flat.{Flat}
use Rattle.dsde_core_moving.specs.given.core_moves.Flat.{rows_of, tree_of}
use Rattle.dsde_core_moving.specs.given.core_moves.Resting.{Rests}

-- the components of a tree that fits a program are told by their names
pub own-names : (model : Model) (tree : Sim) → FitsTree model tree → HasOwnNames tree
own-names model tree fits = tree-names tree (tree-named model tree fits)

-- where a grove stands for a tree that fits, it rests with the rows of its wiring and a schedule whose first pair is current
pub rests : (flat : Flat) (sim : Sim) (first : Option ℕ) (held : ℕ) → StandsFor flat.grove flat.root flat.wiring sim → IsTree flat.grove → flat.rows ≡ rows_of flat.wiring → parts sim ≤ MOST_PARTS →
    IsScheduled flat.grove flat.queue.pairs → ((top : Handle) (wiring : Option Wiring) (tree : Sim) → StandsFor flat.grove top wiring tree → next_time tree ≡ when_of first) →
    option_map time_of (first_of flat.queue.pairs) ≡ first → length flat.queue.pairs ≤ held → held ≤ map.len flat.grove.parts → (model : Model) → FitsTree model sim → Rests model flat
rests flat sim first held stands tree rows within scheduled time least shorter few model fits =
    let here = subst (λ (one : Sim). StandsFor flat.grove flat.root flat.wiring one) (sym stands.shows) stands in
    let fits_here = subst (λ (one : Sim). FitsTree model one) (sym stands.shows) fits in
    let live : map.len flat.grove.parts ≡ parts (tree_of flat) = live-count flat.grove flat.root flat.wiring (tree_of flat) here (own-names model (tree_of flat) fits_here) in
    record {
      stands = record { stands = here; fits = fits_here; tree = tree; rows = rows };
      within = subst (λ (one : Sim). parts one ≤ MOST_PARTS) (sym stands.shows) within;
      scheduled = scheduled;
      next = ap when_of least ∙ sym (time flat.root flat.wiring (tree_of flat) here);
      few = omega (arith, shorter, few, live);
    }
