-- Those who are called, as movers.
use Rattle.std.proofs.Common.{◌≡◌, ℕ, List, [], ◌∷◌, ◌++◌, map, IsPermutation, sym, ap, subst, ◌∙◌}
use Rattle.std.specs.List.{AllByRecursion, flat_map}
use Rattle.std.proofs.lemmas.List.Sorted.{Contains-permutation, IsPermutation-sym}
use Rattle.dsde_bank.specs.declared.handle.Handle.{Handle}
use Rattle.dsde_syntax.specs.declared.decl.Model.{Model}
use Rattle.dsde_values.specs.declared.path.Path.{Path}
use Rattle.dsde_sim_tree.specs.given.formalism.System.{System}
use Rattle.dsde_grove.specs.Grove.{Grove}
use Rattle.dsde_core_parcels.specs.given.routes_pushing.lemmas_Lists.{all-from, among-from, among-front, contains-from, each-among, Among}
use Rattle.dsde_core_parcels.specs.given.core_flat.spot_Spot.{Spot}
use Rattle.dsde_core_parcels.specs.given.core_flat.spot_Spot_TheVariants as variant
use Rattle.dsde_core_parcels.specs.given.core_flat.Stands.{is_net}
use Rattle.dsde_core_parcels.specs.given.core_flat.due_Due.{Due}
use Rattle.dsde_core_parcels.specs.given.core_flat.Due as due
use Rattle.dsde_core_parcels.specs.declared.inbox.Inbox.{Inbox}
use Rattle.dsde_core_parcels.specs.lemmas.Living.{live-with, path-live}
use Rattle.dsde_core_parcels.specs.given.core_moves.flat_Flat.{Flat}
use Rattle.dsde_core_parcels.specs.given.core_moves.flat_Mover.{Mover}
use Rattle.dsde_core_parcels.specs.given.core_moves.Flat.{IsThere}
use Rattle.dsde_core_parcels.specs.Calling.{called, due_mover, due_movers, emptied, left_by, told_by, IsFew}
use Rattle.dsde_core_parcels.specs.lemmas.Dues.{among-map, find-due}
use Rattle.dsde_core_outputs.specs.Called.{IsFit, IsLiveMover}
use Rattle.dsde_core_parcels.specs.given.core_moves.Movers.{handle_of, FitsMover, Wait}
use Rattle.dsde_core_outputs.specs.Rooting.{taken_by}

-- whoever lives under a mover's handle, with its path, is there
is-there : (flat : Flat) (mover : Mover) → IsLiveMover flat.grove mover → IsThere flat mover
is-there flat mover is =
    let live = live-with flat.grove mover.handle (variant.Leaf is.leaf) is.held in
    record {
      part = live.0;
      live = live.1;
      path = sym (ap (λ (path : Path). path.names) (is.path ∙ path-live flat.grove mover.handle live.0 live.1));
      kind = ap is_net live.2;
    }

pub all-there : (flat : Flat) (list : List Mover) → AllByRecursion (IsLiveMover flat.grove) list → AllByRecursion (IsThere flat) list
all-there flat [] live = tt
all-there flat (mover ∷ list) live = (is-there flat mover live.0, all-there flat list live.1)

pub both-fit : (model : Model) (flat : Flat) (list : List Mover) → AllByRecursion (IsFit model flat.grove) list → AllByRecursion IsFew list → AllByRecursion (FitsMover model flat) list
both-fit model flat [] fit few = tt
both-fit model flat (mover ∷ list) fit few = (record { got = fit.0; few = few.0 }, both-fit model flat list fit.1 few.1)

-- of what holds of each of some movers, and of others, in another order
pub all-permuted : (P : Mover → Type 0) (list all : List Mover) → IsPermutation list all → AllByRecursion P list → AllByRecursion P all
all-permuted P list all same each =
    all-from P all (λ mover there. each-among P list mover each (among-from list mover (Contains-permutation all list mover (IsPermutation-sym list all same) (contains-from all mover there))))

module _ (system : System) (own : Grove Spot) (top : Handle) (time : ℕ) (dues : List Due) (boxes : List Inbox) where
  -- whoever takes what came to it out of its inbox, or has it from all the inboxes
  pub taken-are : due_movers system own dues (map (emptied top) boxes) ≡ map (due_mover system own boxes) dues → flat_map (told_by system own time) (left_by dues (map (emptied top) boxes)) ≡ flat_map (told_by system own time) boxes →
      taken_by system own time dues (map (emptied top) boxes) ≡ called system own time dues boxes
  taken-are threaded untold = λ i. threaded i ++ untold i

  -- those who are due are among those who are called
  pub all-wait : (all : List Mover) → IsPermutation (called system own time dues boxes) all → Wait dues all
  all-wait all same handle there =
      let found = find-due handle dues (among-from (map due.handle_of dues) handle there) in
      let mover = due_mover system own boxes found.0 in
      let here : Among mover (called system own time dues boxes) = among-front mover (map (due_mover system own boxes) dues) (flat_map (told_by system own time) boxes) (among-map (due_mover system own boxes) found.0 dues found.1) in
      let among = among-from all mover (Contains-permutation (called system own time dues boxes) all mover same (contains-from (called system own time dues boxes) mover here)) in
      contains-from (map handle_of all) handle (subst (λ (one : Handle). Among one (map handle_of all)) (sym found.2) (among-map handle_of mover all among))
