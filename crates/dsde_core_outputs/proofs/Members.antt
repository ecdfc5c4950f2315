-- Who is among those who are called.
use Rattle.std.proofs.Common.{◌≡◌, ℕ, Bool, true, false, cond, List, [], ◌∷◌, map, Option, Some, None, refl, sym, ap, subst, ◌∙◌, inl, inr, ◌⊎◌}
use Rattle.std.specs.List.{flat_map}
use Rattle.dsde_sim_tree.specs.given.formalism.leaf_Leaf.{Leaf}
use Rattle.dsde_sim_tree.specs.given.formalism.Leaf.{has_come, is_due}
use Rattle.dsde_sim_tree.specs.given.formalism.System.{System}
use Rattle.dsde_grove.specs.Grove.{Grove, value_of}
use Rattle.dsde_core_parcels.specs.given.routes_pushing.lemmas_Lists.{among-append, among-flat, Among}
use Rattle.dsde_core_parcels.specs.given.core_flat.spot_Spot.{Spot}
use Rattle.dsde_core_parcels.specs.given.core_flat.spot_Spot_TheVariants as variant
use Rattle.dsde_core_parcels.specs.given.core_flat.Grafts.{path_at}
use Rattle.dsde_core_parcels.specs.given.core_flat.Scheduled.{held_leaf}
use Rattle.dsde_core_parcels.specs.given.core_flat.due_Due.{Due}
use Rattle.dsde_core_parcels.specs.given.core_flat.Due.{IsDue}
use Rattle.dsde_core_parcels.specs.declared.inbox.Inbox.{Inbox}
use Rattle.dsde_core_parcels.specs.given.core_moves.flat_Mover.{Mover}
use Rattle.dsde_core_parcels.specs.Calling.{called, due_mover, if_come, mover_with, told_as, told_by}
use Rattle.dsde_core_parcels.specs.lemmas.Dues.{due-held, map-among}
use Rattle.dsde_core_outputs.specs.Called.{IsLiveMover}

module _ (system : System) (own : Grove Spot) (time : ℕ) where
  -- The target of an inbox lives, is not due, and something came to it.
  pub record IsTold (inbox : Inbox) (mover : Mover) : Type 0 where
    pub leaf : Leaf
    pub held : value_of own inbox.target ≡ Some (variant.Leaf leaf)
    pub waits : is_due leaf time ≡ false
    pub come : has_come mover.got ≡ true
    pub is : mover ≡ mover_with system own inbox.target (path_at own inbox.target) inbox.gets

  abbrev one : Inbox → Mover
  one inbox = mover_with system own inbox.target (path_at own inbox.target) inbox.gets

  told-come : (inbox : Inbox) (mover : Mover) (leaf : Leaf) → value_of own inbox.target ≡ Some (variant.Leaf leaf) → is_due leaf time ≡ false → (come : Bool) → has_come (one inbox).got ≡ come → Among mover (cond come (one inbox ∷ []) []) → IsTold inbox mover
  told-come inbox mover leaf held waits true come (inl same) = record { leaf = leaf; held = held; waits = waits; come = ap (λ (own_mover : Mover). has_come own_mover.got) same ∙ come; is = same }
  told-come inbox mover leaf held waits true come (inr none) = absurd none
  told-come inbox mover leaf held waits false come none = absurd none

  told-leaf : (inbox : Inbox) (mover : Mover) (leaf : Leaf) → value_of own inbox.target ≡ Some (variant.Leaf leaf) → (due : Bool) → is_due leaf time ≡ due → Among mover (cond due [] (if_come (one inbox))) → IsTold inbox mover
  told-leaf inbox mover leaf held true is none = absurd none
  told-leaf inbox mover leaf held false is among = told-come inbox mover leaf held is (has_come (one inbox).got) refl among

  told-held : (inbox : Inbox) (mover : Mover) (held : Option Spot) → value_of own inbox.target ≡ held → Among mover (told_as (held_leaf held) time (one inbox)) → IsTold inbox mover
  told-held inbox mover None is none = absurd none
  told-held inbox mover (Some (variant.Leaf leaf)) is among = told-leaf inbox mover leaf is (is_due leaf time) refl among
  told-held inbox mover (Some (variant.Net model args)) is none = absurd none

  pub is-told : (inbox : Inbox) (mover : Mover) → Among mover (told_by system own time inbox) → IsTold inbox mover
  is-told inbox mover among = told-held inbox mover (value_of own inbox.target) refl among

  -- and whoever is such a target is told
  pub told-is : (inbox : Inbox) (leaf : Leaf) → value_of own inbox.target ≡ Some (variant.Leaf leaf) → is_due leaf time ≡ false → has_come (one inbox).got ≡ true → Among (one inbox) (told_by system own time inbox)
  told-is inbox leaf held waits come =
      subst (Among (one inbox))
      (sym (ap (λ (spot : Option Spot). told_as (held_leaf spot) time (one inbox)) held
      ∙ ap (λ (b : Bool). cond b [] (if_come (one inbox))) waits
      ∙ ap (λ (b : Bool). cond b (one inbox ∷ []) []) come)) (inl refl)

  module _ (due : List Due) (inboxes : List Inbox) where
    -- Who is called is due, or is told.
    pub record IsOfDue (mover : Mover) : Type 0 where
      pub due_one : Due
      pub among : Among due_one due
      pub is : mover ≡ due_mover system own inboxes due_one

    pub record IsOfTold (mover : Mover) : Type 0 where
      pub inbox : Inbox
      pub among : Among inbox inboxes
      pub told : IsTold inbox mover

    pub of-due : (mover : Mover) → Among mover (map (due_mover system own inboxes) due) → IsOfDue mover
    of-due mover among = let found = map-among (due_mover system own inboxes) mover due among in record { due_one = found.0; among = found.1; is = found.2 }

    pub of-told : (mover : Mover) → Among mover (flat_map (told_by system own time) inboxes) → IsOfTold mover
    of-told mover among =
        let found = among-flat (told_by system own time) mover inboxes among in
        record { inbox = found.0; among = found.1; told = is-told found.0 mover found.2 }

    pub of-either : (mover : Mover) → Among mover (called system own time due inboxes) → IsOfDue mover ⊎ IsOfTold mover
    of-either mover among = elim (among-append mover (map (due_mover system own inboxes) due) (flat_map (told_by system own time) inboxes) among) [
      | inl here ↦ inl (of-due mover here)
      | inr there ↦ inr (of-told mover there)
    ]

    pub due-lives : (one : Due) → IsDue own time one → IsLiveMover own (due_mover system own inboxes one)
    due-lives one is = let held = due-held own time one.handle is.next in record { leaf = held.0; held = held.1; path = is.path }

    pub told-lives : (inbox : Inbox) (mover : Mover) → IsTold inbox mover → IsLiveMover own mover
    told-lives inbox mover told =
        subst (IsLiveMover own) (sym told.is) (record { leaf = told.leaf; held = told.held; path = refl })
