-- What is taken out of inboxes for some does not change what they bring to others.
use Rattle.std.proofs.Common.{◌≡◌, ℕ, Bool, true, false, cond, List, [], ◌∷◌, ◌++◌, map, Option, Some, None, Ordering, Less, Equal, IsSorted, is_lt, refl, sym, ap, ◌∙◌, zero, suc, ◌<◌, length, get_or, add-one, arith}
use Rattle.std.specs.List.{AllByRecursion, flat_map}
use Rattle.std.specs.List.Sorted.{IsStrictlySortedBy}
use Rattle.std.specs.Ordering.{ordering_reverse}
use Rattle.std.proofs.lemmas.Cmp.{tied_itself}
use Rattle.std.proofs.lemmas.Map.Keys.{sorted_head, sorted_tail}
use Rattle.dsde_bank.specs.declared.handle.Handle.{Handle}
use Rattle.dsde_values.specs.declared.path.Path.{Path}
use Rattle.dsde_values.specs.Path.{path_cmp}
use Rattle.dsde_sim_tree.specs.given.formalism.leaf_Leaf.{Leaf}
use Rattle.dsde_sim_tree.specs.given.formalism.System.{System}
use Rattle.dsde_grove.specs.Grove.{Grove, value_of}
use Rattle.dsde_core_parcels.specs.given.routes_wiring.Wired.{is_same_handle}
use Rattle.dsde_core_parcels.specs.given.routes_pushing.lemmas_Handles.{same-handle}
use Rattle.dsde_core_parcels.specs.given.routes_pushing.lemmas_Lists.{all-from, contains-from}
use Rattle.dsde_core_parcels.specs.given.core_flat.spot_Spot.{Spot}
use Rattle.dsde_core_parcels.specs.given.core_flat.spot_Spot_TheVariants as variant
use Rattle.dsde_core_parcels.specs.given.core_flat.Grafts.{path_at}
use Rattle.dsde_core_parcels.specs.given.core_flat.Scheduled.{held_leaf, is_next}
use Rattle.dsde_core_parcels.specs.given.core_flat.lemmas_Names.{paths-total}
use Rattle.dsde_core_parcels.specs.given.core_flat.due_Due.{Due}
use Rattle.dsde_core_parcels.specs.given.core_flat.Due.{due_cmp, AreDue, IsDue}
use Rattle.dsde_core_parcels.specs.declared.inbox.Get.{Get}
use Rattle.dsde_core_parcels.specs.declared.inbox.Inbox.{Inbox}
use Rattle.dsde_core_parcels.specs.given.core_moves.flat_Mover.{Mover}
use Rattle.dsde_core_parcels.specs.Calling.{due_mover, due_movers, emptied, gets_for, if_come, left_by, mover_cmp, mover_with, told_as, told_by, without_gets}

-- what comes to another stays
gets-stay : (target handle : Handle) → is_same_handle target handle ≡ false → (inboxes : List Inbox) → gets_for handle (map (emptied target) inboxes) ≡ gets_for handle inboxes
gets-stay target handle apart [] = refl
gets-stay target handle apart (inbox ∷ inboxes) = λ i. by (is_same_handle inbox.target target) refl i ++ gets-stay target handle apart inboxes i
  where
    by : (b : Bool) → is_same_handle inbox.target target ≡ b →
        (let own : Inbox = cond b (without_gets inbox) inbox in cond (is_same_handle own.target handle) own.gets []) ≡ cond (is_same_handle inbox.target handle) inbox.gets []
    by true is =
        let other : is_same_handle inbox.target handle ≡ false = ap (λ (own : Handle). is_same_handle own handle) (same-handle inbox.target target is) ∙ apart in
        (λ i. cond (other i) [] []) ∙ sym (λ i. cond (other i) inbox.gets [])
    by false is = refl

module _ (system : System) (own : Grove Spot) where
  -- Each of these is another than those after it.
  abbrev AreApart : List Due → Type 0
  AreApart [] = Unit {0}
  AreApart (due ∷ later) = AllByRecursion (λ (other : Due). is_same_handle due.handle other.handle ≡ false) later × AreApart later

  module _ (inboxes : List Inbox) where
    -- The same comes to it.
    abbrev Brings : List Inbox → Due → Type 0
    Brings boxes due = gets_for due.handle boxes ≡ gets_for due.handle inboxes

    still-brings : (target : Handle) (boxes : List Inbox) (due : List Due) → AllByRecursion (λ (other : Due). is_same_handle target other.handle ≡ false) due → AllByRecursion (Brings boxes) due → AllByRecursion (Brings (map (emptied target) boxes)) due
    still-brings target boxes [] apart brings = tt
    still-brings target boxes (one ∷ due) apart brings = (gets-stay target one.handle apart.0 boxes ∙ brings.0, still-brings target boxes due apart.1 brings.1)

    threads : (due : List Due) (boxes : List Inbox) → AllByRecursion (Brings boxes) due → AreApart due → due_movers system own due boxes ≡ map (due_mover system own inboxes) due
    threads [] boxes brings apart = refl
    threads (one ∷ due) boxes brings apart =
        λ i. mover_with system own one.handle one.path (brings.0 i) ∷ threads due (map (emptied one.handle) boxes) (still-brings one.handle boxes due apart.0 brings.1) apart.1 i

    all-brings : (due : List Due) → AllByRecursion (Brings inboxes) due
    all-brings [] = tt
    all-brings (one ∷ due) = (refl, all-brings due)

    -- what is taken for one of whom they are told apart, and then for each of them
    pub threaded : (top : Handle) (due : List Due) → AllByRecursion (λ (other : Due). is_same_handle top other.handle ≡ false) due → AreApart due → due_movers system own due (map (emptied top) inboxes) ≡ map (due_mover system own inboxes) due
    threaded top due others apart = threads due (map (emptied top) inboxes) (still-brings top inboxes due others (all-brings due)) apart

  module _ (time : ℕ) where
    -- Nobody is told by an inbox of this target.
    abbrev pub IsSilent : Handle → Type 0
    IsSilent target = (gets : List Get) → told_by system own time (record { target = target; gets = gets }) ≡ []

    silent-by : (inbox : Inbox) (target : Handle) → IsSilent target → inbox.target ≡ target → (gets : List Get) → told_by system own time (record { target = inbox.target; gets = gets }) ≡ []
    silent-by inbox target silent is gets = ap (λ (own_target : Handle). told_by system own time (record { target = own_target; gets = gets })) is ∙ silent gets

    one-told : (target : Handle) → IsSilent target → (inbox : Inbox) (b : Bool) → is_same_handle inbox.target target ≡ b → told_by system own time (cond b (without_gets inbox) inbox) ≡ told_by system own time inbox
    one-told target silent inbox true is =
        let same = same-handle inbox.target target is in
        silent-by inbox target silent same [] ∙ sym (silent-by inbox target silent same inbox.gets)
    one-told target silent inbox false is = refl

    pub told-stays : (target : Handle) → IsSilent target → (inboxes : List Inbox) → flat_map (told_by system own time) (map (emptied target) inboxes) ≡ flat_map (told_by system own time) inboxes
    told-stays target silent [] = refl
    told-stays target silent (inbox ∷ inboxes) = λ i. one-told target silent inbox (is_same_handle inbox.target target) refl i ++ told-stays target silent inboxes i

    pub told-left : (due : List Due) → AllByRecursion (λ (one : Due). IsSilent one.handle) due → (inboxes : List Inbox) → flat_map (told_by system own time) (left_by due inboxes) ≡ flat_map (told_by system own time) inboxes
    told-left [] silent inboxes = refl
    told-left (one ∷ due) silent inboxes = told-left due silent.1 (map (emptied one.handle) inboxes) ∙ told-stays one.handle silent.0 inboxes

    due-silent-by : (held : Option Spot) (mover : Mover) → is_next held time ≡ true → told_as (held_leaf held) time mover ≡ []
    due-silent-by None mover next = absurd (let wrong : false ≡ true = next in cc)
    due-silent-by (Some (variant.Leaf leaf)) mover next = ap (λ (b : Bool). cond b [] (if_come mover)) next
    due-silent-by (Some (variant.Net model args)) mover next = absurd (let wrong : false ≡ true = next in cc)

    -- of whoever is due, and of a network
    pub due-silent : (handle : Handle) → is_next (value_of own handle) time ≡ true → IsSilent handle
    due-silent handle next gets = due-silent-by (value_of own handle) (mover_with system own handle (path_at own handle) gets) next

    net-silent-by : (held : Option Spot) (mover : Mover) → ((leaf : Leaf) → held ≡ Some (variant.Leaf leaf) → ⊥) → told_as (held_leaf held) time mover ≡ []
    net-silent-by None mover none = refl
    net-silent-by (Some (variant.Leaf leaf)) mover none = absurd (none leaf refl)
    net-silent-by (Some (variant.Net model args)) mover none = refl

    pub net-silent : (handle : Handle) → ((leaf : Leaf) → value_of own handle ≡ Some (variant.Leaf leaf) → ⊥) → IsSilent handle
    net-silent handle none gets = net-silent-by (value_of own handle) (mover_with system own handle (path_at own handle) gets) none

-- who is due
module _ (own : Grove Spot) (time : ℕ) (due : List Due) (are : AreDue own time due) where
  pub each-due : AllByRecursion (IsDue own time) due
  each-due = all-from (IsDue own time) due (λ one there. (are.each one).0 (contains-from due one there))

-- a path is not before itself
never-itself : (path : Path) → path_cmp path path ≡ Less → ⊥
never-itself path less = let wrong : Less ≡ Equal = sym less ∙ tied_itself paths-total path in cc

module _ (system : System) (own : Grove Spot) (time : ℕ) where
  other-handle : (one other : Due) → IsDue own time one → IsDue own time other → due_cmp one other ≡ Less → (b : Bool) → is_same_handle one.handle other.handle ≡ b → b ≡ false
  other-handle one other first later less true is =
      let path : one.path ≡ other.path = first.path ∙ ap (path_at own) (same-handle one.handle other.handle is) ∙ sym later.path in
      absurd (never-itself other.path (ap (λ (p : Path). path_cmp p other.path) (sym path) ∙ less))
  other-handle one other first later less false is = refl

  others-apart : (one : Due) (due : List Due) → IsDue own time one → AllByRecursion (IsDue own time) due → AllByRecursion (λ (other : Due). due_cmp one other ≡ Less) due → AllByRecursion (λ (other : Due). is_same_handle one.handle other.handle ≡ false) due
  others-apart one [] first each less = tt
  others-apart one (other ∷ due) first each less = (other-handle one other first each.0 less.0 (is_same_handle one.handle other.handle) refl, others-apart one due first each.1 less.1)

  pub due-apart : (due : List Due) → IsStrictlySortedBy due_cmp due → AllByRecursion (IsDue own time) due → AreApart system own due
  due-apart [] order each = tt
  due-apart (one ∷ due) order each =
      (others-apart one due each.0 each.1 (sorted_head due_cmp one due order), due-apart due (sorted_tail due_cmp one due order) each.1)

  -- a network is none of them
  net-other : (top : Handle) → ((leaf : Leaf) → value_of own top ≡ Some (variant.Leaf leaf) → ⊥) → (one : Due) → IsDue own time one → (b : Bool) → is_same_handle top one.handle ≡ b → b ≡ false
  net-other top none one is true same = by (value_of own top) refl (ap (λ (handle : Handle). is_next (value_of own handle) time) (same-handle top one.handle same) ∙ is.next)
    where
      by : (held : Option Spot) → value_of own top ≡ held → is_next held time ≡ true → true ≡ false
      by None at next = sym next
      by (Some (variant.Leaf leaf)) at next = absurd (none leaf at)
      by (Some (variant.Net model args)) at next = sym next
  net-other top none one is false same = refl

  pub net-others : (top : Handle) → ((leaf : Leaf) → value_of own top ≡ Some (variant.Leaf leaf) → ⊥) → (due : List Due) → AllByRecursion (IsDue own time) due → AllByRecursion (λ (other : Due). is_same_handle top other.handle ≡ false) due
  net-others top none [] each = tt
  net-others top none (one ∷ due) each = (net-other top none one each.0 (is_same_handle top one.handle) refl, net-others top none due each.1)

  pub all-silent : (due : List Due) → AllByRecursion (IsDue own time) due → AllByRecursion (λ (one : Due). IsSilent system own time one.handle) due
  all-silent [] each = tt
  all-silent (one ∷ due) each = (due-silent system own time one.handle each.0.next, all-silent due each.1)

-- a list in strict order is sorted
module _ (key : Due → Mover) (same : (due : Due) → (key due).path ≡ due.path) where
  not-less : (one other : Due) → due_cmp one other ≡ Less → is_lt (mover_cmp (key other) (key one)) ≡ false
  not-less one other less =
      (λ i. is_lt (path_cmp (same other i) (same one i)))
      ∙ ap is_lt (paths-total.antisymm other.path one.path)
      ∙ ap (λ (o : Ordering). is_lt (ordering_reverse o)) less

  at-index : (one : Due) (due : List Due) → AllByRecursion (λ (other : Due). due_cmp one other ≡ Less) due → (k : ℕ) (d : Mover) → k < length (map key due) → is_lt (mover_cmp (get_or (map key due) k d) (key one)) ≡ false
  at-index one [] less k d below = absurd (omega arith)
  at-index one (other ∷ due) less zero d below = not-less one other less.0
  at-index one (other ∷ due) less (suc k) d below = at-index one due less.1 k d (omega arith)

  rises : (due : List Due) → IsStrictlySortedBy due_cmp due → (k : ℕ) (d : Mover) → suc k < length (map key due) → is_lt (mover_cmp (get_or (map key due) (suc k) d) (get_or (map key due) k d)) ≡ false
  rises [] order k d below = absurd (omega arith)
  rises (one ∷ due) order zero d below = at-index one due (sorted_head due_cmp one due order) 0 d (omega arith)
  rises (one ∷ due) order (suc k) d below = rises due (sorted_tail due_cmp one due order) k d (omega arith)

  pub in-order : (due : List Due) → IsStrictlySortedBy due_cmp due → IsSorted mover_cmp (map key due)
  in-order due order k d low below = rw add-one (rises due order k d (omega (arith, below)))
