-- What came to a target, port by port, is what the inboxes bring there.
use Rattle.std.proofs.Common.{◌≡◌, ℕ, ◌==◌, Bool, true, false, cond, if◌then◌else◌, List, [], ◌∷◌, ◌++◌, map, refl, ◌∙◌, inl, inr, ◌⊎◌}
use Rattle.std.specs.List.{range_with_len}
use Rattle.std.proofs.lemmas.Grind.{flat_map-append}
use Rattle.dsde_bank.specs.declared.handle.Handle.{Handle}
use Rattle.dsde_values.specs.declared.value.Value.{Value}
use Rattle.dsde_sim_tree.specs.given.formalism.Leaf.{has_come}
use Rattle.dsde_core_parcels.specs.given.routes_wiring.Wired.{is_same_handle}
use Rattle.dsde_core_parcels.specs.given.routes_pushing.lemmas_Handles.{same-handle}
use Rattle.dsde_core_parcels.specs.given.routes_pushing.lemmas_Lists.{Among}
use Rattle.dsde_core_parcels.specs.declared.inbox.Get.{Get}
use Rattle.dsde_core_parcels.specs.declared.inbox.Inbox.{Inbox}
use Rattle.dsde_core_parcels.specs.Inboxes.{spread, values_at}
use Rattle.dsde_core_parcels.specs.Brought.{brought}
use Rattle.dsde_core_parcels.specs.Calling.{gets_for, AreOthers}

one-brings : (port : ℕ) (gets : List Get) (b : Bool) → values_at port (cond b gets []) ≡ cond b (values_at port gets) []
one-brings port gets true = refl
one-brings port gets false = refl

pub gets-bring : (target : Handle) (port : ℕ) (inboxes : List Inbox) → values_at port (gets_for target inboxes) ≡ brought inboxes target port
gets-bring target port [] = refl
gets-bring target port (inbox ∷ inboxes) =
    flat_map-append (λ (get : Get). if get.port == port then get.values else []) (cond (is_same_handle inbox.target target) inbox.gets []) (gets_for target inboxes)
    ∙ (λ i. one-brings port inbox.gets (is_same_handle inbox.target target) i ++ gets-bring target port inboxes i)

pub spread-brings : (target : Handle) (ports : ℕ) (inboxes : List Inbox) → spread ports (gets_for target inboxes) ≡ map (brought inboxes target) (range_with_len 0 ports)
spread-brings target ports inboxes = λ i. map (λ port. gets-bring target port inboxes i) (range_with_len 0 ports)

-- There is an inbox of the target, or none.
pub record HasInbox (target : Handle) (inboxes : List Inbox) : Type 0 where
  pub inbox : Inbox
  pub among : Among inbox inboxes
  pub is : inbox.target ≡ target

pub inbox-or-none : (target : Handle) (inboxes : List Inbox) → HasInbox target inboxes ⊎ AreOthers target inboxes
inbox-or-none target [] = inr tt
inbox-or-none target (inbox ∷ inboxes) = by (is_same_handle inbox.target target) refl (inbox-or-none target inboxes)
  where
    by : (b : Bool) → is_same_handle inbox.target target ≡ b → HasInbox target inboxes ⊎ AreOthers target inboxes → HasInbox target (inbox ∷ inboxes) ⊎ AreOthers target (inbox ∷ inboxes)
    by true is later = inl (record { inbox = inbox; among = inl refl; is = same-handle inbox.target target is })
    by false is (inl found) = inl (record { inbox = found.inbox; among = inr found.among; is = found.is })
    by false is (inr others) = inr (is, others)

none-brought : (target : Handle) (port : ℕ) (inboxes : List Inbox) → AreOthers target inboxes → brought inboxes target port ≡ []
none-brought target port [] others = refl
none-brought target port (inbox ∷ inboxes) others = λ i. cond (others.0 i) (values_at port inbox.gets) [] ++ none-brought target port inboxes others.1 i

nothing-comes : (ports : List ℕ) → has_come (map (λ (port : ℕ). let none : List Value = [] in none) ports) ≡ false
nothing-comes [] = refl
nothing-comes (port ∷ ports) = nothing-comes ports

-- without an inbox nothing comes
pub none-comes : (target : Handle) (ports : List ℕ) (inboxes : List Inbox) → AreOthers target inboxes → has_come (map (brought inboxes target) ports) ≡ false
none-comes target ports inboxes others = (λ i. has_come (map (λ port. none-brought target port inboxes others i) ports)) ∙ nothing-comes ports
