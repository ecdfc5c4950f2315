-- A delivery and what inboxes bring.
use Rattle.std.proofs.Common.{◌≡◌, ℕ, zero, suc, ◌+◌, ◌<◌, List, [], ◌∷◌, ◌++◌, map, Result, Ok, refl, sym, ap, ◌∙◌, arith}
use Rattle.std.specs.Prelude.{slice_index_or}
use Rattle.std.specs.List.{AllByRecursion, range_with_len}
use Rattle.dsde_bank.specs.declared.handle.Handle.{Handle}
use Rattle.dsde_values.specs.declared.path.Path.{Path}
use Rattle.dsde_values.specs.declared.value.Value.{Value}
use Rattle.dsde_sim_tree.specs.given.formalism.Leaf.{component_of}
use Rattle.dsde_sim_tree.specs.given.formalism.System.{System, Ports}
use Rattle.dsde_sim_tree.specs.declared.sim.Sim.{Sim}
use Rattle.dsde_routes_pushing.specs.given.sim_movers.Deliveries.{Delivery, received}
use Rattle.dsde_routes_pushing.specs.given.sim_movers.Found.{IsFound}
use Rattle.dsde_core_parcels.specs.declared.inbox.Inbox.{Inbox}
use Rattle.dsde_core_parcels.specs.Brought.{brought}
use Rattle.dsde_core_parcels.specs.Delivered.{IsBrought}

module _ (f g : ℕ → List Value) where
  item-of : (many first k : ℕ) → k < many → slice_index_or (map f (range_with_len first many)) k [] ≡ f (k + first)
  item-of zero first k within = absurd (omega (arith, within))
  item-of (suc many) first zero within = (let same : first ≡ 0 + first = omega arith in ap f same)
  item-of (suc many) first (suc k) within = item-of many (first + 1) k (omega (arith, within)) ∙ (let same : k + (first + 1) ≡ suc k + first = omega arith in ap f same)

  same-items : (many first : ℕ) → ((k : ℕ) → k < many → f (k + first) ≡ g (k + first)) → map f (range_with_len first many) ≡ map g (range_with_len first many)
  same-items zero first same = refl
  same-items (suc many) first same =
      let none : first ≡ 0 + first = omega arith in
      λ i. (ap f none ∙ same 0 (omega arith) ∙ sym (ap g none)) i ∷ same-items many (first + 1) (λ k within. (let is : k + (first + 1) ≡ suc k + first = omega arith in ap f is ∙ same (suc k) (omega (arith, within)) ∙ sym (ap g is))) i

  pub ports-are : (many : ℕ) (ports : Ports) → ports ≡ map f (range_with_len 0 many) → ((k : ℕ) → slice_index_or ports k [] ≡ g k) → ports ≡ map g (range_with_len 0 many)
  ports-are many ports is each =
      is ∙ same-items many 0 (λ k within.
      let here : k + 0 ≡ k = omega arith in
      sym (item-of many 0 k within) ∙ ap (λ (own : Ports). slice_index_or own k []) (sym is) ∙ each k ∙ sym (ap g here))

module _ (system : System) (handle : Path → Handle) (tree : Sim) (time : ℕ) (got : Ports) (inboxes : List Inbox) where
  one-brought : (own : Delivery) → IsFound system tree time got own → ((port : ℕ) → slice_index_or own.ports port [] ≡ brought inboxes (handle own.path) port) → IsBrought system handle tree inboxes own
  one-brought own found each = record {
    leaf = found.leaf;
    there = found.there;
    is = found.is
        ∙ (λ i. record {
          path = own.path;
          model = found.leaf.model;
          ports = (sym (ap (λ (delivery : Delivery). delivery.ports) found.is)
              ∙ ports-are (λ port. received system tree own.path port time got) (brought inboxes (handle own.path)) (component_of system found.leaf).ins own.ports
              (ap (λ (delivery : Delivery). delivery.ports) found.is) each) i;
        });
  }

  pub all-brought : (list : List Delivery) → AllByRecursion (IsFound system tree time got) list → AllByRecursion (λ own. (port : ℕ) → slice_index_or own.ports port [] ≡ brought inboxes (handle own.path) port) list → AllByRecursion (IsBrought system handle tree inboxes) list
  all-brought [] found each = tt
  all-brought (own ∷ list) found each = (one-brought own found.0 each.0, all-brought list found.1 each.1)

pub each-weaker : {X : Type 0} (P Q : X → Type 0) → ((x : X) → P x → Q x) → (xs : List X) → AllByRecursion P xs → AllByRecursion Q xs
each-weaker P Q gives [] each = tt
each-weaker P Q gives (x ∷ xs) each = (gives x each.0, each-weaker P Q gives xs each.1)

pub one-ok : {X E : Type 0} (x y : X) → (let a : Result X E = Ok x in a) ≡ Ok y → x ≡ y
one-ok x y is = cc

pub all-last : {X : Type 0} (P : X → Type 0) (xs : List X) (x : X) → AllByRecursion P (xs ++ x ∷ []) → P x
all-last P [] x all = all.0
all-last P (y ∷ xs) x all = all-last P xs x all.1
