-- What get events bring to a port is what deliveries mean for it.
use Rattle.std.proofs.Common.{◌≡◌, ℕ, ◌+◌, ◌==◌, ◌&&◌, ◌<◌, zero, suc, Bool, true, false, List, [], ◌∷◌, ◌++◌, Result, Ok, Err, refl, sym, ◌∙◌, ap, append-nil, arith}
use Rattle.std.proofs.lemmas.List.Concat.{flat_map-append}
use Rattle.std.specs.List.{flat_map, filter}
use Rattle.std.specs.Prelude.{if◌then◌else◌, slice_index_or}
use borrow.Author.Tests.{eqb-true, eq-eqb}
use Rattle.dsde_values.specs.declared.path.Path.{Path}
use Rattle.dsde_values.specs.declared.value.Value.{Value}
use Rattle.dsde_sim_tree.specs.given.language.ids_ModelId.{ModelId}
use Rattle.dsde_sim_tree.specs.given.formalism.System.{Ports}
use Rattle.dsde_sim_tree.specs.declared.event.Event.{Event}
use Rattle.dsde_sim_tree.specs.declared.event.Event.TheVariants.{AddNet, AddLeaf, Turn, Out, Get, Move, Drop, Finish}
use Rattle.dsde_sim_tree.specs.declared.fault.TurnEnd.{TurnEnd}
use Rattle.dsde_sim_tree.specs.Told.{below, ◌then◌}
use Rattle.dsde_sim_tree.specs.Move.{gets_at, gets_from}
use Rattle.dsde_sim_movers.specs.Deliveries.{Delivery, gets_of, is_get, is_same_path, brought, meant}
use Rattle.dsde_sim_movers.specs.Delivered.{UpTo}

-- what get events bring to a port
gets-bring : (path : Path) (port : ℕ) (events : List Event) → flat_map (brought path port) (filter is_get events) ≡ flat_map (brought path port) events
gets-bring path port [] = refl
gets-bring path port (Get at model number value ∷ events) = ap (λ rest. brought path port (Get at model number value) ++ rest) (gets-bring path port events)
gets-bring path port (AddNet at model ∷ events) = gets-bring path port events
gets-bring path port (AddLeaf at model state next ∷ events) = gets-bring path port events
gets-bring path port (Turn number time ∷ events) = gets-bring path port events
gets-bring path port (Out number value ∷ events) = gets-bring path port events
gets-bring path port (Move at model kind state next ∷ events) = gets-bring path port events
gets-bring path port (Drop at count ∷ events) = gets-bring path port events
gets-bring path port (Finish how turns time ∷ events) = gets-bring path port events

values-bring : (path : Path) (port : ℕ) (at : Path) (model : ModelId) (number : ℕ) (here : Bool) (values : List Value) (rest : List Event) → (is_same_path at path && number == port) ≡ here →
    flat_map (brought path port) (gets_at at model number values ++ rest) ≡ (if here then values else []) ++ flat_map (brought path port) rest
values-bring path port at model number true [] rest is = refl
values-bring path port at model number false [] rest is = refl
values-bring path port at model number true (value ∷ values) rest is = rw is (ap (λ more. value ∷ more) (values-bring path port at model number true values rest is))
values-bring path port at model number false (value ∷ values) rest is = rw is (values-bring path port at model number false values rest is)

bool-false : (b : Bool) → (b ≡ true → ⊥) → b ≡ false
bool-false true never = absurd (never refl)
bool-false false never = refl

and-false : (x y : Bool) → y ≡ false → (x && y) ≡ false
and-false true y is = is
and-false false y is = refl

not-same : (a b : ℕ) → (a ≡ b → ⊥) → (a == b) ≡ false
not-same a b differ = bool-false (a == b) (λ same. differ (eqb-true a b same))

other-path : (path : Path) (port : ℕ) (at : Path) (model : ModelId) (number : ℕ) (got : Ports) → is_same_path at path ≡ false → flat_map (brought path port) (gets_from at model number got) ≡ []
other-path path port at model number [] is = refl
other-path path port at model number (values ∷ later) is =
    values-bring path port at model number false values (gets_from at model (number + 1) later) (rw is refl) ∙ other-path path port at model (number + 1) later is

-- none of the ports from a number on is below it
below-none : (path : Path) (port : ℕ) (at : Path) (model : ModelId) (number : ℕ) (got : Ports) → port < number → flat_map (brought path port) (gets_from at model number got) ≡ []
below-none path port at model number [] below = refl
below-none path port at model number (values ∷ later) below =
    values-bring path port at model number false values (gets_from at model (number + 1) later) (and-false (is_same_path at path) (number == port) (not-same number port (λ same. omega arith)))
    ∙ below-none path port at model (number + 1) later (omega arith)

same-path : (path : Path) (port : ℕ) (at : Path) (model : ModelId) (number place : ℕ) (got : Ports) → is_same_path at path ≡ true → port ≡ number + place → flat_map (brought path port) (gets_from at model number got) ≡ slice_index_or got place []
same-path path port at model number place [] is same = refl
same-path path port at model number zero (values ∷ later) is same =
    values-bring path port at model number true values (gets_from at model (number + 1) later) (rw is (eq-eqb number port (omega arith)))
    ∙ ap (λ rest. values ++ rest) (below-none path port at model (number + 1) later (omega arith)) ∙ append-nil values
same-path path port at model number (suc place) (values ∷ later) is same =
    values-bring path port at model number false values (gets_from at model (number + 1) later) (and-false (is_same_path at path) (number == port) (not-same number port (λ equal. omega arith)))
    ∙ same-path path port at model (number + 1) place later is (omega arith)

delivery-brings : (path : Path) (port : ℕ) (delivery : Delivery) (here : Bool) → is_same_path delivery.path path ≡ here → flat_map (brought path port) (gets_of delivery) ≡ (if here then slice_index_or delivery.ports port [] else [])
delivery-brings path port delivery true is = same-path path port delivery.path delivery.model 0 port delivery.ports is (omega arith)
delivery-brings path port delivery false is = other-path path port delivery.path delivery.model 0 delivery.ports is

deliveries-bring : (path : Path) (port : ℕ) (list : List Delivery) → flat_map (brought path port) (flat_map gets_of list) ≡ flat_map (meant path port) list
deliveries-bring path port [] = refl
deliveries-bring path port (delivery ∷ list) =
    flat_map-append (brought path port) (gets_of delivery) (flat_map gets_of list)
    ∙ (λ i. delivery-brings path port delivery (is_same_path delivery.path path) refl i ++ deliveries-bring path port list i)

-- what the get events of a step bring, up to a fault
pub upto-brings : {A : Type 0} (path : Path) (port : ℕ) (end : Result A TurnEnd) (events : List Event) (list : List Delivery) →
    UpTo end (filter is_get events) (flat_map gets_of list) → UpTo end (flat_map (brought path port) events) (flat_map (meant path port) list)
upto-brings path port (Ok value) events list upto =
    sym (gets-bring path port events) ∙ ap (flat_map (brought path port)) upto ∙ deliveries-bring path port list
upto-brings path port (Err end) events list upto = (
  flat_map (brought path port) upto.0,
  sym (deliveries-bring path port list) ∙ ap (flat_map (brought path port)) upto.1 ∙ flat_map-append (brought path port) (filter is_get events) upto.0
      ∙ ap (λ front. front ++ flat_map (brought path port) upto.0) (gets-bring path port events),
)
