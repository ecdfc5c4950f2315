-- Items that are put at their ports one after another are those of each port.
use Rattle.std.proofs.Common.{◌≡◌, ◌∙◌, ℕ, ◌==◌, Bool, true, false, cond, List, [], ◌∷◌, ◌++◌, map, filter, refl, sym, ap, append-nil, arith}
use Rattle.std.specs.List.{range_with_len}
use Rattle.std.proofs.lemmas.List.{append_assoc}
use Rattle.dsde_values.specs.declared.arrival.Item.{Item}
use Rattle.dsde_values.specs.declared.value.Value.{Value}
use Rattle.dsde_sim_tree.specs.Output.{by_port, values_at}
use Rattle.dsde_core_moves.specs.given.sim_gathering.Boxes.{empty_ports}
use Rattle.dsde_core_parcels.specs.Ports.{put_all}
use Rattle.dsde_core_parcels.proofs.Adding.{one-takes, when}

abbrev value_of : Item → Value
value_of item = item.value

-- what one more item has at a port, before the later ones
let-in : (test : Bool) (item : Item) (later : List Item) → when test (item.value ∷ []) ++ map value_of later ≡ map value_of (cond test (item ∷ later) later)
let-in true item later = refl
let-in false item later = refl

one-more : (item : Item) (items : List Item) (port : ℕ) → when (item.port == port) (item.value ∷ []) ++ values_at items port ≡ values_at (item ∷ items) port
one-more item items port = let-in (item.port == port) item (filter (λ item. item.port == port) items)

-- values of items are added to those that are there, port by port
all-put : (items : List Item) (f : ℕ → List Value) (many : ℕ) → put_all items (map f (range_with_len 0 many)) ≡ map (λ port. f port ++ values_at items port) (range_with_len 0 many)
all-put [] f many = (λ i. map (λ port. sym (append-nil (f port)) i) (range_with_len 0 many))
all-put (item ∷ items) f many =
    ap (put_all items) (sym (one-takes f (item.value ∷ []) item.port 0 item.port many (omega arith)))
    ∙ all-put items (λ port. f port ++ when (item.port == port) (item.value ∷ [])) many
    ∙ (λ i. map (λ port. (append_assoc (f port) (when (item.port == port) (item.value ∷ [])) (values_at items port) ∙ ap (λ (values : List Value). f port ++ values) (one-more item items port)) i) (range_with_len 0 many))

pub all-by-port : (items : List Item) (many : ℕ) → put_all items (empty_ports many) ≡ by_port many items
all-by-port items many = all-put items (λ port. []) many
