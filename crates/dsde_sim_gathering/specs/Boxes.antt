-- What comes to the parts of a network, link by link.
use Rattle.std.specs.Prelude.{ℕ, zero, suc, if◌then◌else◌, List, [], ◌∷◌, ◌++◌, map, Option, Some, None, option_map}
use Rattle.std.specs.List.{range_with_len}
use Rattle.dsde_sim_tree.specs.Tree.{name_of}
use Rattle.dsde_values.specs.declared.name.Name.{Name}
use Rattle.dsde_values.specs.declared.value.Value.{Value}
use Rattle.dsde_sim_tree.specs.given.structure.plan_Link.{Link}
use Rattle.dsde_sim_tree.specs.given.structure.plan_Part_TheVariants as part
use Rattle.dsde_sim_tree.specs.given.structure.sources_Sources.{Sources}
use Rattle.dsde_sim_tree.specs.given.structure.Gather.{Translation, Ports, carried, gathered, is_same_name}
use Rattle.dsde_sim_tree.specs.given.formalism.System.{System}
use Rattle.dsde_sim_tree.specs.declared.sim.Kid.{Kid}
use Rattle.dsde_sim_tree.specs.declared.sim.Sim.TheViews.{out-Kid}
use Rattle.dsde_sim_tree.specs.Move.{ins_of}
use Rattle.dsde_sim_gathering.specs.declared.boxes.Inboxes.{Inboxes}

-- the item at an index is changed, where there is one
abbrev pub changed : {A : Type 0} → ℕ → (A → A) → List A → List A
changed index change [] = []
changed zero change (item ∷ items) = change item ∷ items
changed (suc index) change (item ∷ items) = item ∷ changed index change items

-- values come at a port, behind those that are there; where there is no such port they are lost
abbrev pub added : ℕ → List Value → Ports → Ports
added port values ports = changed port (λ there. there ++ values) ports

-- the index of the first of these names that is this one
abbrev pub place_of : Name → List Name → Option ℕ
place_of name [] = None
place_of name (first ∷ names) = if is_same_name first name then Some 0 else option_map suc (place_of name names)

-- the item at a place is changed, if it is a place
abbrev pub changed_at : {A : Type 0} → Option ℕ → (A → A) → List A → List A
changed_at None change items = items
changed_at (Some index) change items = changed index change items

-- no values yet, at so many ports
abbrev pub empty_ports : ℕ → Ports
empty_ports ports = map (λ port. []) (range_with_len 0 ports)

-- what comes to a component
abbrev pub box_of : System → List Link → Sources → Kid → Ports
box_of system links sources kid = gathered system.translate links sources (part.Kid (name_of kid)) (ins_of system (out-Kid kid).sim)

-- what comes to the executive of a network and to its components over these links
abbrev pub boxes_of : System → List Link → Sources → ℕ → List Kid → Inboxes
boxes_of system links sources boss_ins kids = record {
  boss = gathered system.translate links sources part.Boss boss_ins;
  kids = map (box_of system links sources) kids;
}

-- what one more link brings to the parts of a network
abbrev pub delivered : Translation → Sources → List Name → Link → Inboxes → Inboxes
delivered translate sources names link boxes = elim link.to.part [
  | part.Net ↦ boxes
  | part.Boss ↦ record { boss = added link.to.port (carried translate sources link) boxes.boss; kids = boxes.kids }
  | part.Kid name ↦ record { boss = boxes.boss; kids = changed_at (place_of name names) (added link.to.port (carried translate sources link)) boxes.kids }
]

-- what one more link brings to the out ports of a network
abbrev pub sent_on : Translation → Sources → Link → Ports → Ports
sent_on translate sources link ports = elim link.to.part [
  | part.Net ↦ added link.to.port (carried translate sources link) ports
  | part.Boss ↦ ports
  | part.Kid name ↦ ports
]
