-- What a component sends, in the order in which it is sent, is what it sends port by port.
use Rattle.std.proofs.Common.{◌≡◌, ◌∙◌, ℕ, List, Result, Ok, Err, ap}
use Rattle.dsde_values.specs.declared.arrival.Item.{Item}
use Rattle.dsde_values.specs.declared.path.Path.{Path}
use Rattle.dsde_language.specs.given.faults.end_LeafEnd.{LeafEnd}
use Rattle.dsde_language.specs.given.faults.end_LeafEnd_TheVariants as leaf_end
use Rattle.dsde_sim_tree.specs.given.formalism.Leaf.{◌>>=◌}
use Rattle.dsde_sim_tree.specs.given.formalism.System.{Ports}
use Rattle.dsde_sim_tree.specs.declared.fault.TurnEnd.{TurnEnd}
use Rattle.dsde_sim_tree.specs.declared.fault.TurnEnd.TheVariants as turn_end
use Rattle.dsde_sim_tree.specs.Told.{at, Comes}
use Rattle.dsde_sim_tree.specs.Output.{by_port}

abbrev spread : ℕ → List Item → Result Ports LeafEnd
spread ports items = Ok (by_port ports items)

pub items-sent : (path : Path) (ports many : ℕ) (sent : Result (List Item) LeafEnd) (items : List Item) → sent ≡ Ok items → ports ≡ many → at path (sent >>= spread ports) ≡ Ok (by_port many items)
items-sent path ports many sent items is same = ap (λ (sent : Result (List Item) LeafEnd). at path (sent >>= spread ports)) is ∙ ap (λ (ports : ℕ). let all : Result Ports TurnEnd = Ok (by_port ports items) in all) same

pub items-end : (path : Path) (ports : ℕ) (sent : Result (List Item) LeafEnd) (end : TurnEnd) → Comes (at path sent) (let r : Result (List Item) TurnEnd = Err end in r) → Comes (at path (sent >>= spread ports)) (let r : Result Ports TurnEnd = Err end in r)
items-end path ports (Ok items) (turn_end.Fault place site kind spot) comes = absurd (let wrong : Ok items ≡ Err (turn_end.Fault place site kind spot) = comes in cc)
items-end path ports (Ok items) turn_end.Memory comes = tt
items-end path ports (Err (leaf_end.Fault own_site own_kind own_spot)) (turn_end.Fault place site kind spot) comes =
    let same : turn_end.Fault path own_site own_kind own_spot ≡ turn_end.Fault place site kind spot = cc in
    ap (λ (end : TurnEnd). let r : Result Ports TurnEnd = Err end in r) same
items-end path ports (Err (leaf_end.Fault own_site own_kind own_spot)) turn_end.Memory comes = tt
items-end path ports (Err leaf_end.Memory) (turn_end.Fault place site kind spot) comes = absurd (let wrong : turn_end.Memory ≡ turn_end.Fault place site kind spot = cc in cc)
items-end path ports (Err leaf_end.Memory) turn_end.Memory comes = tt
