-- The output message: what a part of the tree sends at a time, port by port (F. J. Barros, "Abstract
-- Simulators for the DSDE Formalism", WSC 1998).
use Rattle.std.specs.Prelude.{ℕ, ◌+◌, ◌==◌, List, [], ◌∷◌, ◌++◌, filter, map, Result, Ok}
use Rattle.std.specs.List.{range_with_len}
use Rattle.dsde_values.specs.declared.arrival.Item.{Item}
use Rattle.dsde_values.specs.declared.path.Path.{Path}
use Rattle.dsde_values.specs.declared.value.Value.{Value}
use Rattle.dsde_language.specs.given.faults.end_LeafEnd.{LeafEnd}
use Rattle.dsde_formalism.specs.declared.leaf.Leaf.{Leaf}
use Rattle.dsde_formalism.specs.System.{System, Ports}
use Rattle.dsde_formalism.specs.Leaf as leaf
use Rattle.dsde_formalism.specs.Leaf.{component_of, sent_at}
use Rattle.dsde_formalism.specs.given.structure.plan_Part_TheVariants as part
use Rattle.dsde_formalism.specs.given.structure.sources_Given.{Given}
use Rattle.dsde_formalism.specs.given.structure.sources_Sources.{Sources}
use Rattle.dsde_formalism.specs.given.structure.Gather.{gathered}
use Rattle.dsde_sim_tree.specs.declared.event.Event.{Event}
use Rattle.dsde_sim_tree.specs.declared.event.Event.TheVariants.{Out}
use Rattle.dsde_sim_tree.specs.declared.fault.TurnEnd.{TurnEnd}
use Rattle.dsde_sim_tree.specs.Told.{at, below, to_boss}
use Rattle.dsde_sim_tree.specs.declared.sim.Kid.{Kid}
use Rattle.dsde_sim_tree.specs.declared.sim.Net.{Net}
use Rattle.dsde_sim_tree.specs.declared.sim.Sim.{Sim}
use Rattle.dsde_sim_tree.specs.declared.sim.Sim.TheFolds.{fold-Sim, fold-Kid, fold-Net}
use Rattle.dsde_sim_tree.specs.declared.sim.Sim.TheOpen.{Sim-F, Net-F, Kid-F}
use Rattle.dsde_sim_tree.specs.declared.sim.Sim.TheOpen as layer

-- the first fault ends
infixl 10 ◌>>=◌
abbrev pub ◌>>=◌ : {A B : Type 0} → Result A TurnEnd → (A → Result B TurnEnd) → Result B TurnEnd
◌>>=◌ = leaf.◌>>=◌

-- the values that items have at one port
abbrev pub values_at : List Item → ℕ → List Value
values_at items port = map (λ item. item.value) (filter (λ item. item.port == port) items)

-- the values that items have, port by port
abbrev pub by_port : ℕ → List Item → Ports
by_port ports items = map (values_at items) (range_with_len 0 ports)

-- what a component or an executive sends at a time, port by port
abbrev pub sent : System → Leaf → ℕ → Result Ports LeafEnd
sent system own time = leaf.◌>>=◌ (sent_at system own time) (λ items. Ok (by_port (component_of system own).outs items))

-- what a part at a path answers to an output message at a time, and a component of a network at that path
abbrev pub Answer : Type 0
Answer = Path → ℕ → Result Ports TurnEnd

abbrev pub KidAnswer : Type 0
KidAnswer = Path → ℕ → Result Given TurnEnd

-- components are asked one after another, behind those that have answered
abbrev pub asked : List KidAnswer → Path → ℕ → List Given → Result (List Given) TurnEnd
asked [] path time done = Ok done
asked (kid ∷ kids) path time done = kid path time >>= (λ given. asked kids path time (done ++ given ∷ []))

-- what the links of a network carry from: it asks its components in the order of their names, and then
-- its executive
abbrev pub sources_of : System → List KidAnswer → Leaf → Path → ℕ → Ports → Result Sources TurnEnd
sources_of system kids boss path time got =
    asked kids path time [] >>= (λ given.
    at (to_boss path) (sent system boss time) >>= (λ own.
    Ok (record { net = got; boss = own; kids = given })))

abbrev pub output_step : System → Sim-F Answer KidAnswer Answer → Answer
output_step system (layer.Leaf leaf) path time = at path (sent system leaf time)
output_step system (layer.Net net) path time = net path time

abbrev pub output_kid : Kid-F Answer KidAnswer Answer → KidAnswer
output_kid kid path time =
    kid.sim (below path kid.name) time >>= (λ ports. Ok (record { name = kid.name; ports = ports }))

-- A network sends what its links carry to its out ports. None leads there from its in ports.
abbrev pub output_net : System → Net-F Answer KidAnswer Answer → Answer
output_net system net path time =
    sources_of system net.kids net.boss path time [] >>= (λ sources.
    Ok (gathered system.translate net.links sources part.Net (system.network net.model net.args).outs))

-- what a part sends at a time, port by port
abbrev pub output : System → Sim → Answer
output system = fold-Sim Answer KidAnswer Answer (output_step system) output_kid (output_net system)

abbrev pub kid_output : System → Kid → KidAnswer
kid_output system = fold-Kid Answer KidAnswer Answer (output_step system) output_kid (output_net system)

abbrev pub output_of_net : System → Net → Answer
output_of_net system = fold-Net Answer KidAnswer Answer (output_step system) output_kid (output_net system)

-- what the whole model sends by one port
abbrev pub outs_at : ℕ → List Value → List Event
outs_at port values = map (λ value. Out port value) values

-- what it sends by the ports from this number on
abbrev pub outs_from : ℕ → Ports → List Event
outs_from port [] = []
outs_from port (values ∷ later) = outs_at port values ++ outs_from (port + 1) later
