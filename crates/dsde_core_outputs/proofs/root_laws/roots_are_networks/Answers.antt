use Rattle.dsde_core_outputs.proofs.Roots.{root-below, root-ins, root-network, roots-show}
use Rattle.dsde_core_outputs.proofs.root_laws.roots_are_networks.Goals as goal

pub returns-clause-rooted : goal.returns-clause-rooted
returns-clause-rooted c = λ model flat stands is. roots-show model flat stands is

pub returns-clause-below : goal.returns-clause-below
returns-clause-below c = λ model flat stands is. root-below model flat (roots-show model flat stands is)

pub returns-clause-network : goal.returns-clause-network
returns-clause-network c = λ model flat stands is. root-network model flat (roots-show model flat stands is)

pub returns-clause-ins : goal.returns-clause-ins
returns-clause-ins c = λ model flat stands is. root-ins model flat (roots-show model flat stands is)
