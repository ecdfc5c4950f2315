pub use Rattle.dsde_sim_tree.specs.Opened
pub use Rattle.dsde_sim_tree.specs.Spots
pub use Rattle.dsde_sim_tree.specs.Told
pub use Rattle.dsde_sim_tree.specs.Tree
pub use Rattle.dsde_sim_tree.specs.declared.sim.Kid as sim_Kid
pub use Rattle.dsde_sim_tree.specs.declared.sim.Net as sim_Net
pub use Rattle.dsde_sim_tree.specs.declared.sim.Sim as sim_Sim
pub use Rattle.dsde_sim_tree.specs.declared.sim.Sim.TheFolds as sim_Sim_TheFolds
pub use Rattle.dsde_sim_tree.specs.declared.sim.Sim.TheOpen as sim_Sim_TheOpen
pub use Rattle.dsde_sim_tree.specs.declared.sim.Sim.TheVariants as sim_Sim_TheVariants
pub use Rattle.dsde_sim_tree.specs.declared.sim.Sim.TheViews as sim_Sim_TheViews
pub use Rattle.dsde_sim_tree.specs.lemmas.Trees as lemmas_Trees
