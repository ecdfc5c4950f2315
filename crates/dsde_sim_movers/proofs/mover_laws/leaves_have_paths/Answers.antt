use Rattle.dsde_sim_movers.specs.Places.{leaves_from}
use Rattle.dsde_sim_movers.specs.lemmas.Events.{contains-from}
use Rattle.dsde_sim_movers.specs.Movers.{path_behind}
use Rattle.dsde_sim_movers.specs.lemmas.Named.{exact-by}
use Rattle.dsde_sim_movers.proofs.Seating.{seats}
use Rattle.dsde_sim_movers.proofs.mover_laws.leaves_have_paths.Goals as goal

pub returns : goal.returns
returns c tree path names leaf is = contains-from (leaves_from tree path) (path_behind path names) (seats (exact-by c.one_name.ensures) tree path names leaf is)
