use Rattle.dsde_core_flat.proofs.DueOnes.{due-are-asked}
use Rattle.dsde_core_flat.proofs.due_laws.due_leaves_are_asked.Goals as goal

pub returns : goal.returns
returns c own time top wiring tree list stands named are = due-are-asked own time top wiring tree stands named list are
