use Rattle.std.proofs.Common.{List, sym, ap, ◌∙◌}
use Rattle.dsde_values.specs.Path.{root}
use Rattle.dsde_sim_movers.specs.Asking.{Seated, ask_each}
use Rattle.dsde_core_flat.proofs.DueOnes.{due-are-asked}
use Rattle.dsde_core_flat.proofs.due_laws.outputs_ask_the_due.Goals as goal

pub returns : goal.returns
returns c system own time top wiring tree list stands named are =
    c.outputs_are_asked.ensures system tree root time ∙ ap (λ (asks : List Seated). ask_each system time asks) (sym (due-are-asked own time top wiring tree stands named list are))
