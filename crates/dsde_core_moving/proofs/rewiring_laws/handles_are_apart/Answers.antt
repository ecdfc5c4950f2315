use Rattle.dsde_core_moving.proofs.Handles.{handles-apart}
use Rattle.dsde_core_moving.proofs.rewiring_laws.handles_are_apart.Goals as goal

pub returns : goal.returns
returns c old new top wiring tree path fresh stands named is_tree live themselves told_apart own_names young =
    handles-apart old new top wiring tree path fresh stands named is_tree live themselves told_apart own_names young
