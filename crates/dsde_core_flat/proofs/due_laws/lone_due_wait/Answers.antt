use Rattle.dsde_core_flat.proofs.Taking.{lone-due, lone-left, lone-taken}
use Rattle.dsde_core_flat.proofs.due_laws.lone_due_wait.Goals as goal

pub returns : goal.returns
returns c own time pairs path tree scheduled ordered one =
    (lone-taken own time tree pairs scheduled ordered path one, lone-due own time tree pairs scheduled ordered path one, lone-left own time tree pairs scheduled ordered path one)
