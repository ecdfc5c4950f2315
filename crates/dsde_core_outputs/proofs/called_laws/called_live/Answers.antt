use Rattle.std.proofs.Common.{inl, inr, sym, subst}
use Rattle.dsde_sim_working.specs.given.system.Program.{system}
use Rattle.dsde_core_parcels.specs.given.routes_pushing.lemmas_Lists.{all-from, each-among}
use Rattle.dsde_core_parcels.specs.given.core_flat.Due.{IsDue}
use Rattle.dsde_core_parcels.specs.Calling.{called}
use Rattle.dsde_core_outputs.specs.Called.{IsLiveMover}
use Rattle.dsde_core_outputs.proofs.Members.{due-lives, of-either, told-lives}
use Rattle.dsde_core_outputs.proofs.CalledTaking.{each-due}
use Rattle.dsde_core_outputs.proofs.called_laws.called_live.Goals as goal

pub returns : goal.returns
returns c = λ model own top wiring net time items due inboxes filled.
    let S = system model in
    let each = each-due own time due filled.are_due in
    all-from (IsLiveMover own) (called S own time due inboxes)
    (λ mover among. elim (of-either S own time due inboxes mover among) [
      | inl is ↦ subst (IsLiveMover own) (sym is.is) (due-lives S own time due inboxes is.due_one (each-among (IsDue own time) due is.due_one each is.among))
      | inr is ↦ told-lives S own time due inboxes is.inbox mover is.told
    ])
