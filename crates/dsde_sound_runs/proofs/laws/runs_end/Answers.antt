use Rattle.dsde_sound_runs.proofs.Running.{runs-end}
use Rattle.dsde_sound_runs.proofs.laws.runs_end.Goals as goal

pub returns : goal.returns
returns c = λ model spots records turns right arrive.
    runs-end model (record {
      right = right;
      component = λ number args fits. c.components_are_sure.ensures model number args right fits;
      structure = λ number args state network fits stood. c.structures_are_sure.ensures model number args state right network fits stood;
      top = c.top_is_sure.ensures model right;
      gathered = c.gathered_fits.ensures;
      sent = c.sent_fits.ensures;
      covers = c.reach_covers.ensures;
      one = c.one_name.ensures;
      survivor = c.survivors_keep_their_roles.ensures.found;
    }) spots records turns arrive
