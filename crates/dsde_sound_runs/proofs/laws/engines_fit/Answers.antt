use Rattle.dsde_sound_runs.proofs.Fitting.{advance-fits, start-fits}
use Rattle.dsde_sound_runs.proofs.laws.engines_fit.Goals as goal

pub returns-clause-start : goal.returns-clause-start
returns-clause-start c = λ model engine right is.
    start-fits model (record {
      right = right;
      component = λ number args fits. c.components_are_sure.ensures model number args right fits;
      structure = λ number args state network fits stood. c.structures_are_sure.ensures model number args state right network fits stood;
      top = c.top_is_sure.ensures model right;
      gathered = c.gathered_fits.ensures;
      sent = c.sent_fits.ensures;
      covers = c.reach_covers.ensures;
      one = c.one_name.ensures;
      survivor = c.survivors_keep_their_roles.ensures.found;
    }) engine is

pub returns-clause-advance : goal.returns-clause-advance
returns-clause-advance c = λ model engine head answer right fits arrives is.
    advance-fits model (record {
      right = right;
      component = λ number args fits. c.components_are_sure.ensures model number args right fits;
      structure = λ number args state network fits stood. c.structures_are_sure.ensures model number args state right network fits stood;
      top = c.top_is_sure.ensures model right;
      gathered = c.gathered_fits.ensures;
      sent = c.sent_fits.ensures;
      covers = c.reach_covers.ensures;
      one = c.one_name.ensures;
      survivor = c.survivors_keep_their_roles.ensures.found;
    }) engine head answer fits arrives is
