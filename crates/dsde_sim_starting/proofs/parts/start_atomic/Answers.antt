use Rattle.std.proofs.Common.{ap, ◌∙◌}
use Rattle.dsde_language.specs.declared.ids.ModelId.{ModelId}
use Rattle.dsde_executive.specs.given.system.Program.{system}
use Rattle.dsde_sim_starting.specs.lemmas.Fits.{tree-leaf}
use Rattle.dsde_sim_starting.proofs.parts.start_atomic.Goals as goal

pub returns-clause-fits : goal.returns-clause-fits
returns-clause-fits c =
    tree-leaf c.args.program.now c.in_ok-leaf.leaf (record {
      fits = c.in_ok-leaf.ensures.fits;
      atomic = ap (λ (m : ModelId). (system c.args.program.now).is_network m) c.in_ok-leaf.ensures.model ∙ c.requires.atomic;
      component = c.in_ok-leaf.ensures.boss;
    })
