use Rattle.std.proofs.Common.{◌≤◌, Some, ap, sym, subst, arith}
use Rattle.dsde_core_outputs.specs.given.system.Program.{system}
use Rattle.dsde_sim_tree.specs.declared.sim.Sim.{Sim}
use Rattle.dsde_sim_tree.specs.Tree.{parts}
use Rattle.dsde_core_moving.specs.given.sim_movers.Stands.{StandsTree}
use Rattle.dsde_core_outputs.specs.given.sim_working.Working.{working}
use Rattle.dsde_core.proofs.engine.Core.from_tree.Goals as goal

pub flat_of-requires-clause-fits : goal.flat_of-requires-clause-fits
flat_of-requires-clause-fits c = (c.args.program.now, c.requires.fits.fits)

pub returns-clause-engine : goal.returns-clause-engine
returns-clause-engine c =
    ap (λ (tree : Sim). working c.args.program.now (record { tree = Some tree; turn = c.args.turn; time = c.args.time; taken = c.args.taken })) c.in_ok-flat.ensures.tree

pub returns-clause-born : goal.returns-clause-born
returns-clause-born c =
    let within : parts c.args.tree ≤ 131072 = c.requires.fits.within in
    omega (arith, c.in_ok-flat.ensures.born, within)

pub returns-clause-few : goal.returns-clause-few
returns-clause-few c = (c.in_ok-flat.ensures.rests c.args.program.now c.requires.fits.fits).few

pub invariant_of-result : goal.invariant_of-result
invariant_of-result c = (
  c.in_ok-flat.ensures.rests c.args.program.now c.requires.fits.fits,
  c.requires.taken,
  record { stands = subst (λ (tree : Sim). StandsTree (system c.args.program.now) c.args.time tree) (sym c.in_ok-flat.ensures.tree) c.requires.stands; moment = c.requires.moment },
)
