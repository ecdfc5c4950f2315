use Rattle.dsde_sim_moving.proofs.Made.{plan-links}
use Rattle.dsde_sim_moving.proofs.net.replanned.Goals as goal

pub returns-clause-fits : goal.returns-clause-fits
returns-clause-fits c =
    c.in_ok-net.ensures.fits c.args.program.now c.requires.args c.requires.boss c.requires.boss_is c.in_ok-kids.ensures.fits
    (plan-links c.args.program.now c.args.model c.args.plan c.in_ok-kids.kids c.requires.plan c.requires.network c.in_ok-kids.ensures.are)
