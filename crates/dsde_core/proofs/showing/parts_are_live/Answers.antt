use Rattle.dsde_core.proofs.Living.{boss-live, kids-live}
use Rattle.dsde_core.proofs.showing.parts_are_live.Goals as goal

pub returns-clause-executive : goal.returns-clause-executive
returns-clause-executive c = boss-live c.args._grove.now c.args._handle c.args._net.now c.requires

pub returns-clause-components : goal.returns-clause-components
returns-clause-components c = kids-live c.args._grove.now c.args._handle c.args._net.now c.requires
