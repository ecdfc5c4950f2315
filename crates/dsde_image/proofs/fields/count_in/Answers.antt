use Rattle.std.proofs.Common.{◌∙◌}
use Rattle.dsde_image.proofs.Keys.{counted, counted-none}
use Rattle.dsde_image.proofs.fields.count_in.Goals as goal

pub returns-in-Some : goal.returns-in-Some
returns-in-Some c = c.len.ensures.len ∙ counted _ c.in-Some.members.now.entries c.in-Some.ensures c.len.ensures.ordered

pub returns-in-None : goal.returns-in-None
returns-in-None c = counted-none _ c.in-None.ensures
