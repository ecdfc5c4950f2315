use Rattle.dsde_repair_walks.proofs.Finding.{same-at}
use Rattle.dsde_repair_walks.proofs.found.stands_at.Goals as goal

pub returns-in-Some : goal.returns-in-Some
returns-in-Some c same =
    same-at (λ name other. (c.one_name.ensures name other).0) c.args.name.now c.args.kids.now c.requires c.args.index
    c.in-Some.ensures.lookup.3.0 c.in-Some.kid.now c.in-Some.ensures.lookup.1 (c.is_same.ensures.0 same)
