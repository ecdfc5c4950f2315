use Rattle.dsde_repair.proofs.Changing.{ok-map}
use Rattle.dsde_repair.proofs.repairing.put_in_order.Goals as goal

pub returns : goal.returns
returns c = ok-map c.renew.result _ _ (λ is. (c.in_ok-kids.kids, c.in_ok-kids.ensures.same, c.in_ok-kids.ensures.order, is)) c.renew.ensures
