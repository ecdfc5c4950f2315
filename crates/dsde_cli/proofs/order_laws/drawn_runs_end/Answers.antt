use Rattle.dsde_cli.proofs.OrderTurning.{drawn-runs-end}
use Rattle.dsde_cli.proofs.order_laws.drawn_runs_end.Goals as goal

pub returns : goal.returns
returns c = λ own seed records turns right arrive.
    drawn-runs-end own.model (record {
      right = right;
      component = λ number args fits. c.components_are_sure.ensures own.model number args right fits;
      structure = λ number args state network fits stood. c.structures_are_sure.ensures own.model number args state right network fits stood;
      top = c.top_is_sure.ensures own.model right;
      gathered = c.gathered_fits.ensures;
      sent = c.sent_fits.ensures;
      covers = c.reach_covers.ensures;
      one = c.one_name.ensures;
      survivor = c.survivors_keep_their_roles.ensures.found;
    }) (record {
      leaf = c.movers_are_walked.ensures.leaf;
      net = c.movers_are_walked.ensures.net;
      found = c.deliveries_are_found.ensures;
      wait = c.lawful_movers_wait.ensures;
      orders = c.lawful_orders_are_drawn.ensures;
      draws = c.drawn_orders_are_lawful.ensures;
    }) own.spots seed records turns arrive
