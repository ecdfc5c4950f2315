use Rattle.std.proofs.Common.{length, refl}
use Rattle.dsde_values.specs.Path.{root}
use Rattle.dsde_sim_movers.specs.Turns.{turn_movers}
use Rattle.dsde_sim_movers.proofs.Drawn.{is-drawn}
use Rattle.dsde_sim_movers.proofs.order_laws.drawn_orders_are_lawful.Goals as goal

pub returns : goal.returns
returns c system tree time items words named enough =
    let list = turn_movers system tree time items in
    is-drawn root (length list) list words (c.path_order_is_lawful.ensures system tree time items named) refl enough
