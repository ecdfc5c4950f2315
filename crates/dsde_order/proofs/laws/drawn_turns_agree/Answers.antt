use Rattle.std.proofs.Common.{◌≤◌, length, arith}
use Rattle.dsde_values.specs.Path.{root}
use Rattle.dsde_sim_movers.specs.Turns.{turn_movers}
use Rattle.dsde_drawing.specs.Words.{next_words}
use Rattle.dsde_order.specs.Free.{drawn_movers}
use Rattle.dsde_order.proofs.Words.{length-words}
use Rattle.dsde_order.proofs.laws.drawn_turns_agree.Goals as goal

pub returns : goal.returns
returns c system tree number time items generator after other named one two =
    let movers = turn_movers system tree time items in
    let count = length movers in
    let words = next_words count generator in
    let counted = length-words count generator in
    let enough : count ≤ length words = omega (arith, counted) in
    let drawn = c.drawn_orders_are_lawful.ensures system tree time items words named enough in
    let lawful = (c.lawful_orders_are_drawn.ensures root movers (drawn_movers system tree time items generator)).1 drawn in
    c.orders_agree.ensures system tree number time items (drawn_movers system tree time items generator) after other named lawful.0 lawful.1 one two
