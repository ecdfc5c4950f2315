use Rattle.std.proofs.Common.{◌≡◌, sym, subst, Ok, IsPermutation}
use Rattle.dsde_sim_tree.specs.Told.{Told}
use Rattle.dsde_sim_tree.specs.declared.sim.Sim.{Sim}
use Rattle.dsde_sim_movers.specs.Turns.{free_turn}
use Rattle.dsde_sim_movers.proofs.Agree.{turns-agree}
use Rattle.dsde_sim_movers.specs.lemmas.Named.{exact-by, placed-from}
use Rattle.dsde_sim_movers.proofs.order_laws.orders_agree.Goals as goal

pub returns : goal.returns
returns c system tree number time items order after other named is lawful one two =
    let by = c.turns_move_one_by_one.ensures system tree number time items named in
    subst (λ (own : Told Sim). own.end ≡ Ok after → (after ≡ other) × IsPermutation own.events (free_turn system tree number time items order).events) (sym by)
    (λ ends. turns-agree c.orders_are_total.ensures.names (exact-by c.one_name.ensures) system tree number time items order after other (placed-from tree named) is lawful ends two) one
