use Rattle.std.proofs.Common.{Ok, Err, sym, rules}
use Rattle.std.proofs.lemmas.Fn.{always_returns_same}
use Rattle.dsde_sim_tree.specs.Tree.{name_of}
use Rattle.dsde_values.specs.Path.{name_cmp}
use Rattle.dsde_sim_tree.specs.declared.sim.Kid.{Kid}
use Rattle.dsde_sim_gathering.proofs.Placing.{searched}
use Rattle.dsde_sim_gathering.proofs.names.place_of_kid.Goals as goal

pub returns-in-Ok : goal.returns-in-Ok
returns-in-Ok c =
    let by_key = c.in-Ok.ensures.position (λ (kid : Kid). name_cmp (name_of kid) c.args.name.now) (always_returns_same _ _ _ (λ a r after called. search rules)) in
    sym (searched name_of (λ name other. (c.one_name.ensures name other).0) c.args.name.now c.args.kids.now c.requires (Ok c.in-Ok.index) c.in-Ok.ensures.bound by_key)

pub returns-in-Err : goal.returns-in-Err
returns-in-Err c =
    let by_key = c.in-Err.ensures.position (λ (kid : Kid). name_cmp (name_of kid) c.args.name.now) (always_returns_same _ _ _ (λ a r after called. search rules)) in
    sym (searched name_of (λ name other. (c.one_name.ensures name other).0) c.args.name.now c.args.kids.now c.requires (Err c.in-Err.field-0) c.in-Err.ensures.bound by_key)
