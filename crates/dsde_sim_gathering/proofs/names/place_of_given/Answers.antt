use Rattle.std.proofs.Common.{Ok, Err, sym, rules}
use Rattle.std.proofs.lemmas.Fn.{always_returns_same}
use Rattle.dsde_values.specs.Path.{name_cmp}
use Rattle.dsde_sim_tree.specs.given.structure.sources_Given.{Given}
use Rattle.dsde_sim_gathering.proofs.Placing.{searched}
use Rattle.dsde_sim_gathering.proofs.names.place_of_given.Goals as goal

pub returns-in-Ok-clause-is : goal.returns-in-Ok-clause-is
returns-in-Ok-clause-is c =
    let by_key = c.in-Ok.ensures.position (λ (given : Given). name_cmp given.name c.args.name.now) (always_returns_same _ _ _ (λ a r after called. search rules)) in
    sym (searched (λ (given : Given). given.name) (λ name other. (c.one_name.ensures name other).0) c.args.name.now c.args.kids.now c.requires (Ok c.in-Ok.index) c.in-Ok.ensures.bound by_key)

pub returns-in-Err-clause-is : goal.returns-in-Err-clause-is
returns-in-Err-clause-is c =
    let by_key = c.in-Err.ensures.position (λ (given : Given). name_cmp given.name c.args.name.now) (always_returns_same _ _ _ (λ a r after called. search rules)) in
    sym (searched (λ (given : Given). given.name) (λ name other. (c.one_name.ensures name other).0) c.args.name.now c.args.kids.now c.requires (Err c.in-Err.field-0) c.in-Err.ensures.bound by_key)
