use Rattle.std.proofs.Common.{sym, rules}
use Rattle.std.proofs.lemmas.Fn.{always_returns_same}
use Rattle.dsde_values.specs.Path.{name_cmp}
use Rattle.dsde_executive_plans.specs.given.structure.plan_Entry.{Entry}
use Rattle.dsde_executive_planner.proofs.Searching.{there-found, none-found}
use Rattle.dsde_executive_planner.proofs.found.index_of.Goals as goal

pub returns-in-Ok : goal.returns-in-Ok
returns-in-Ok c =
    let by_key = c.in-Ok.ensures.position (λ (entry : Entry). name_cmp entry.name c.args.name.now) (always_returns_same _ _ _ (λ a r after called. search rules)) in
    sym (there-found c.args.name.now c.args.entries.now c.in-Ok.index c.in-Ok.ensures.bound by_key)

pub returns-in-Err : goal.returns-in-Err
returns-in-Err c =
    let by_key = c.in-Err.ensures.position (λ (entry : Entry). name_cmp entry.name c.args.name.now) (always_returns_same _ _ _ (λ a r after called. search rules)) in
    sym (none-found c.args.name.now c.args.entries.now c.requires c.in-Err.field-0 by_key)
