use Rattle.std.proofs.Common.{List, map, sym, subst, rules}
use Rattle.std.proofs.lemmas.Fn.{always_returns_same}
use Rattle.dsde_values.specs.declared.name.Name.{Name}
use Rattle.dsde_values.specs.Path.{name_cmp}
use Rattle.dsde_routes_wiring.specs.given.structure.Survival.{AreInOrder}
use Rattle.dsde_repair_walks.specs.Found.{name_of}
use Rattle.dsde_repair_walks.proofs.Searching.{one-found, none-found, some-any, none-any, names-themselves}
use Rattle.dsde_repair_walks.proofs.found.is_among.Goals as goal

abbrev itself : Name → Name
itself name = name

sorted : (names : List Name) → AreInOrder names → AreInOrder (map itself names)
sorted names is = subst AreInOrder (sym (names-themselves names)) is

pub returns-in-Ok : goal.returns-in-Ok
returns-in-Ok c =
    let name : Name = name_of c.args.kid.now in
    let by_key = c.in-Ok.ensures.position (λ (own : Name). name_cmp own (name_of c.args.kid.now)) (always_returns_same _ _ _ (λ a r after called. search rules)) in
    sym (some-any itself (λ one other. (c.one_name.ensures one other).0) name c.args.names.now c.in-Ok.field-0
    (one-found itself (λ one other. (c.one_name.ensures one other).0) name c.args.names.now (sorted c.args.names.now c.requires) c.in-Ok.field-0 c.in-Ok.ensures.bound by_key))

pub returns-in-Err : goal.returns-in-Err
returns-in-Err c =
    let name : Name = name_of c.args.kid.now in
    let by_key = c.in-Err.ensures.position (λ (own : Name). name_cmp own (name_of c.args.kid.now)) (always_returns_same _ _ _ (λ a r after called. search rules)) in
    sym (none-any itself name c.args.names.now (none-found itself name c.args.names.now (sorted c.args.names.now c.requires) c.in-Err.field-0 by_key))
