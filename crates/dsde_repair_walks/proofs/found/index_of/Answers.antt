use Rattle.std.proofs.Common.{rules}
use Rattle.std.proofs.lemmas.Fn.{always_returns_same}
use Rattle.dsde_values.specs.Path.{name_cmp}
use Rattle.dsde_routes_wiring.specs.declared.wiring.WiredKid.{WiredKid}
use Rattle.dsde_repair_walks.specs.Found.{name_of}
use Rattle.dsde_repair_walks.proofs.Finding.{at-found}
use Rattle.dsde_repair_walks.proofs.Searching.{one-found, none-found}
use Rattle.dsde_repair_walks.proofs.found.index_of.Goals as goal

pub returns-in-Ok : goal.returns-in-Ok
returns-in-Ok c =
    let by_key = c.in-Ok.ensures.position (λ (kid : WiredKid). name_cmp (name_of kid) c.args.name.now) (always_returns_same _ _ _ (λ a r after called. search rules)) in
    at-found c.args.name.now c.args.kids.now c.in-Ok.index (one-found name_of (λ name other. (c.one_name.ensures name other).0) c.args.name.now c.args.kids.now c.requires c.in-Ok.index c.in-Ok.ensures.bound by_key)

pub returns-in-Err : goal.returns-in-Err
returns-in-Err c =
    let by_key = c.in-Err.ensures.position (λ (kid : WiredKid). name_cmp (name_of kid) c.args.name.now) (always_returns_same _ _ _ (λ a r after called. search rules)) in
    none-found name_of c.args.name.now c.args.kids.now c.requires c.in-Err.field-0 by_key
