use Rattle.std.proofs.Common.{List, [], Option, ap, sym, ◌∙◌, unwrap_or, rules, ℕ}
use Rattle.std.specs.BTreeMap.Entry.{map_with_value}
use Rattle.std.specs.declared.collections.btree_map.Entry.TheVariants.{Occupied}
use Rattle.dsde_routes_wiring.proofs.Adding.{added, ok-then}
use Rattle.dsde_routes_wiring.proofs.index.add_kid.Goals as goal

pub returns-then-is_same : goal.returns-then-is_same
returns-then-is_same c =
    ok-then c.push.result _ _
    (λ is. added c.one_name.ensures c.args.kids.now (map_with_value (Occupied c.in-Some.last) c.push.new.self) _ c.args.name.now c.into_mut.result.now c.push.new.self c.args.number
    (sym c.key.ensures ∙ c.is_same.ensures.0 c.if-is_same.true)
    (ap (λ (own : Option (List ℕ)). unwrap_or own []) (sym c.into_mut.ensures.value ∙ c.in-Some.ensures.value.1))
    is
    (c.in-Some.ensures.update.0 c.push.new.self)
    _ (search rules))
    c.push.ensures.ok
