use Rattle.std.proofs.Common.{List, [], Option, ap, ◌∙◌, unwrap_or, rules, ℕ}
use Rattle.std.specs.BTreeMap.Entry.{entry_value, map_with_value}
use Rattle.dsde_routes_wiring.proofs.Adding.{added, ok-then}
use Rattle.dsde_routes_wiring.proofs.index.put_kid.Goals as goal

pub returns : goal.returns
returns c =
    ok-then c.push.result _ _
    (λ is. added c.one_name.ensures c.args.kids.now (map_with_value c.in_ok-kids.field-0 c.push.new.self) c.in_ok-copy.field-0 c.args.name.now c.or_insert-numbers.result.now c.push.new.self c.args.number
    c.in_ok-copy.ensures
    (c.or_insert-numbers.ensures.value ∙ ap (unwrap_or (entry_value c.in_ok-kids.field-0)) c.new.ensures
    ∙ ap (λ (own : Option (List ℕ)). unwrap_or own []) c.in_ok-kids.ensures.value)
    is
    (c.in_ok-kids.ensures.update.0 c.push.new.self)
    _ (search rules))
    c.push.ensures.ok
