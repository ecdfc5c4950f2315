use Rattle.std.proofs.Common.{rules, List, [], ◌++◌, Option, ap, sym, ◌∙◌, unwrap_or}
use Rattle.std.specs.BTreeMap.Entry.{entry_value, map_with_value}
use Rattle.std.specs.Prelude.{if◌then◌else◌}
use Rattle.dsde_routes_wiring.specs.given.structure.plan_Part.{Part}
use Rattle.dsde_routes_wiring.specs.given.structure.plan_Part_TheVariants as part
use Rattle.dsde_routes_wiring.specs.given.structure.Gather.{is_part}
use Rattle.dsde_routes_wiring.specs.declared.row.Passing.{Passing}
use Rattle.dsde_routes.specs.Passing.{carry, come_of, from_parts}
use Rattle.dsde_routes.specs.Putting.{comes_to}
use Rattle.dsde_routes.proofs.Named.{more-to}
use Rattle.dsde_routes.proofs.Numbered.{ok-map}
use Rattle.dsde_routes.proofs.comes.Comes.add.Goals as goal

pub returns-in_ok-self-in-Kid-clause-kids : goal.returns-in_ok-self-in-Kid-clause-kids
returns-in_ok-self-in-Kid-clause-kids c = ok-map c.carry-in-Kid.result _ _ (λ is other.
    let more = carry (from_parts (come_of c.args.come) c.args.boss c.args.kids.now) c.args.number c.args.link.now in
    more-to c.in_ok-copy-in-Kid.field-0 c.in-Kid.name other c.args.self.now.kids (map_with_value c.in_ok-self-in-Kid.field-0 c.carry-in-Kid.new.ways) c.or_insert-list.result.now c.carry-in-Kid.new.ways more
    c.in_ok-copy-in-Kid.ensures
    (c.or_insert-list.ensures.value ∙ ap (unwrap_or (entry_value c.in_ok-self-in-Kid.field-0)) c.new.ensures
    ∙ ap (λ (own : Option (List Passing)). unwrap_or own []) c.in_ok-self-in-Kid.ensures.value)
    is
    ((c.in_ok-self-in-Kid.ensures.update.0 c.carry-in-Kid.new.ways).0 other)
    _ (search rules)
    ∙ ap (λ (p : Part). comes_to c.args.self.now other ++ (let both : List Passing = if is_part p (part.Kid other) then more else [] in both)) (sym c.in-Kid.is))
    c.carry-in-Kid.ensures
