use Rattle.std.proofs.Common.{◌≡◌, ◌∙◌, false, ap, map, sym, is_some}
use Rattle.dsde_executive_plans.specs.Layout.{is_there}
use Rattle.dsde_executive_planner.specs.Entries.{entry_of}
use Rattle.dsde_executive_planner.proofs.Naming.{found, put_in}
use Rattle.dsde_executive_planner.proofs.entries.put_in_map.Goals as goal

pub returns-in-Ok-clause-taken : goal.returns-in-Ok-clause-taken
returns-in-Ok-clause-taken c =
    c.is_some.ensures
    ∙ ap is_some c.in-Ok.ensures.old
    ∙ found c.orders_are_total.ensures.names c.args.entry.name c.args.map.now.entries

pub returns-in-Ok-clause-put : goal.returns-in-Ok-clause-put
returns-in-Ok-clause-put c = λ free.
    let absent : is_there c.args.entry.name (map entry_of c.args.map.now.entries) ≡ false =
    sym (c.is_some.ensures ∙ ap is_some c.in-Ok.ensures.old ∙ found c.orders_are_total.ensures.names c.args.entry.name c.args.map.now.entries) ∙ cc in
    ap (map entry_of) c.in-Ok.ensures.entries
    ∙ put_in c.orders_are_total.ensures.names c.args.entry.name (record { model = c.args.entry.model; args = c.args.entry.args; soft = c.args.entry.soft }) c.args.map.now.entries absent
