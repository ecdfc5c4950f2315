use Rattle.std.proofs.Common.{◌≡◌, ◌++◌, false, List, ◌∷◌, map, Ok, sym, subst, rules, ap, ◌∙◌}
use Rattle.dsde_executive_plans.specs.given.structure.plan_Entry.{Entry}
use Rattle.dsde_executive_plans.specs.given.structure.Survival.{IsInOrder}
use Rattle.dsde_executive_planner.specs.Entries.{entry_of}
use Rattle.dsde_executive_planner.proofs.Placing.{before-it, grown, none-before}
use Rattle.dsde_executive_planner.proofs.Searching.{total}
use Rattle.dsde_executive_planner.proofs.entries.mapped.Goals as goal

pub loop-entry-preserved : goal.loop-entry-preserved
loop-entry-preserved c =
    let done = map entry_of c.loop-entry.map.entries in
    let rest = c.next.new.self.rest.items in
    let whole : done ++ c.in-Some.entry ∷ rest ≡ c.args.list.items = search rules in
    let before = before-it done c.in-Some.entry rest (subst IsInOrder (sym whole) c.requires) in
    let free : c.in_ok-put_in_map.field-0 ≡ false = c.in_ok-put_in_map.ensures.taken ∙ none-before c.in-Some.entry.name done before in
    let put = c.in_ok-put_in_map.ensures.put (ap Ok free) in
    (ap (λ (entries : List Entry). entries ++ rest) put ∙ grown total done c.in-Some.entry rest c.args.list.items before whole, c.in_ok-put_in_map.ensures.order)
