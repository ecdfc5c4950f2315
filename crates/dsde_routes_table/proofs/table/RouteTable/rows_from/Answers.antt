use Rattle.std.proofs.Common.{◌≡◌, ◌↔◌, ◌∙◌, true, sym, ap, subst, List, [], Option, Some}
use Rattle.std.specs.Prelude.{Contains}
use Rattle.std.specs.FinSet as set
use Rattle.std.specs.Option.{option_copied}
use Rattle.std.specs.BTreeMap.{get_by}
use Rattle.dsde_routes_wiring.specs.declared.row.Row.{Row}
use Rattle.dsde_routes_wiring.specs.Sets.{Rows}
use Rattle.dsde_routes_wiring.specs.Flatten.{is_from}
use Rattle.dsde_routes_table.specs.declared.source.Source.{Source}
use Rattle.dsde_routes_table.specs.Source.{source_cmp}
use Rattle.dsde_routes_table.proofs.Looking.{each-found, none-found}
use Rattle.dsde_routes_table.proofs.table.RouteTable.rows_from.Goals as goal

pub returns-in-Some-clause-each : goal.returns-in-Some-clause-each
returns-in-Some-clause-each c = λ row.
    subst (λ (table : Rows). Contains c.as_slice.result.now row ↔ ((set.contains table row ≡ true) × (is_from c.args.source c.args.port row ≡ true))) c.self.view_is
    (each-found c.self.inside.buckets c.self.invariant c.args.source c.args.port c.as_slice.result.now
    (ap (λ (key : Source). get_by (source_cmp key) c.self.inside.buckets) (sym c.new.ensures) ∙ sym c.get.ensures.value ∙ ap option_copied c.in-Some.is ∙ ap (λ (rows : List Row). let known : Option (List Row) = Some rows in known) (sym c.as_slice.ensures.rows))
    row)

pub returns-in-None-clause-each : goal.returns-in-None-clause-each
returns-in-None-clause-each c = λ row.
    subst (λ (table : Rows). Contains [] row ↔ ((set.contains table row ≡ true) × (is_from c.args.source c.args.port row ≡ true))) c.self.view_is
    (none-found c.self.inside.buckets c.self.invariant c.args.source c.args.port
    (ap (λ (key : Source). get_by (source_cmp key) c.self.inside.buckets) (sym c.new.ensures) ∙ sym c.get.ensures.value ∙ ap option_copied c.in-None.is)
    row)
