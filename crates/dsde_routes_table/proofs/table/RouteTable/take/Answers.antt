use Rattle.std.proofs.Common.{rules, ◌∙◌, false, sym, ap, subst}
use Rattle.std.specs.Bool.{IsTrue}
use Rattle.std.specs.FinSet as set
use Rattle.std.specs.Option.{option_copied_mut}
use Rattle.std.specs.BTreeMap.{get_by}
use Rattle.dsde_routes_wiring.specs.Sets.{Rows}
use Rattle.dsde_routes_table.specs.declared.source.Source.{Source}
use Rattle.dsde_routes_table.specs.Source.{source_cmp}
use Rattle.dsde_routes_table.specs.Table.{rows_of}
use Rattle.dsde_routes_table.proofs.Putting.{HasTaken, take-none, take-known, take-known-last}
use Rattle.dsde_routes_table.proofs.table.RouteTable.take.Goals.{in-Some-1, in-None-1}
use Rattle.dsde_routes_table.proofs.table.RouteTable.take.Goals as goal

none : (c : goal.After-self-in_default-2-1) → HasTaken c.self.inside.buckets c.self.inside.buckets c.args.row.now false
none c =
    take-none c.self.inside.buckets c.args.row.now c.self.invariant
    (ap (λ (key : Source). get_by (source_cmp key) c.self.inside.buckets) (sym c.new-source.ensures) ∙ sym c.get_mut.ensures.value ∙ ap option_copied_mut c.in_default.is)

kept : (c : goal.Else-is_empty) → HasTaken c.self.inside.buckets (c.get_mut.follows.lender c.take-was_there.new.self) c.args.row.now c.take-was_there.result
kept c =
    take-known c.self.inside.buckets (c.get_mut.follows.lender c.take-was_there.new.self) c.new-source.result c.args.row.now c.in-Some.bucket.now c.take-was_there.new.self c.take-was_there.result c.new-source.ensures c.self.invariant
    (sym c.get_mut.ensures.value ∙ ap option_copied_mut c.in-Some.is) (c.get_mut.follows.holds c.take-was_there.new.self) c.take-was_there.ensures

empty : (c : goal.After-drop-remove) → HasTaken c.self.inside.buckets c.remove.new.self c.args.row.now c.take-was_there.result
empty c =
    take-known-last c.self.inside.buckets (c.get_mut.follows.lender c.take-was_there.new.self) c.remove.new.self c.new-source.result c.args.row.now c.in-Some.bucket.now c.take-was_there.new.self c.take-was_there.result c.new-source.ensures c.self.invariant
    (sym c.get_mut.ensures.value ∙ ap option_copied_mut c.in-Some.is) (c.get_mut.follows.holds c.take-was_there.new.self) c.take-was_there.ensures
    (c.is_empty.ensures.0 (subst IsTrue (sym c.if-is_empty.true) (search rules)))
    c.remove.ensures.entries c.remove.ensures.ordered

joined : (c : goal.Joined-remove) → HasTaken c.self.inside.buckets c.remove.new.self c.args.row.now c.take-was_there.result
joined c =
    take-known-last c.self.inside.buckets (c.get_mut.follows.lender c.take-was_there.new.self) c.remove.new.self c.new-source.result c.args.row.now c.in-Some.bucket.now c.take-was_there.new.self c.take-was_there.result c.new-source.ensures c.self.invariant
    (sym c.get_mut.ensures.value ∙ ap option_copied_mut c.in-Some.is) (c.get_mut.follows.holds c.take-was_there.new.self) c.take-was_there.ensures
    (c.is_empty.ensures.0 (subst IsTrue (sym c.if-is_empty.true) (search rules)))
    c.remove.ensures.entries c.remove.ensures.ordered

pub returns-in_default-clause-rows : goal.returns-in_default-clause-rows
returns-in_default-clause-rows c = ap rows_of (ap (λ m. m.entries) c.get_mut.follows.holds-at-none) ∙ (none c).rows ∙ ap (λ (old : Rows). set.remove old c.args.row.now) c.self.view_is

pub returns-in_default-clause-was_there : goal.returns-in_default-clause-was_there
returns-in_default-clause-was_there c = (none c).was_there ∙ ap (λ (old : Rows). set.contains old c.args.row.now) c.self.view_is

pub invariant_of-self-then-is_empty : goal.invariant_of-self-then-is_empty
invariant_of-self-then-is_empty c = (empty c).sound

pub invariant_of-self-else-is_empty : goal.invariant_of-self-else-is_empty
invariant_of-self-else-is_empty c = (kept c).sound

pub returns-then-is_empty-clause-rows : goal.returns-then-is_empty-clause-rows
returns-then-is_empty-clause-rows c = elim c.match-remove.branch [
  | in-Some-1 w ↦ w.self-is ∙ (joined c).rows ∙ ap (λ (old : Rows). set.remove old c.args.row.now) c.self.view_is
  | in-None-1 w ↦ w.self-is ∙ (joined c).rows ∙ ap (λ (old : Rows). set.remove old c.args.row.now) c.self.view_is
]

pub returns-then-is_empty-clause-was_there : goal.returns-then-is_empty-clause-was_there
returns-then-is_empty-clause-was_there c = (joined c).was_there ∙ ap (λ (old : Rows). set.contains old c.args.row.now) c.self.view_is

pub returns-else-is_empty-clause-rows : goal.returns-else-is_empty-clause-rows
returns-else-is_empty-clause-rows c = (kept c).rows ∙ ap (λ (old : Rows). set.remove old c.args.row.now) c.self.view_is

pub returns-else-is_empty-clause-was_there : goal.returns-else-is_empty-clause-was_there
returns-else-is_empty-clause-was_there c = (kept c).was_there ∙ ap (λ (old : Rows). set.contains old c.args.row.now) c.self.view_is
