use Rattle.std.proofs.Common.{◌≡◌, ◌∙◌, true, not, sym, ap, subst, Ok}
use Rattle.std.specs.Prelude.{IfOk, OnOk, OnErr}
use Rattle.std.specs.FinSet as set
use Rattle.std.specs.Option.{option_copied_mut}
use Rattle.std.specs.BTreeMap.{get_by, WritesThrough, insert_entry}
use Rattle.dsde_routes_wiring.specs.Sets.{Rows}
use Rattle.dsde_routes_table.specs.declared.source.Source.{Source}
use Rattle.dsde_routes_table.specs.Source.{source_cmp}
use Rattle.dsde_routes_table.specs.Table.{rows_of}
use Rattle.dsde_routes_table.proofs.Putting.{HasPut, put-some, put-none}
use Rattle.dsde_routes_table.proofs.table.RouteTable.put.Goals as goal

put_some : (c : goal.After-self-in-Some-1) → HasPut c.self.inside.buckets (c.get_mut.follows.lender c.put.new.self) c.args.row c.put.result
put_some c =
    put-some c.self.inside.buckets (c.get_mut.follows.lender c.put.new.self) c.args.row c.in-Some.bucket.now c.put.new.self c.self.invariant
    (ap (λ (key : Source). get_by (source_cmp key) c.self.inside.buckets) (sym c.new-source.ensures) ∙ sym c.get_mut.ensures.value ∙ ap option_copied_mut c.in-Some.is)
    (subst (λ (key : Source). WritesThrough source_cmp (source_cmp key) c.self.inside.buckets c.put.new.self (c.get_mut.follows.lender c.put.new.self)) c.new-source.ensures (c.get_mut.follows.holds c.put.new.self))
    c.put.result c.put.ensures.puts c.put.ensures.kept

put_none : (c : goal.Joined-branch-3) → HasPut c.self.inside.buckets c.insert.new.self c.args.row (Ok true)
put_none c =
    put-none c.self.inside.buckets c.insert.new.self c.args.row c.self.invariant
    (ap (λ (key : Source). get_by (source_cmp key) c.self.inside.buckets) (sym c.new-source.ensures) ∙ sym c.get_mut.ensures.value ∙ ap option_copied_mut c.in-None.is)
    (c.in_ok-insert-in-None.ensures.entries ∙ (λ i. insert_entry source_cmp (c.get_mut.follows.holds-at-none i).entries (c.new-source.ensures i) (c.in_ok-bucket-in-None.ensures i)))
    c.in_ok-insert-in-None.ensures.ordered

pub invariant_of-self : goal.invariant_of-self
invariant_of-self c = (put_some c).sound

pub invariant_of-self-in-None : goal.invariant_of-self-in-None
invariant_of-self-in-None c = (put_none c).sound

pub returns-in-Some-clause-rows : goal.returns-in-Some-clause-rows
returns-in-Some-clause-rows c =
    subst (λ (old : Rows). OnOk c.put.result (rows_of (c.get_mut.follows.lender c.put.new.self).entries ≡ set.insert old c.args.row)) c.self.view_is (put_some c).rows

pub returns-in-Some-clause-is_new : goal.returns-in-Some-clause-is_new
returns-in-Some-clause-is_new c =
    subst (λ (old : Rows). IfOk c.put.result (λ is_new. is_new ≡ not (set.contains old c.args.row))) c.self.view_is (put_some c).is_new

pub returns-in-Some-clause-kept : goal.returns-in-Some-clause-kept
returns-in-Some-clause-kept c =
    subst (λ (old : Rows). OnErr c.put.result (rows_of (c.get_mut.follows.lender c.put.new.self).entries ≡ old)) c.self.view_is (put_some c).kept

pub returns-in_ok-insert-in-None-clause-rows : goal.returns-in_ok-insert-in-None-clause-rows
returns-in_ok-insert-in-None-clause-rows c = (put_none c).rows ∙ ap (λ (old : Rows). set.insert old c.args.row) c.self.view_is

pub returns-in_ok-insert-in-None-clause-is_new : goal.returns-in_ok-insert-in-None-clause-is_new
returns-in_ok-insert-in-None-clause-is_new c = (put_none c).is_new ∙ ap (λ (old : Rows). not (set.contains old c.args.row)) c.self.view_is
