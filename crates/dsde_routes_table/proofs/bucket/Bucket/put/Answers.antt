use Rattle.std.proofs.Common.{true, false, List, sym, subst}
use Rattle.dsde_routes_wiring.specs.declared.row.Row.{Row}
use Rattle.dsde_routes_table.specs.Order.{Puts}
use Rattle.dsde_routes_table.specs.Places.{IsPlace}
use Rattle.dsde_routes_table.specs.declared.place.Place.TheVariants.{Here, Free}
use Rattle.dsde_routes_table.proofs.Edits.{puts-here, puts-free}
use Rattle.dsde_routes_table.proofs.bucket.Bucket.put.Goals as goal

placed : (c : goal.In_ok-insert-in-Free) → Puts c.args.row c.self.inside.rows.items c.insert.new.self.items true
placed c =
    subst (λ (rows : List Row). Puts c.args.row c.self.inside.rows.items rows true) (sym c.in_ok-insert-in-Free.ensures.items)
    (puts-free c.self.inside.rows.items c.in-Free.index c.args.row c.self.invariant.0 c.self.invariant.1
    (subst (λ (rows : List Row). IsPlace rows c.args.row (Free c.in-Free.index)) c.as_slice.ensures.value c.in-Free.ensures))

pub invariant_of-self-in-Free : goal.invariant_of-self-in-Free
invariant_of-self-in-Free c = let puts = placed c in (puts.order, puts.once)

pub returns-in-Here-clause-puts : goal.returns-in-Here-clause-puts
returns-in-Here-clause-puts c =
    subst (λ (rows : List Row). Puts c.args.row rows rows false) c.self.view_is
    (puts-here c.self.inside.rows.items c.in-Here.field-0 c.args.row c.self.invariant.0 c.self.invariant.1
    (subst (λ (rows : List Row). IsPlace rows c.args.row (Here c.in-Here.field-0)) c.as_slice.ensures.value c.in-Here.ensures))

pub returns-in_ok-insert-in-Free-clause-puts : goal.returns-in_ok-insert-in-Free-clause-puts
returns-in_ok-insert-in-Free-clause-puts c = subst (λ (rows : List Row). Puts c.args.row rows c.insert.new.self.items true) c.self.view_is (placed c)
