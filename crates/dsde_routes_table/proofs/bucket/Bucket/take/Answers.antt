use Rattle.std.proofs.Common.{true, false, List, sym, subst}
use Rattle.dsde_routes_wiring.specs.declared.row.Row.{Row}
use Rattle.dsde_routes_table.specs.Order.{Takes}
use Rattle.dsde_routes_table.specs.Places.{IsPlace}
use Rattle.dsde_routes_table.specs.declared.place.Place.TheVariants.{Here, Free}
use Rattle.dsde_routes_table.proofs.Edits.{takes-here, takes-free}
use Rattle.dsde_routes_table.proofs.bucket.Bucket.take.Goals as goal

taken : (c : goal.Joined-remove-2) → Takes c.args.row.now c.self.inside.rows.items c.remove.new.self.items true
taken c =
    subst (λ (rows : List Row). Takes c.args.row.now c.self.inside.rows.items rows true) (sym c.remove.ensures.items)
    (takes-here c.self.inside.rows.items c.in-Here.index c.args.row.now c.self.invariant.0 c.self.invariant.1
    (subst (λ (rows : List Row). IsPlace rows c.args.row.now (Here c.in-Here.index)) c.as_slice.ensures.value c.in-Here.ensures))

pub invariant_of-self : goal.invariant_of-self
invariant_of-self c = let takes = taken c in (takes.order, takes.once)

pub returns-in-Here : goal.returns-in-Here
returns-in-Here c = subst (λ (rows : List Row). Takes c.args.row.now rows c.remove.new.self.items true) c.self.view_is (taken c)

pub returns-in-Free : goal.returns-in-Free
returns-in-Free c =
    subst (λ (rows : List Row). Takes c.args.row.now rows rows false) c.self.view_is
    (takes-free c.self.inside.rows.items c.in-Free.field-0 c.args.row.now c.self.invariant.0 c.self.invariant.1
    (subst (λ (rows : List Row). IsPlace rows c.args.row.now (Free c.in-Free.field-0)) c.as_slice.ensures.value c.in-Free.ensures))
