use Rattle.std.proofs.Common.{◌++◌, List, map, append_assoc, ap, sym, ◌∙◌, subst}
use Rattle.std.specs.List.{AllByRecursion}
use Rattle.dsde_routes_wiring.specs.declared.row.Row.{Row}
use Rattle.dsde_routes_wiring.specs.declared.wiring.WiredKid.{WiredKid}
use Rattle.dsde_routes_wiring.specs.declared.wiring.WiredKid.TheViews.{out-Wiring}
use Rattle.dsde_routes_wiring.specs.Places.{going, inside, kids_at, through}
use Rattle.dsde_routes_wiring.specs.Routes.{own, row_of}
use Rattle.dsde_routes_wiring.specs.Wired.{AreWired}
use Rattle.dsde_repair_walks.specs.Places.{IsBelowWired}
use Rattle.dsde_repair.proofs.Changing.{ok-const, ok-map, after-wired}
use Rattle.dsde_repair.proofs.repairing.change_to.Goals as goal

pub add_inside-requires : goal.add_inside-requires
add_inside-requires c = subst (AllByRecursion IsBelowWired) (sym c.as_slice.ensures) c.requires.below

pub add_through-requires-2 : goal.add_through-requires-2
add_through-requires-2 c = subst AreWired (sym c.in_ok-change_kids.ensures.wiring.3) (after-wired c.args.place.now c.args.gone.now c.args.fresh.now c.in_ok-change_kids.ensures.wiring.0 c.args.links.now c.args.wiring.now c.requires.there c.requires.wired c.in_ok-change_kids.ensures.wiring.1 c.in_ok-change_kids.ensures.wiring.2 c.requires.links c.requires.below)

pub returns-clause-wiring : goal.returns-clause-wiring
returns-clause-wiring c = ok-const c.add_through-2.result _ c.in_ok-change_kids.ensures.wiring

pub returns-clause-old : goal.returns-clause-old
returns-clause-old c =
    let passing : List Row = map row_of (through (own (out-Wiring c.args.wiring.now).me) c.args.place.now c.args.wiring.now) in
    let went : List Row = map row_of (inside (going c.args.gone.now (kids_at c.args.place.now c.args.wiring.now))) in
    ok-const c.add_through-2.result _ (c.in_ok-change_kids.ensures.rows ∙ ap (λ (rows : List Row). rows ++ went) c.in_ok-add_through.ensures ∙ append_assoc c.args.old.now passing went)

pub returns-clause-new : goal.returns-clause-new
returns-clause-new c =
    let coming : List WiredKid → List Row = λ kids. map row_of (inside kids) in
    let passing : List Row = map row_of (through (own (out-Wiring c.change_kids.new.wiring).me) c.args.place.now c.change_kids.new.wiring) in
    ok-map c.add_through-2.result _ _
    (λ is. is ∙ ap (λ (rows : List Row). rows ++ passing) (c.in_ok-add_inside.ensures ∙ ap (λ kids. c.args.new.now ++ coming kids) c.as_slice.ensures) ∙ append_assoc c.args.new.now (coming c.args.fresh.now) passing)
    c.add_through-2.ensures
