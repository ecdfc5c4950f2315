use Rattle.std.proofs.Common.{List, ◌++◌, map, sym, ◌∙◌, subst}
use Rattle.std.specs.List.{IsDistinct}
use Rattle.dsde_routes_wiring.specs.given.structure.Gather.{is_same_name}
use Rattle.dsde_routes_wiring.specs.declared.wiring.WiredKid.{WiredKid}
use Rattle.dsde_routes_wiring.specs.Places.{staying}
use Rattle.dsde_repair_walks.proofs.Changes.{kids-there}
use Rattle.dsde_repair_walks.specs.Found.{name_of}
use Rattle.dsde_repair.proofs.Fitted.{if-ok, on-true}
use Rattle.dsde_repair.proofs.fits.fits_place.Goals as goal

pub returns-in-Some-clause-names : goal.returns-in-Some-clause-names
returns-in-Some-clause-names c =
    if-ok c.have_own_names.result _ _
    (λ own. on-true own _ _ (subst (λ (kids : List WiredKid). IsDistinct is_same_name (map name_of (staying c.args.gone.now kids ++ c.args.fresh.now)))
    (c.as_slice.ensures ∙ sym (kids-there c.args.place.now c.args.wiring.now c.in-Some.net.now c.in-Some.ensures))))
    c.have_own_names.ensures
