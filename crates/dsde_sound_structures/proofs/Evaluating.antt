-- An expression that stands may be evaluated.
use Rattle.std.proofs.Common.{◌≡◌, zero, suc, false, List, [], ◌∷◌, Some, refl, subst}
use Rattle.dsde_sim_tree.specs.given.syntax.decl_Model.{Model}
use Rattle.dsde_sim_tree.specs.given.language.node_ids_ExprId.{ExprId}
use Rattle.dsde_sound_structures.specs.Spots.{Spot, HasSpot, SpotsMayEval}
use Rattle.dsde_sound_names.specs.given.sound_expressions.Places.{IsExpr}

same-id : (one two : ExprId) → (let own = Some one in own) ≡ Some two → one ≡ two
same-id one two h = cc h

spot-at : (model : Model) (spot : Spot) (number : ExprId) → IsExpr model false spot.slots number.0 spot.expr spot.ty → (spots : List Spot) → HasSpot model (spot ∷ spots) 0 number
spot-at model spot number is spots = record {
  spot = spot;
  found = refl;
  may = λ vars fits. record { total = false; slots = spot.slots; expr = spot.expr; ty = spot.ty; vars = vars; is = is; fits = fits; are = refl };
}

pub spots-may-eval : SpotsMayEval
spots-may-eval model [] [] zero number all h = absurd (cc h)
spots-may-eval model [] [] (suc place) number all h = absurd (cc h)
spots-may-eval model [] (spot ∷ spots) place number all h = absurd all
spots-may-eval model (first ∷ numbers) [] place number all h = absurd all
spots-may-eval model (first ∷ numbers) (spot ∷ spots) zero number all h =
    subst (λ (own : ExprId). HasSpot model (spot ∷ spots) 0 own) (same-id first number h) (spot-at model spot first all.0 spots)
spots-may-eval model (first ∷ numbers) (spot ∷ spots) (suc place) number all h =
    let rest : HasSpot model spots place number = spots-may-eval model numbers spots place number all.1 h in
    record { spot = rest.spot; found = rest.found; may = rest.may }
