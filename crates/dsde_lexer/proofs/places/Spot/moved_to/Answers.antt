use Rattle.std.proofs.Common.{◌<◌, length, sym, subst, arith}
use Rattle.dsde_lexer.specs.declared.places.Spot.{Spot}
use Rattle.dsde_lexer.specs.Spots.{IsSpot}
use Rattle.dsde_lexer.proofs.PlacesLemmas.{IsSpot-behind, IsSpot-room}
use Rattle.dsde_lexer.proofs.places.Spot.moved_to.Goals as goal

pub behind-spot-requires-clause-column : goal.behind-spot-requires-clause-column
behind-spot-requires-clause-column c =
    let inside : c.loop-spot.spot.offset < length c.args.bytes.now = omega arith in
    (IsSpot-room c.loop-spot.invariant.0 inside).1

pub loop-spot-preserved : goal.loop-spot-preserved
loop-spot-preserved c =
    let inside : c.loop-spot.spot.offset < length c.args.bytes.now = omega arith in
    let P : Spot → Type 0 = IsSpot c.args.bytes.now in
    (subst P (sym c.behind-spot.ensures) (IsSpot-behind c.loop-spot.invariant.0 inside), rw c.behind-spot.ensures (omega arith))
