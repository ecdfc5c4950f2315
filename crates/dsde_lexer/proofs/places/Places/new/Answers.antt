use Rattle.dsde_lexer.proofs.OrderLemmas.{tokens-in_order, tokens-fit}
use Rattle.dsde_lexer.proofs.PlacesLemmas.{HasPlaces-none, HasPlaces-next, HasPlaces-more, HasPlaces-all, IsSpot-start}
use Rattle.dsde_lexer.proofs.places.Places.new.Goals as goal

pub loop-token-init : goal.loop-token-init
loop-token-init c =
    let bytes = c.args.bytes.now in
    let tokens = c.args.tokens.now in
    rw c.new-spots.ensures (HasPlaces-none bytes tokens _ (IsSpot-start bytes (tokens-fit bytes tokens c.requires)) (tokens-in_order bytes tokens c.requires))

pub moved_to-spot-requires-clause-within : goal.moved_to-spot-requires-clause-within
moved_to-spot-requires-clause-within c =
    (HasPlaces-next c.loop-token.invariant c.loop-token-test.true c.token-item.result c.token-item.is).within

pub loop-token-preserved : goal.loop-token-preserved
loop-token-preserved c =
    let spot = c.moved_to-spot.result in
    rw c.in_ok-push.ensures.ok (HasPlaces-more c.loop-token.invariant c.loop-token-test.true c.token-item.result c.token-item.is spot c.moved_to-spot.ensures.there c.moved_to-spot.ensures.exact)

pub returns-clause-each : goal.returns-clause-each
returns-clause-each c =
    let spot = c.moved_to-spot-2.result in
    rw c.in_ok-push-2.ensures.ok ((HasPlaces-all c.loop-token.invariant c.loop-token-test.false spot c.moved_to-spot-2.ensures.there c.moved_to-spot-2.ensures.exact).each)
